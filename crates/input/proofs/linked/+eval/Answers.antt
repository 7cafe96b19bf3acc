-- An expression and what it is made of: each answers what its definition makes of its operands (Evaluation).
use Rattle.std.proofs.Common.{sym, ap, ◌∙◌, arith, rules}
use Rattle.paths_numbers.proofs.Integers.{read}
use Rattle.paths_numbers.proofs.Casts.{signed_is}
use Rattle.paths_numbers.proofs.Relations.{read_truth}
use Rattle.std.proofs.lemmas.Result.{err_from_is_err_and}
use Rattle.levels.specs.machine.Held.{rules_at}
use Rattle.input.specs.meaning.Expr.{value, eval, applied}
use Rattle.input.specs.meaning.Input.{span_at}
use Rattle.input.specs.machine.At.{record_at}
use Rattle.input.proofs.Read.{some_nesting, parts_shallow}
use Rattle.input.proofs.Evaluation.{infix_short, conditional_short, decided}
use Rattle.input.proofs.Evaluation.{value_passes, second_decides, second_fails, plain_infix}
use Rattle.input.proofs.Evaluation.{no_first, first_is, first_operand_in, two_in, three_in}
use Rattle.input.proofs.Evaluation.{eval_kind, eval_macro, eval_other, binary_fails, binary_value}
use Rattle.input.proofs.Evaluation.{conditional_fails, conditional_value}
use Rattle.input.proofs.Levels.{character_at}
use Rattle.input.proofs.linked.+eval.Goals as goal

pub Record::eval-returns-then-nesting-eq0 : goal.Record::eval-returns-then-nesting-eq0
Record::eval-returns-then-nesting-eq0 t c =
    absurd (omega (
      arith,
      some_nesting c.args.self c.args.nesting c.requires.shallow,
    ))

pub Record::eval-eval_prefix_at-requires : goal.Record::eval-eval_prefix_at-requires
Record::eval-eval_prefix_at-requires t c = (
  omega arith,
  parts_shallow c.args.self c.args.nesting c.requires.shallow,
)

pub Record::eval-eval_first-requires : goal.Record::eval-eval_first-requires
Record::eval-eval_first-requires t c = (
  omega arith,
  rw (c.parts.ensures.input, c.parts.ensures.next) (parts_shallow c.args.self c.args.nesting c.requires.shallow),
)

pub Record::eval-eval_infix_at-requires : goal.Record::eval-eval_infix_at-requires
Record::eval-eval_infix_at-requires t c = (
  omega arith,
  parts_shallow c.args.self c.args.nesting c.requires.shallow,
)

pub Record::eval-returns-in-9 : goal.Record::eval-returns-in-9
Record::eval-returns-in-9 t c =
    let i = c.args.self.input in
    eval_macro c.args.level i.words.now i.text.now c.args.self.number (sym c.kind.ensures ∙ c.in-9.is)

pub Record::eval-returns-in-15 : goal.Record::eval-returns-in-15
Record::eval-returns-in-15 t c =
    let i = c.args.self.input in
    c.evaluation_of.ensures i.words.now i.text.now
    ∙ rw (c.literal.ensures, c.text.ensures)
    (eval_kind c.args.level i.words.now i.text.now c.args.self.number 15 (sym c.kind.ensures ∙ c.in-15.is))

pub Record::eval-returns-in-16 : goal.Record::eval-returns-in-16
Record::eval-returns-in-16 t c =
    let i = c.args.self.input in
    ap value (signed_is c.number_at.result (search rules) ∙ character_at c.args.level c.number_at.result (search rules))
    ∙ rw c.number_at.ensures
    (eval_kind c.args.level i.words.now i.text.now c.args.self.number 16 (sym c.kind.ensures ∙ c.in-16.is))

pub Record::eval-returns-in-18 : goal.Record::eval-returns-in-18
Record::eval-returns-in-18 t c =
    let i = c.args.self.input in
    c.eval_prefix_at.ensures
    ∙ eval_kind c.args.level i.words.now i.text.now c.args.self.number 18 (sym c.kind.ensures ∙ c.in-18.is)

pub Record::eval-returns-in-19 : goal.Record::eval-returns-in-19
Record::eval-returns-in-19 t c =
    let i = c.args.self.input in
    (rw (c.parts.ensures.input, c.parts.ensures.next) at c.eval_first.ensures)
    ∙ (eval_kind c.args.level i.words.now i.text.now c.args.self.number 19 (sym c.kind.ensures ∙ c.in-19.is))

pub Record::eval-returns-in-20 : goal.Record::eval-returns-in-20
Record::eval-returns-in-20 t c =
    let i = c.args.self.input in
    c.eval_infix_at.ensures
    ∙ eval_kind c.args.level i.words.now i.text.now c.args.self.number 20 (sym c.kind.ensures ∙ c.in-20.is)

pub Record::eval-returns-in_default : goal.Record::eval-returns-in_default
Record::eval-returns-in_default t c =
    let i = c.args.self.input in
    eval_other c.args.level i.words.now i.text.now c.args.self.number (λ e. omega arith) (λ e. omega arith) (λ e. omega arith)
    (λ e. omega arith) (λ e. omega arith) (λ e. omega arith)

pub Record::eval_second-returns-then-first_decides : goal.Record::eval_second-returns-then-first_decides
Record::eval_second-returns-then-first_decides t c =
    let i = c.args.self.input in
    rw (read_truth, c.is_true.ensures, read c.ranges.a)
    (decided c.args.level c.args.op (span_at i.words.now c.args.r) c.args.a
    (eval (rules_at c.args.level) (record_at i.words.now i.text.now c.args.self.number))
    (rw (read c.ranges.a) at (sym c.first_decides.ensures ∙ c.if-first_decides.true)))

pub Record::eval_second-returns-in_err-b : goal.Record::eval_second-returns-in_err-b
Record::eval_second-returns-in_err-b t c =
    let i = c.args.self.input in
    let p = err_from_is_err_and c.from_residual.result c.from_residual.ensures.1 in
    rw (p.1, p.2)
    (second_fails c.args.level c.args.op (span_at i.words.now c.args.r) c.args.a _
    (rw (read c.ranges.a) at (sym c.first_decides.ensures ∙ c.if-first_decides.false))
    ∙ ap (applied (rules_at c.args.level) c.args.op (span_at i.words.now c.args.r) c.args.a) c.in_err-b.ensures)

pub Record::eval_second-returns-then-is_logical : goal.Record::eval_second-returns-then-is_logical
Record::eval_second-returns-then-is_logical t c =
    let i = c.args.self.input in
    rw (read_truth, c.is_true-then-is_logical.ensures, read {z = c.in_ok-b.b} (record { sfits = omega arith }))
    (second_decides c.args.level c.args.op (span_at i.words.now c.args.r) c.args.a (value c.in_ok-b.b)
    (rw (read c.ranges.a) at (sym c.first_decides.ensures ∙ c.if-first_decides.false))
    (sym c.is_logical.ensures ∙ c.if-is_logical.true)
    ∙ ap (applied (rules_at c.args.level) c.args.op (span_at i.words.now c.args.r) c.args.a)
    (value_passes i.words.now i.text.now _ _ _ c.in_ok-b.was c.eval.ensures))

pub Record::eval_second-returns : goal.Record::eval_second-returns
Record::eval_second-returns t c =
    let i = c.args.self.input in
    c.evaluation_of.ensures i.words.now i.text.now
    ∙ rw (c.binary.ensures, read c.ranges.a, read {z = c.in_ok-b.b} (record { sfits = omega arith }))
    (plain_infix c.args.level c.args.op (span_at i.words.now c.args.r) c.args.a (value c.in_ok-b.b)
    (sym c.is_logical.ensures ∙ c.if-is_logical.false)
    ∙ ap (applied (rules_at c.args.level) c.args.op (span_at i.words.now c.args.r) c.args.a)
    (value_passes i.words.now i.text.now _ _ _ c.in_ok-b.was c.eval.ensures))

pub Chain::eval_first-returns-in_default : goal.Chain::eval_first-returns-in_default
Chain::eval_first-returns-in_default t c = no_first c.args.self c.args.level c.in_default.ensures.steps.0

pub Chain::eval_first-eval-requires : goal.Chain::eval_first-eval-requires
Chain::eval_first-eval-requires t c = (
  omega arith,
  (first_operand_in c.args.self c.args.nesting c.requires.shallow _ _ c.in-Some.ensures.steps).shallow,
)

pub Chain::eval_first-returns : goal.Chain::eval_first-returns
Chain::eval_first-returns t c = c.eval.ensures ∙ first_is c.args.self c.args.level _ _ c.in-Some.ensures.steps

pub Chain::eval_first-invariant_of-first : goal.Chain::eval_first-invariant_of-first
Chain::eval_first-invariant_of-first t c =
    record { known = (first_operand_in c.args.self c.args.nesting c.requires.shallow _ _ c.in-Some.ensures.steps).there }

pub Chain::eval_binary-returns-in_default : goal.Chain::eval_binary-returns-in_default
Chain::eval_binary-returns-in_default t c =
    infix_short c.args.self c.args.level c.args.op (span_at c.args.self.input.words.now c.args.r) (sym c.first_two.ensures ∙ c.in_default.is)

pub Chain::eval_binary-eval-requires : goal.Chain::eval_binary-eval-requires
Chain::eval_binary-eval-requires t c =
    let k = two_in c.args.self c.args.nesting c.requires.shallow _ _ (sym c.first_two.ensures ∙ c.in-Some.is) in
    (omega arith, k.0.shallow)

pub Chain::eval_binary-returns-in_err-a : goal.Chain::eval_binary-returns-in_err-a
Chain::eval_binary-returns-in_err-a t c =
    let i = c.args.self.input in
    let p = err_from_is_err_and c.from_residual.result c.from_residual.ensures.1 in
    rw (p.1, p.2)
    (binary_fails c.args.self c.args.level (span_at i.words.now c.args.r) _ c.eval.result c.eval.ensures _
    (sym c.first_two.ensures ∙ c.in-Some.is) c.args.op c.requires.fact.0 c.requires.fact.1 _ c.in_err-a.was)

pub Chain::eval_binary-eval_second-requires : goal.Chain::eval_binary-eval_second-requires
Chain::eval_binary-eval_second-requires t c =
    let k = two_in c.args.self c.args.nesting c.requires.shallow _ _ (sym c.first_two.ensures ∙ c.in-Some.is) in
    (omega arith, k.1.shallow)

pub Chain::eval_binary-returns : goal.Chain::eval_binary-returns
Chain::eval_binary-returns t c =
    let i = c.args.self.input in
    c.eval_second.ensures
    ∙ rw (read {z = c.in_ok-a.a} (record { sfits = omega arith }))
    (binary_value c.args.self c.args.level (span_at i.words.now c.args.r) _ c.eval.result c.eval.ensures _
    (sym c.first_two.ensures ∙ c.in-Some.is) c.args.op c.requires.fact.0 c.requires.fact.1 _ c.in_ok-a.was)

pub Chain::eval_conditional_at-returns-in_default : goal.Chain::eval_conditional_at-returns-in_default
Chain::eval_conditional_at-returns-in_default t c =
    λ span. conditional_short c.args.self c.args.level span (sym c.first_three.ensures ∙ c.in_default.is)

pub Chain::eval_conditional_at-eval-requires : goal.Chain::eval_conditional_at-eval-requires
Chain::eval_conditional_at-eval-requires t c =
    let k = three_in c.args.self c.args.nesting c.requires.shallow _ _ _ (sym c.first_three.ensures ∙ c.in-Some.is) in
    (omega arith, k.0.shallow)

pub Chain::eval_conditional_at-returns-in_err-a : goal.Chain::eval_conditional_at-returns-in_err-a
Chain::eval_conditional_at-returns-in_err-a t c =
    let p = err_from_is_err_and c.from_residual.result c.from_residual.ensures.1 in
    λ span. rw (p.1, p.2)
    (conditional_fails c.args.self c.args.level span _ c.eval.result c.eval.ensures _ _ (sym c.first_three.ensures ∙ c.in-Some.is)
    _ c.in_err-a.was)

pub Chain::eval_conditional_at-eval-requires-then-is_true : goal.Chain::eval_conditional_at-eval-requires-then-is_true
Chain::eval_conditional_at-eval-requires-then-is_true t c =
    let k = three_in c.args.self c.args.nesting c.requires.shallow _ _ _ (sym c.first_three.ensures ∙ c.in-Some.is) in
    (omega arith, k.1.shallow)

pub Chain::eval_conditional_at-returns-then-is_true : goal.Chain::eval_conditional_at-returns-then-is_true
Chain::eval_conditional_at-returns-then-is_true t c =
    λ span. c.eval-then-is_true.ensures
    ∙ rw (rw (read {z = c.in_ok-a.a} (record { sfits = omega arith })) at (sym c.is_true.ensures ∙ c.if-is_true.true)) at
    (conditional_value c.args.self c.args.level span _ c.eval.result c.eval.ensures _ _ (sym c.first_three.ensures ∙ c.in-Some.is)
    _ c.in_ok-a.was)

pub Chain::eval_conditional_at-eval-requires-2 : goal.Chain::eval_conditional_at-eval-requires-2
Chain::eval_conditional_at-eval-requires-2 t c =
    let k = three_in c.args.self c.args.nesting c.requires.shallow _ _ _ (sym c.first_three.ensures ∙ c.in-Some.is) in
    (omega arith, k.2.shallow)

pub Chain::eval_conditional_at-returns : goal.Chain::eval_conditional_at-returns
Chain::eval_conditional_at-returns t c =
    λ span. c.eval-2.ensures
    ∙ rw (rw (read {z = c.in_ok-a.a} (record { sfits = omega arith })) at (sym c.is_true.ensures ∙ c.if-is_true.false)) at
    (conditional_value c.args.self c.args.level span _ c.eval.result c.eval.ensures _ _ (sym c.first_three.ensures ∙ c.in-Some.is)
    _ c.in_ok-a.was)

pub Chain::eval_binary-invariant_of-first : goal.Chain::eval_binary-invariant_of-first
Chain::eval_binary-invariant_of-first t c =
    let k = two_in c.args.self c.args.nesting c.requires.shallow _ _ (sym c.first_two.ensures ∙ c.in-Some.is) in
    record { known = k.0.there }

pub Chain::eval_binary-invariant_of-second : goal.Chain::eval_binary-invariant_of-second
Chain::eval_binary-invariant_of-second t c =
    let k = two_in c.args.self c.args.nesting c.requires.shallow _ _ (sym c.first_two.ensures ∙ c.in-Some.is) in
    record { known = k.1.there }

pub Chain::eval_conditional_at-invariant_of-test : goal.Chain::eval_conditional_at-invariant_of-test
Chain::eval_conditional_at-invariant_of-test t c =
    let k = three_in c.args.self c.args.nesting c.requires.shallow _ _ _ (sym c.first_three.ensures ∙ c.in-Some.is) in
    record { known = k.0.there }

pub Chain::eval_conditional_at-invariant_of-then : goal.Chain::eval_conditional_at-invariant_of-then
Chain::eval_conditional_at-invariant_of-then t c =
    let k = three_in c.args.self c.args.nesting c.requires.shallow _ _ _ (sym c.first_three.ensures ∙ c.in-Some.is) in
    record { known = k.1.there }

pub Chain::eval_conditional_at-invariant_of-other : goal.Chain::eval_conditional_at-invariant_of-other
Chain::eval_conditional_at-invariant_of-other t c =
    let k = three_in c.args.self c.args.nesting c.requires.shallow _ _ _ (sym c.first_three.ensures ∙ c.in-Some.is) in
    record { known = k.2.there }
