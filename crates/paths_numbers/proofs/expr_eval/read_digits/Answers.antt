use Rattle.std.proofs.Common.{arith, ap, ◌∙◌}
use Rattle.std.specs.Char.{digit_value}
use Rattle.paths_numbers.proofs.Digits.{bad, large, good, done}
use Rattle.paths_numbers.proofs.expr_eval.read_digits.Goals as goal

pub returns-in_default-clause-told : goal.returns-in_default-clause-told
returns-in_default-clause-told c =
    let l = c.loop-b in
    let e = ap digit_value c.from.ensures in
    bad _ _ _ _ c.args.s.now l.b-index _ l.invariant.1 (omega arith) (omega (arith, c.in_default.ensures.value))

pub returns-in_default-with_digit-clause-told : goal.returns-in_default-with_digit-clause-told
returns-in_default-with_digit-clause-told c =
    let l = c.loop-b in
    let d = c.in-Some.ensures.value in
    let e = ap digit_value c.from.ensures in
    large _ _ _ _ c.args.s.now l.b-index _ l.invariant.1 c.in-Some.digit (omega arith) (d.1 ∙ e) (omega arith)
    (omega (arith, c.in_default-with_digit.ensures))

pub loop-b-preserved : goal.loop-b-preserved
loop-b-preserved c =
    let l = c.loop-b in
    let d = c.in-Some.ensures.value in
    let e = ap digit_value c.from.ensures in
    let n = c.in-Some-with_digit.ensures in
    rw n.1
    (n.0, good _ _ _ _ c.args.s.now l.b-index _ l.invariant.1 c.in-Some.digit (omega arith) (d.1 ∙ e) (omega arith) n.0)

pub returns-clause-told : goal.returns-clause-told
returns-clause-told c = done _ _ _ _ c.args.s.now c.loop-b.b-index _ c.loop-b.invariant.1 (omega arith)
