-- How an expression's outcome comes from its operands': the operands of a record are its chain of children, and an operation asks for as
-- many as it needs.
use Prim.Native.Nat.{ℕ, ◌≤◌, ◌<◌}
use mathlib.Core.Path.{◌≡◌, refl, sym, ap, ◌∙◌}
use mathlib.Core.Bool.{true, false, cond}
use mathlib.Core.List.{List, [], ◌∷◌}
use native.Mathlib.Omega.{arith}
use borrow.Author.Tests.{ne_eqb, not-true, not-false}
use lib.Dec.{eqb}
use lib.IntN.{ℤ}
use Rattle.std.specs.Prelude.{Some, None, Result, Ok, Err}
use Rattle.paths_numbers.specs.meaning.Expression.{and_op, or_op, conditional_op, is_true, of_truth}
use Rattle.paths_numbers.proofs.Texts.{by_test, not_both}
use Rattle.levels.specs.machine.Held.{rules_at}
use Rattle.definition_log.specs.meaning.Contents.{Span, Diag}
use Rattle.input.specs.meaning.Tree.{macro_kind, number_kind, character_kind, prefix_kind, parenthesis_kind, infix_kind}
use Rattle.input.specs.meaning.Expr.{Outcome, value, fails, missing, with_value, evaluated, first_operand, applied, chosen}
use Rattle.input.specs.meaning.Expr.{infix_of, combined, eval, evals}
use Rattle.input.specs.meaning.Input.{record_count, kind_at, child_at, number_at, span_at, text_at, chain_at}
use Rattle.input.specs.machine.At.{record_at}
use Rattle.input.specs.machine.ChainLeft.{trees_of, AreRecords, chain_left, trees_left}
use Rattle.input.specs.machine.Fits.{depth_of, depths_of}
use Rattle.input.specs.machine.Evaluation.{first_two, first_three, outcome_of, is_logical, decides}
use Rattle.input.specs.declared.linked.Chain.{Chain}
use Rattle.input.specs.machine.Reported.{reports_of}
use Rattle.input.specs.declared.report.Report.{Report}
use Rattle.input.specs.declared.report.Report.TheVariants as D
use Rattle.input.proofs.ChainLeft.{chain_is, are_records}
use Rattle.input.proofs.Read.{some_is, none_some}

-- a failure of an operand is the whole's
pub failure_passes : (words text : List ℕ) (e : Result ℤ Report) (d : Report) (f : ℤ → Outcome ℤ) → e ≡ Err d
    → fails (reports_of words text d) ≡ with_value (outcome_of words text e) f
failure_passes words text e d f h = rw h refl

-- and its value the operation's
pub value_passes : (words text : List ℕ) (e : Result ℤ Report) (z : ℤ) (o : Outcome ℤ) → e ≡ Ok z → outcome_of words text e ≡ o
    → value z ≡ o
value_passes words text e z o h q = ap (outcome_of words text) (sym h) ∙ q

-- an expression record, by its kind
module _ (level : ℕ) (words text : List ℕ) (r : ℕ) where
  eval_record : eval (rules_at level) (record_at words text r)
      ≡ combined (rules_at level) (kind_at words r) (text_at words text r) (number_at words r) (span_at words r)
      (evals (rules_at level) (chain_at words text (child_at words r)))
  unfolding eval record_at
  eval_record = refl

  pub eval_kind : (k : ℕ) → kind_at words r ≡ k
      → combined (rules_at level) k (text_at words text r) (number_at words r) (span_at words r)
      (evals (rules_at level) (chain_at words text (child_at words r))) ≡ eval
      (rules_at level) (record_at words text r)
  eval_kind k e = rw (sym e) (sym eval_record)

  pub eval_macro : kind_at words r ≡ macro_kind → outcome_of words text (Err (D.Macro r)) ≡ eval (rules_at level) (record_at words text r)
  unfolding eval record_at
  eval_macro e = rw e refl

  pub eval_other : (kind_at words r ≡ macro_kind → ⊥) → (kind_at words r ≡ number_kind → ⊥) → (kind_at words r ≡ character_kind → ⊥)
      → (kind_at words r ≡ prefix_kind → ⊥) → (kind_at words r ≡ parenthesis_kind → ⊥) → (kind_at words r ≡ infix_kind → ⊥)
      → missing ≡ eval (rules_at level) (record_at words text r)
  eval_other a b c d e f =
      rw eval_record
      (simp (
        ne_eqb (kind_at words r) macro_kind a,
        ne_eqb (kind_at words r) number_kind b,
        ne_eqb (kind_at words r) character_kind c,
        ne_eqb (kind_at words r) prefix_kind d,
        ne_eqb (kind_at words r) parenthesis_kind e,
        ne_eqb (kind_at words r) infix_kind f,
      ))

-- one of two operands its two first, where both are there
two_operands : (level op : ℕ) → (op ≡ 0 → ⊥) → (op ≡ conditional_op → ⊥) → (span : Span) (x y : Outcome ℤ) (l : List (Outcome ℤ))
    → infix_of (rules_at level) op span (x ∷ y ∷ l) ≡ with_value x (λ a. applied (rules_at level) op span a y)
two_operands level op n m span x y [] = simp (ne_eqb op 0 n, ne_eqb op conditional_op m)
two_operands level op n m span x y (z ∷ l) = simp (ne_eqb op 0 n, ne_eqb op conditional_op m)

-- && and || where the first operand decides, where the second does, and any other infix operator
pub decided : (level op : ℕ) (span : Span) (a : ℤ) (y : Outcome ℤ) → decides op a ≡ true
    → value (of_truth (is_true a)) ≡ applied (rules_at level) op span a y
unfolding decides rules_at
decided level op span a y e =
    by_test (eqb op and_op)
    (λ q. let f = not-true (is_true a) (rw q at e) in rw (q, f) refl)
    (λ q. by_test (eqb op or_op) (λ p. let t = rw (q, p) at e in rw (q, p, t) refl)
    (λ p. absurd (not_both {t = false} (rw (q, p) at e) refl)))

pub second_decides : (level op : ℕ) (span : Span) (a : ℤ) (y : Outcome ℤ) → decides op a ≡ false → is_logical op ≡ true
    → with_value y (λ b. value (of_truth (is_true b))) ≡ applied (rules_at level) op span a y
unfolding decides is_logical rules_at
second_decides level op span a y e l =
    by_test (eqb op and_op)
    (λ q. let t = not-false (is_true a) (rw q at e) in rw (q, t) refl)
    (λ q. let p : eqb op or_op ≡ true = rw q at l in let f = rw (q, p) at e in rw (q, p, f) refl)

pub plain_infix : (level op : ℕ) (span : Span) (a : ℤ) (y : Outcome ℤ) → is_logical op ≡ false
    → with_value y (λ b. evaluated span ((rules_at level).binary op a b)) ≡ applied (rules_at level) op span a y
unfolding is_logical
plain_infix level op span a y l =
    by_test (eqb op and_op)
    (λ q. absurd (not_both {t = true} refl (rw q at l)))
    (λ q. let p : eqb op or_op ≡ false = rw q at l in rw (q, p) refl)

-- a second operand that fails, where the first does not decide
pub second_fails : (level op : ℕ) (span : Span) (a : ℤ) (ds : List Diag) → decides op a ≡ false
    → fails ds ≡ applied (rules_at level) op span a (fails ds)
second_fails level op span a ds e =
    by_test (is_logical op) (λ l. second_decides level op span a (fails ds) e l) (λ l. plain_infix level op span a (fails ds) l)

-- the first two and the first three of a chain's records, and those behind them
two_is : (l : List ℕ) (x y : ℕ) → first_two l ≡ Some (x, y) → (m : List ℕ) × (l ≡ x ∷ y ∷ m)
two_is [] x y e = absurd (none_some e)
two_is (a ∷ []) x y e = absurd (none_some e)
two_is (a ∷ b ∷ l) x y e =
    let q = some_is e in
    (l, rw (ap (λ (p : ℕ × ℕ). p.0) q, ap (λ (p : ℕ × ℕ). p.1) q) refl)

three_is : (l : List ℕ) (x y z : ℕ) → first_three l ≡ Some (x, y, z) → (m : List ℕ) × (l ≡ x ∷ y ∷ z ∷ m)
three_is [] x y z e = absurd (none_some e)
three_is (a ∷ []) x y z e = absurd (none_some e)
three_is (a ∷ b ∷ []) x y z e = absurd (none_some e)
three_is (a ∷ b ∷ d ∷ l) x y z e =
    let q = some_is e in
    (l, rw (ap (λ (p : ℕ × ℕ × ℕ). p.0) q, ap (λ (p : ℕ × ℕ × ℕ). p.1) q, ap (λ (p : ℕ × ℕ × ℕ). p.2) q) refl)

-- a record of a chain: it is there, and goes no deeper than a nesting
pub record Operand (c : Chain) (nesting r : ℕ) : Type 0 where
  pub there : r < record_count c.input.words.now
  pub shallow : depth_of (record_at c.input.words.now c.input.text.now r) ≤ nesting

-- what records evaluate to
abbrev values_of : ℕ → Chain → List ℕ → List (Outcome ℤ)
values_of level c l = evals (rules_at level) (trees_of c.input.words.now c.input.text.now l)

abbrev value_of : ℕ → Chain → ℕ → Outcome ℤ
value_of level c r = eval (rules_at level) (record_at c.input.words.now c.input.text.now r)

-- a chain of operands, by the records that are left of it
module _ (c : Chain) where
  trees_is : (l : List ℕ) → chain_left c ≡ l → trees_left c ≡ trees_of c.input.words.now c.input.text.now l
  trees_is l e = sym (chain_is c.input.words.now c.input.linked c.input.text.now c.next c.at)
      ∙ ap (trees_of c.input.words.now c.input.text.now) e

  there_is : (l : List ℕ) → chain_left c ≡ l → AreRecords c.input.words.now l
  there_is l e = rw e at (are_records c.input.words.now c.input.linked c.next c.at)

  -- each is a record, and no deeper than the whole
  module _ (nesting : ℕ) (h : depths_of (trees_left c) ≤ nesting) where
    pub first_operand_in : (x : ℕ) (l : List ℕ) → chain_left c ≡ x ∷ l → Operand c nesting x
    unfolding depths_of
    first_operand_in x l e =
        let s = rw (trees_is (x ∷ l) e) at h in
        record { there = (there_is (x ∷ l) e).0.1; shallow = omega (arith, s) }

    pub two_in : (x y : ℕ) → first_two (chain_left c) ≡ Some (x, y) → Operand c nesting x × Operand c nesting y
    unfolding depths_of
    two_in x y e =
        let m = two_is (chain_left c) x y e in
        let a = there_is (x ∷ y ∷ m.0) m.1 in
        let s = rw (trees_is (x ∷ y ∷ m.0) m.1) at h in
        (record { there = a.0.1; shallow = omega (arith, s) }, record { there = a.1.0.1; shallow = omega (arith, s) })

    pub three_in : (x y z : ℕ) → first_three (chain_left c) ≡ Some (x, y, z)
        → Operand c nesting x × Operand c nesting y × Operand c nesting z
    unfolding depths_of
    three_in x y z e =
        let m = three_is (chain_left c) x y z e in
        let a = there_is (x ∷ y ∷ z ∷ m.0) m.1 in
        let s = rw (trees_is (x ∷ y ∷ z ∷ m.0) m.1) at h in (
          record { there = a.0.1; shallow = omega (arith, s) },
          record { there = a.1.0.1; shallow = omega (arith, s) },
          record { there = a.1.1.0.1; shallow = omega (arith, s) },
        )

  module _ (level : ℕ) where
    values_is : (l : List ℕ) → chain_left c ≡ l → evals (rules_at level) (trees_left c) ≡ values_of level c l
    values_is l e = ap (evals (rules_at level)) (trees_is l e)

    -- the first operand, where there is one
    pub no_first : chain_left c ≡ [] → missing ≡ first_operand (evals (rules_at level) (trees_left c))
    unfolding evals
    no_first e = rw (values_is [] e) refl

    pub first_is : (x : ℕ) (l : List ℕ) → chain_left c ≡ x ∷ l → value_of level c x ≡ first_operand (evals (rules_at level) (trees_left c))
    unfolding evals
    first_is x l e = rw (values_is (x ∷ l) e) refl

    -- fewer operands than two, and than three
    pub infix_short : (op : ℕ) (span : Span) → first_two (chain_left c) ≡ None
        → missing ≡ infix_of (rules_at level) op span (evals (rules_at level) (trees_left c))
    unfolding evals
    infix_short op span n = go (chain_left c) refl n
      where
        go : (l : List ℕ) → chain_left c ≡ l → first_two l ≡ None
            → missing ≡ infix_of (rules_at level) op span (evals (rules_at level) (trees_left c))
        go [] e n = rw (values_is [] e) refl
        go (x ∷ []) e n = rw (values_is (x ∷ []) e) refl
        go (x ∷ y ∷ l) e n = absurd (none_some (sym n))

    pub conditional_short : (span : Span) → first_three (chain_left c) ≡ None
        → missing ≡ infix_of (rules_at level) conditional_op span (evals (rules_at level) (trees_left c))
    unfolding evals
    conditional_short span n = go (chain_left c) refl n
      where
        go : (l : List ℕ) → chain_left c ≡ l → first_three l ≡ None
            → missing ≡ infix_of (rules_at level) conditional_op span (evals (rules_at level) (trees_left c))
        go [] e n = rw (values_is [] e) refl
        go (x ∷ []) e n = rw (values_is (x ∷ []) e) refl
        go (x ∷ y ∷ []) e n = rw (values_is (x ∷ y ∷ []) e) refl
        go (x ∷ y ∷ z ∷ l) e n = absurd (none_some (sym n))

    -- the first operand is x, which is evaluated to v
    module _ (span : Span) (x : ℕ) (v : Result ℤ Report) (q : outcome_of c.input.words.now c.input.text.now v ≡ value_of level c x) where
      operand_value : (a : ℤ) → v ≡ Ok a → value_of level c x ≡ value a
      operand_value a e = sym q ∙ ap (outcome_of c.input.words.now c.input.text.now) e

      -- two operands
      module _ (y : ℕ) (e : first_two (chain_left c) ≡ Some (x, y)) (op : ℕ) (n : op ≡ 0 → ⊥) (m : op ≡ conditional_op → ⊥) where
        two : with_value (value_of level c x) (λ a. applied (rules_at level) op span a (value_of level c y))
            ≡ infix_of (rules_at level) op span (evals (rules_at level) (trees_left c))
        unfolding evals
        two =
            let k = two_is (chain_left c) x y e in
            rw (values_is (x ∷ y ∷ k.0) k.1)
            (sym (two_operands level op n m span (value_of level c x) (value_of level c y) (values_of level c k.0)))

        pub binary_fails : (d : Report) → v ≡ Err d → outcome_of c.input.words.now c.input.text.now (Err d)
            ≡ infix_of (rules_at level) op span (evals (rules_at level) (trees_left c))
        binary_fails d o =
            failure_passes c.input.words.now c.input.text.now v d (λ a. applied (rules_at level) op span a (value_of level c y)) o
            ∙ rw q two

        pub binary_value : (a : ℤ) → v ≡ Ok a → applied (rules_at level) op span a (value_of level c y)
            ≡ infix_of (rules_at level) op span (evals (rules_at level) (trees_left c))
        binary_value a w = rw (operand_value a w) at two

      -- three operands
      module _ (y z : ℕ) (e : first_three (chain_left c) ≡ Some (x, y, z)) where
        three : chosen (rules_at level) (value_of level c x) (value_of level c y) (value_of level c z)
            ≡ infix_of (rules_at level) conditional_op span (evals (rules_at level) (trees_left c))
        unfolding evals
        three = let k = three_is (chain_left c) x y z e in rw (values_is (x ∷ y ∷ z ∷ k.0) k.1) refl

        pub conditional_fails : (d : Report) → v ≡ Err d → outcome_of c.input.words.now c.input.text.now (Err d)
            ≡ infix_of (rules_at level) conditional_op span (evals (rules_at level) (trees_left c))
        conditional_fails d o =
            failure_passes c.input.words.now c.input.text.now v d
            (λ a. cond ((rules_at level).holds a) (value_of level c y) (value_of level c z)) o ∙ rw q three

        pub conditional_value : (a : ℤ) → v ≡ Ok a → cond (is_true a) (value_of level c y) (value_of level c z)
            ≡ infix_of (rules_at level) conditional_op span (evals (rules_at level) (trees_left c))
        unfolding rules_at
        conditional_value a w = rw (operand_value a w) at three
