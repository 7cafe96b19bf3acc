-- What expressions report: diagnostics whose spans are in order, where every span below them is.
use Prim.Native.Nat.{ℕ}
use mathlib.Core.Path.{◌≡◌, refl}
use mathlib.Core.Bool.{Bool, true, cond}
use mathlib.Core.List.{List, [], ◌∷◌}
use lib.Dec.{eqb}
use Rattle.paths_numbers.specs.meaning.Reading.{Reading, no_code}
use Rattle.paths_numbers.specs.meaning.Reading as R
use Rattle.paths_numbers.proofs.Texts.{cond_in}
use Rattle.levels.specs.meaning.Rules.{Rules}
use Rattle.definition_log.specs.meaning.Contents.{Span}
use Rattle.definition_log.specs.machine.Good.{all, in_order, good_diag}
use Rattle.input.specs.meaning.Tree.{Tree, Trees, tree, empty, more, macro_kind, number_kind, character_kind, prefix_kind, parenthesis_kind}
use Rattle.input.specs.meaning.Tree.{infix_kind}
use Rattle.input.specs.meaning.Expr.{Outcome, value, fails, evaluated, with_value, first_operand, applied, infix_of, prefix_of}
use Rattle.input.specs.meaning.Expr.{combined, eval, evals}
use Rattle.lowering.proofs.GoodLists.{all_first, all_rest}
use Rattle.lowering.proofs.GoodReports.{no_reports, good_report}
use Rattle.input.proofs.Spans.{spans, spans_in, own_span_lem, child_spans, chain_spans}

-- a value, or a failure whose diagnostics are good
abbrev pub good_outcome : {N : Type 0} → Outcome N → Bool
good_outcome (value z) = true
good_outcome (fails ds) = all good_diag ds

abbrev pub GoodOutcome : {N : Type 0} → Outcome N → Type 0
GoodOutcome o = good_outcome o ≡ true

abbrev pub GoodOutcomes : {N : Type 0} → List (Outcome N) → Type 0
GoodOutcomes l = all good_outcome l ≡ true

missing_good : (N : Type 0) → GoodOutcome {N = N} (fails [])
missing_good N = no_reports

evaluated_good : {N : Type 0} (span : Span) → in_order span ≡ true → (e : Reading N) → GoodOutcome (evaluated span e)
evaluated_good span g (R.value z) = refl
evaluated_good {N} span g (R.fails code) = cond_in GoodOutcome (eqb code no_code) (missing_good N) (good_report code [] span g)

with_good : {N : Type 0} (x : Outcome N) (f : N → Outcome N) → GoodOutcome x → ((z : N) → GoodOutcome (f z)) → GoodOutcome (with_value x f)
with_good (value z) f g h = h z
with_good (fails ds) f g h = g

pub first_good : {N : Type 0} (l : List (Outcome N)) → GoodOutcomes l → GoodOutcome (first_operand l)
first_good {N} [] g = missing_good N
first_good (x ∷ l) g = all_first good_outcome x l g

-- by any rules
module _ {N : Type 0} (rules : Rules N) where
  -- operators on good outcomes
  module _ (op : ℕ) (span : Span) (g : in_order span ≡ true) where
    applied_good : (a : N) (y : Outcome N) → GoodOutcome y → GoodOutcome (applied rules op span a y)
    applied_good a y h =
        let truth = with_good y (λ b. value (rules.truth (rules.holds b))) h (λ b. refl) in
        cond_in GoodOutcome (eqb op 11) (cond_in GoodOutcome (rules.holds a) truth refl)
        (cond_in GoodOutcome (eqb op 12) (cond_in GoodOutcome (rules.holds a) refl truth)
        (with_good y (λ b. evaluated span (rules.binary op a b)) h (λ b. evaluated_good span g (rules.binary op a b))))

    two_good : (x y : Outcome N) → GoodOutcome x → GoodOutcome y → GoodOutcome (with_value x (λ a. applied rules op span a y))
    two_good x y h k = with_good x (λ a. applied rules op span a y) h (λ a. applied_good a y k)

    infix_good : (l : List (Outcome N)) → GoodOutcomes l → GoodOutcome (infix_of rules op span l)
    infix_good [] h = missing_good N
    infix_good (x ∷ []) h = missing_good N
    infix_good (x ∷ y ∷ []) h =
        let hx = all_first good_outcome x (y ∷ []) h in
        let hy = all_first good_outcome y [] (all_rest good_outcome x (y ∷ []) h) in
        cond_in GoodOutcome (eqb op 0) (missing_good N) (cond_in GoodOutcome (eqb op 19) (missing_good N) (two_good x y hx hy))
    infix_good (x ∷ y ∷ z ∷ l) h =
        let hx = all_first good_outcome x (y ∷ z ∷ l) h in
        let r = all_rest good_outcome x (y ∷ z ∷ l) h in
        let hy = all_first good_outcome y (z ∷ l) r in
        let hz = all_first good_outcome z l (all_rest good_outcome y (z ∷ l) r) in
        cond_in GoodOutcome (eqb op 0) (missing_good N)
        (cond_in GoodOutcome (eqb op 19) (with_good x (λ a. cond (rules.holds a) y z) hx (λ a. cond_in GoodOutcome (rules.holds a) hy hz))
        (two_good x y hx hy))

    prefix_good : (l : List (Outcome N)) → GoodOutcomes l → GoodOutcome (prefix_of rules op span l)
    prefix_good [] h = missing_good N
    prefix_good (x ∷ l) h =
        cond_in GoodOutcome (eqb op 0) (missing_good N)
        (with_good x (λ a. evaluated span (rules.unary op a)) (all_first good_outcome x l h)
        (λ a. evaluated_good span g (rules.unary op a)))

  combined_good : (k : ℕ) (text : List ℕ) (w : ℕ) (span : Span) (l : List (Outcome N)) → in_order span ≡ true → GoodOutcomes l
      → GoodOutcome (combined rules k text w span l)
  combined_good k text w span l g h =
      cond_in GoodOutcome (eqb k macro_kind) (good_report 10 text span g)
      (cond_in GoodOutcome (eqb k number_kind) (evaluated_good span g (rules.literal text))
      (cond_in GoodOutcome (eqb k character_kind) refl
      (cond_in GoodOutcome (eqb k prefix_kind) (prefix_good w span g l h)
      (cond_in GoodOutcome (eqb k parenthesis_kind) (first_good l h)
      (cond_in GoodOutcome (eqb k infix_kind) (infix_good w span g l h)
      (missing_good N))))))

  -- an expression, and the operands of a chain
  mutual
    unfolding eval evals all

    eval_good : (t : Tree) → spans t ≡ true → GoodOutcome (eval rules t)
    eval_good (tree k text w span operands v) g =
        let t = tree k text w span operands v in
        combined_good k text w span (evals rules operands) (own_span_lem t g) (evals_good operands (child_spans t g))

    pub evals_good : (ts : Trees) → spans_in ts ≡ true → GoodOutcomes (evals rules ts)
    evals_good empty g = refl
    evals_good (more t ts) g =
        let h = chain_spans t ts g in
        rw (eval_good t h.0) (evals_good ts h.1)
