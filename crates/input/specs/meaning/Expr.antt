-- 01, "Numbers": the value of an expression (eval), from what a level reckons with; the walk over it is the same at each level.
use Rattle.std.specs.Prelude.{ℕ, Bool, true, false, cond, List, [], ◌∷◌, eqb}
use Rattle.paths_numbers.specs.meaning.Code.{macro_undefined}
use Rattle.paths_numbers.specs.meaning.Reading.{Reading, no_code}
use Rattle.paths_numbers.specs.meaning.Reading as R
use Rattle.paths_numbers.specs.meaning.Expression.{and_op, or_op, conditional_op}
use Rattle.levels.specs.meaning.Rules.{Rules}
use Rattle.definition_log.specs.meaning.Contents.{Span, Diag}
use Rattle.input.specs.meaning.Tree.{Tree, Trees, tree, empty, more, macro_kind, number_kind, character_kind, prefix_kind}
use Rattle.input.specs.meaning.Tree.{parenthesis_kind, infix_kind}
use Rattle.input.specs.meaning.Report.{report}

-- a value, or a failure with what it reports
pub data Outcome (N : Type 0) : Type 0 where
  value : N → Outcome N
  fails : List Diag → Outcome N

-- "A missing operand or operator fails without a code"
abbrev pub missing : {N : Type 0} → Outcome N
missing = fails []

-- a failure with a code
abbrev pub fails_with : {N : Type 0} → ℕ → Span → Outcome N
fails_with code span = fails (report code [] span ∷ [])

-- a number's text, or an operator's result: "Codes 24 to 26 span the prefix or infix record."
abbrev pub evaluated : {N : Type 0} → Span → Reading N → Outcome N
evaluated span (R.value z) = value z
evaluated span (R.fails code) = cond (eqb code no_code) missing (fails_with code span)

-- the operand that an operation goes on with, where it has a value
abbrev pub with_value : {N : Type 0} → Outcome N → (N → Outcome N) → Outcome N
with_value (value z) f = f z
with_value (fails ds) f = fails ds

-- the first operand
abbrev pub first_operand : {N : Type 0} → List (Outcome N) → Outcome N
first_operand [] = missing
first_operand (x ∷ l) = x

module _ {N : Type 0} (rules : Rules N) where
  -- a truth as a value, and that of an operand
  abbrev pub truth_of : Bool → Outcome N
  truth_of t = value (rules.truth t)

  abbrev pub truth_in : Outcome N → Outcome N
  truth_in y = with_value y (λ b. truth_of (rules.holds b))

  -- && and ||: the second operand only where the first does not decide
  abbrev pub both : N → Outcome N → Outcome N
  both a y = cond (rules.holds a) (truth_in y) (truth_of false)

  abbrev pub either : N → Outcome N → Outcome N
  either a y = cond (rules.holds a) (truth_of true) (truth_in y)

  -- an infix operator on the values of two operands
  abbrev pub applied : ℕ → Span → N → Outcome N → Outcome N
  applied op span a y =
      cond (eqb op and_op) (both a y) (cond (eqb op or_op) (either a y) (with_value y (λ b. evaluated span (rules.binary op a b))))

  -- the condition and the two choices of ?:
  abbrev pub chosen : Outcome N → Outcome N → Outcome N → Outcome N
  chosen x y z = with_value x (λ a. cond (rules.holds a) y z)

  -- ?: takes three operands, the others two; W 0 and an operand too few fail "before any operand is evaluated"
  abbrev pub infix_of : ℕ → Span → List (Outcome N) → Outcome N
  infix_of op span [] = missing
  infix_of op span (x ∷ []) = missing
  infix_of op span (x ∷ y ∷ []) = cond (eqb op 0) missing (cond (eqb op conditional_op) missing (with_value x (λ a. applied op span a y)))
  infix_of op span (x ∷ y ∷ z ∷ l) =
      cond (eqb op 0) missing (cond (eqb op conditional_op) (chosen x y z) (with_value x (λ a. applied op span a y)))

  abbrev pub prefix_of : ℕ → Span → List (Outcome N) → Outcome N
  prefix_of op span [] = missing
  prefix_of op span (x ∷ l) = cond (eqb op 0) missing (with_value x (λ a. evaluated span (rules.unary op a)))

  -- what an expression record of this kind, text, W and span makes of its operands' outcomes; those it does not use report nothing
  abbrev pub combined : ℕ → List ℕ → ℕ → Span → List (Outcome N) → Outcome N
  combined k text w span operands =
      cond (eqb k macro_kind) (fails (report macro_undefined text span ∷ []))
      (cond (eqb k number_kind) (evaluated span (rules.literal text))
      (cond (eqb k character_kind) (value (rules.character w))
      (cond (eqb k prefix_kind) (prefix_of w span operands)
      (cond (eqb k parenthesis_kind) (first_operand operands)
      (cond (eqb k infix_kind) (infix_of w span operands)
      missing)))))

  unfoldable mutual
    pub eval : Tree → Outcome N
    eval (tree k text w span operands v) = combined k text w span (evals operands)

    pub evals : Trees → List (Outcome N)
    evals empty = []
    evals (more t ts) = eval t ∷ evals ts
