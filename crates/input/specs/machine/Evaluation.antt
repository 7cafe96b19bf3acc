-- What the evaluation of an expression answers, and the outcome that it stands for: a failure's diagnostic is known by the record it speaks
-- of.
use Rattle.std.specs.Prelude.{ℕ, Bool, true, not, cond, List, [], ◌∷◌, eqb, ℤ, Option, Some, None, Result, Ok, Err, false}
use Rattle.paths_numbers.specs.meaning.Expression.{and_op, or_op, is_true}
use Rattle.input.specs.meaning.Expr.{Outcome, value, fails}
use Rattle.input.specs.machine.Reported.{reports_of}
use Rattle.input.specs.declared.linked.Input.{Input}
use Rattle.input.specs.declared.report.Report.{Report}
use Rattle.input.specs.declared.report.Report.TheVariants.{Nothing, Code}
use Rattle.paths_numbers.specs.meaning.Reading.{no_code}

-- a value, or what is reported where there is none
abbrev pub outcome_of : List ℕ → List ℕ → Result ℤ Report → Outcome ℤ
outcome_of words text (Ok z) = value z
outcome_of words text (Err d) = fails (reports_of words text d)

abbrev pub outcome_in : Input → Result ℤ Report → Outcome ℤ
outcome_in i v = outcome_of i.words.now i.text.now v

-- what is reported of a failure with this code at record r: "fails without a code" reports nothing
abbrev pub failure : ℕ → ℕ → Report
failure r code = cond (eqb code no_code) Nothing (Code code r)

-- the first two and the first three of the records that are left of a chain
abbrev pub first_two : List ℕ → Option (ℕ × ℕ)
first_two [] = None
first_two (x ∷ []) = None
first_two (x ∷ y ∷ l) = Some (x, y)

abbrev pub first_three : List ℕ → Option (ℕ × ℕ × ℕ)
first_three [] = None
first_three (x ∷ []) = None
first_three (x ∷ y ∷ []) = None
first_three (x ∷ y ∷ z ∷ l) = Some (x, y, z)

-- "&&, || … evaluate only what they need": whether an operator is one of the two, and whether the first operand decides
unfoldable pub is_logical : ℕ → Bool
is_logical op = cond (eqb op and_op) true (eqb op or_op)

unfoldable pub decides : ℕ → ℤ → Bool
decides op a = cond (eqb op and_op) (not (is_true a)) (cond (eqb op or_op) (is_true a) false)
