-- 02, request 10: level "1 keeps the signed rule". An expression cell by 01 alone, as it was before there were levels, and the claim that
-- level 1 is this.
use Rattle.std.specs.Prelude.{ℕ, cond, ◌≡◌, List, [], ◌∷◌, eqb, ℤ, pos}
use Rattle.paths_numbers.specs.meaning.Code.{macro_undefined}
use Rattle.paths_numbers.specs.meaning.Number.{signed_number}
use Rattle.paths_numbers.specs.meaning.Expression.{and_op, or_op, conditional_op, eval_prefix, eval_infix, is_true, of_truth}
use Rattle.paths_numbers.specs.meaning.Cell.{bits_of, expr_cell}
use Rattle.paths_numbers.specs.declared.dt_property.BitsSize.{BitsSize}
use Rattle.levels.specs.meaning.Rules.{signed_level}
use Rattle.definition_log.specs.meaning.Contents.{Span, Cell}
use Rattle.input.specs.meaning.Tree.{Tree, Trees, tree, empty, more, macro_kind, number_kind, character_kind, prefix_kind, parenthesis_kind}
use Rattle.input.specs.meaning.Tree.{infix_kind}
use Rattle.input.specs.meaning.Report.{Made, nothing, report}
use Rattle.input.specs.meaning.Expr.{Outcome, value, fails, missing, evaluated, with_value, first_operand}
use Rattle.input.specs.meaning.Property.{number_cell, expression_cell}

-- && and ||: the second operand only where the first does not decide
abbrev pub truth01 : Outcome ℤ → Outcome ℤ
truth01 y = with_value y (λ b. value (of_truth (is_true b)))

abbrev pub applied01 : ℕ → Span → ℤ → Outcome ℤ → Outcome ℤ
applied01 op span a y =
    cond (eqb op and_op) (cond (is_true a) (truth01 y) (value (pos 0)))
    (cond (eqb op or_op) (cond (is_true a) (value (pos 1)) (truth01 y))
    (with_value y (λ b. evaluated span (eval_infix op a b))))

-- ?: takes three operands, the others two
abbrev pub infix_of01 : ℕ → Span → List (Outcome ℤ) → Outcome ℤ
infix_of01 op span [] = missing
infix_of01 op span (x ∷ []) = missing
infix_of01 op span (x ∷ y ∷ []) =
    cond (eqb op 0) missing (cond (eqb op conditional_op) missing (with_value x (λ a. applied01 op span a y)))
infix_of01 op span (x ∷ y ∷ z ∷ l) =
    cond (eqb op 0) missing
    (cond (eqb op conditional_op) (with_value x (λ a. cond (is_true a) y z)) (with_value x (λ a. applied01 op span a y)))

abbrev pub prefix_of01 : ℕ → Span → List (Outcome ℤ) → Outcome ℤ
prefix_of01 op span [] = missing
prefix_of01 op span (x ∷ l) = cond (eqb op 0) missing (with_value x (λ a. evaluated span (eval_prefix op a)))

unfoldable mutual
  pub eval01 : Tree → Outcome ℤ
  eval01 (tree k text w span operands v) =
      cond (eqb k macro_kind) (fails (report macro_undefined text span ∷ []))
      (cond (eqb k number_kind) (evaluated span (signed_number text))
      (cond (eqb k character_kind) (value (pos w))
      (cond (eqb k prefix_kind) (prefix_of01 w span (evals01 operands))
      (cond (eqb k parenthesis_kind) (first_operand (evals01 operands))
      (cond (eqb k infix_kind) (infix_of01 w span (evals01 operands))
      missing)))))

  pub evals01 : Trees → List (Outcome ℤ)
  evals01 empty = []
  evals01 (more t ts) = eval01 t ∷ evals01 ts

abbrev pub cell01 : BitsSize → Span → Outcome ℤ → Made Cell
cell01 size span (value z) = number_cell span (expr_cell (bits_of size) z)
cell01 size span (fails ds) = nothing ds

unfoldable pub SignedRule : Type 0
SignedRule =
    (size : BitsSize) (span : Span) (operands : Trees)
    → expression_cell signed_level size span operands ≡ cell01 size span (first_operand (evals01 operands))
