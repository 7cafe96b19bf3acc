-- Level 1 evaluates an expression as 01 does.
use Prim.Native.Nat.{ℕ}
use mathlib.Core.Path.{◌≡◌, refl, ap, ◌∙◌}
use mathlib.Core.List.{List, [], ◌∷◌}
use lib.IntN.{ℤ}
use Rattle.paths_numbers.specs.declared.dt_property.BitsSize.{BitsSize}
use Rattle.levels.specs.meaning.Rules.{signed_rules}
use Rattle.definition_log.specs.meaning.Contents.{Span}
use Rattle.input.specs.meaning.Tree.{Tree, Trees, tree, empty, more}
use Rattle.input.specs.meaning.Expr.{Outcome, value, fails, first_operand, infix_of, prefix_of, combined, eval, evals}
use Rattle.input.specs.meaning.Property.{outcome_cell, expression_cell}
use Rattle.two_levels.specs.meaning.SignedRule.{infix_of01, prefix_of01, eval01, evals01, cell01, SignedRule}

infix_same : (op : ℕ) (span : Span) (l : List (Outcome ℤ)) → infix_of signed_rules op span l ≡ infix_of01 op span l
infix_same op span [] = refl
infix_same op span (x ∷ []) = refl
infix_same op span (x ∷ y ∷ []) = refl
infix_same op span (x ∷ y ∷ z ∷ l) = refl

prefix_same : (op : ℕ) (span : Span) (l : List (Outcome ℤ)) → prefix_of signed_rules op span l ≡ prefix_of01 op span l
prefix_same op span [] = refl
prefix_same op span (x ∷ l) = refl

mutual
  unfolding eval evals eval01 evals01

  eval_same : (t : Tree) → eval signed_rules t ≡ eval01 t
  eval_same (tree k text w span operands v) =
      ap (combined signed_rules k text w span) (evals_same operands)
      ∙ rw (infix_same w span (evals01 operands), prefix_same w span (evals01 operands)) refl

  evals_same : (ts : Trees) → evals signed_rules ts ≡ evals01 ts
  evals_same empty = refl
  evals_same (more t ts) = rw (eval_same t, evals_same ts) refl

outcome_same : (size : BitsSize) (span : Span) (o : Outcome ℤ) → outcome_cell signed_rules size span o ≡ cell01 size span o
outcome_same size span (value z) = refl
outcome_same size span (fails ds) = refl

pub signed_rule : SignedRule
unfolding SignedRule expression_cell
signed_rule size span ts =
    ap (λ (l : List (Outcome ℤ)). outcome_cell signed_rules size span (first_operand l)) (evals_same ts)
    ∙ outcome_same size span (first_operand (evals01 ts))
