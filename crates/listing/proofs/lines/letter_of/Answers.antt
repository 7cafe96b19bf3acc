-- By the number of its kind (Letters: letter_is, other_letter).
use mathlib.Core.Path.{refl, sym, ◌∙◌}
use native.Mathlib.Omega.{arith}
use Rattle.listing.proofs.Letters.{letter_is, other_letter}
use Rattle.listing.proofs.lines.letter_of.Goals as goal

pub returns-in-1 : goal.returns-in-1
returns-in-1 c = λ bytes. letter_is _ bytes _ 1 _ (sym c.in-1.is ∙ c.kind_of.ensures) refl

pub returns-in-2 : goal.returns-in-2
returns-in-2 c = λ bytes. letter_is _ bytes _ 2 _ (sym c.in-2.is ∙ c.kind_of.ensures) refl

pub returns-in-3 : goal.returns-in-3
returns-in-3 c = λ bytes. letter_is _ bytes _ 3 _ (sym c.in-3.is ∙ c.kind_of.ensures) refl

pub returns-in-4 : goal.returns-in-4
returns-in-4 c = λ bytes. letter_is _ bytes _ 4 _ (sym c.in-4.is ∙ c.kind_of.ensures) refl

pub returns-in-6 : goal.returns-in-6
returns-in-6 c = λ bytes. letter_is _ bytes _ 6 _ (sym c.in-6.is ∙ c.kind_of.ensures) refl

pub returns-in_default : goal.returns-in_default
returns-in_default c = λ bytes. letter_is _ bytes _ _ _ c.kind_of.ensures
    (other_letter c.kind_of.result (λ e. omega (arith, e)) (λ e. omega (arith, e)) (λ e. omega (arith, e)) (λ e. omega (arith, e))
    (λ e. omega (arith, e)))
