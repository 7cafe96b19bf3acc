-- By the kind.
use mathlib.Core.Path.{refl, ◌∙◌}
use borrow.Author.Tests.{ne_eqb, le-leb, lt-leb}
use native.Mathlib.Omega.{arith}
use Rattle.input.specs.meaning.Place.{w_fits}
use Rattle.input.proofs.place.w_fits.Goals as goal

pub returns-then-w-ge1 : goal.returns-then-w-ge1
unfolding w_fits
returns-then-w-ge1 c = rw (c.in-3.is, le-leb 1 c.args.w c.if-w-ge1.true) refl

pub returns-else-w-ge1 : goal.returns-else-w-ge1
unfolding w_fits
returns-else-w-ge1 c = rw (c.in-3.is, lt-leb 1 c.args.w c.if-w-ge1.false) refl

pub returns-in-8 : goal.returns-in-8
unfolding w_fits
returns-in-8 c = rw c.in-8.is refl

pub returns-in-16 : goal.returns-in-16
unfolding w_fits
returns-in-16 c = c.is_character.ensures ∙ rw c.in-16.is refl

pub returns-in-18 : goal.returns-in-18
unfolding w_fits
returns-in-18 c = rw c.in-18.is refl

pub returns-in-20 : goal.returns-in-20
unfolding w_fits
returns-in-20 c = rw c.in-20.is refl

pub returns-in_default : goal.returns-in_default
unfolding w_fits
returns-in_default c =
    let k = c.args.kind in
    simp (
      ne_eqb k 3 (λ e. omega arith),
      ne_eqb k 8 (λ e. omega arith),
      ne_eqb k 16 (λ e. omega arith),
      ne_eqb k 18 (λ e. omega arith),
      ne_eqb k 20 (λ e. omega arith),
    )
