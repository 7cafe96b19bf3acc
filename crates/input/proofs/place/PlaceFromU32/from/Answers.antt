-- The number picks its place.
use mathlib.Core.Path.{refl}
use borrow.Author.Tests.{ne_eqb}
use native.Mathlib.Omega.{arith}
use Rattle.input.specs.machine.RowsPass.{place_of}
use Rattle.input.proofs.place.PlaceFromU32.from.Goals as goal

pub returns-in-1 : goal.returns-in-1
unfolding place_of
returns-in-1 c = rw c.in-1.is refl

pub returns-in-2 : goal.returns-in-2
unfolding place_of
returns-in-2 c = rw c.in-2.is refl

pub returns-in-3 : goal.returns-in-3
unfolding place_of
returns-in-3 c = rw c.in-3.is refl

pub returns-in-4 : goal.returns-in-4
unfolding place_of
returns-in-4 c = rw c.in-4.is refl

pub returns-in-5 : goal.returns-in-5
unfolding place_of
returns-in-5 c = rw c.in-5.is refl

pub returns-in-6 : goal.returns-in-6
unfolding place_of
returns-in-6 c = rw c.in-6.is refl

pub returns-in-7 : goal.returns-in-7
unfolding place_of
returns-in-7 c = rw c.in-7.is refl

pub returns-in-8 : goal.returns-in-8
unfolding place_of
returns-in-8 c = rw c.in-8.is refl

pub returns-in-9 : goal.returns-in-9
unfolding place_of
returns-in-9 c = rw c.in-9.is refl

pub returns-in_default : goal.returns-in_default
unfolding place_of
returns-in_default c =
    let n = c.args.n in
    simp (
      ne_eqb n 1 (λ e. omega arith),
      ne_eqb n 2 (λ e. omega arith),
      ne_eqb n 3 (λ e. omega arith),
      ne_eqb n 4 (λ e. omega arith),
      ne_eqb n 8 (λ e. omega arith),
      ne_eqb n 9 (λ e. omega arith),
      ne_eqb n 5 (λ e. omega arith),
      ne_eqb n 6 (λ e. omega arith),
      ne_eqb n 7 (λ e. omega arith),
    )
