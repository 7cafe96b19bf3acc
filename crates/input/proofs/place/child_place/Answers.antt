-- By the kind.
use mathlib.Core.Path.{refl}
use native.Mathlib.Omega.{arith}
use Rattle.input.specs.meaning.Place.{child_place}
use Rattle.input.proofs.RowsTests.{below_names, below_expressions, below_none}
use Rattle.input.proofs.place.child_place.Goals as goal

pub returns-in-1 : goal.returns-in-1
unfolding child_place
returns-in-1 c = rw c.in-1.is refl

pub returns-in-2 : goal.returns-in-2
unfolding child_place
returns-in-2 c = rw c.in-2.is refl

pub returns-in-3 : goal.returns-in-3
unfolding child_place
returns-in-3 c = rw c.in-3.is refl

pub returns-in-8 : goal.returns-in-8
unfolding child_place
returns-in-8 c = rw c.in-8.is refl

pub returns-in-13 : goal.returns-in-13
unfolding child_place
returns-in-13 c = rw c.in-13.is refl

pub returns-in-6 : goal.returns-in-6
returns-in-6 c = below_names c.args.kind (omega arith) (omega arith)

pub returns-in-17 : goal.returns-in-17
returns-in-17 c = below_expressions c.args.kind (omega arith) (omega arith)

pub returns-in_default : goal.returns-in_default
returns-in_default c =
    below_none c.args.kind (λ e. omega arith) (λ e. omega arith) (λ e. omega arith) (λ e. omega arith)
    (λ e. omega arith) (λ e. omega arith) (λ e. omega arith)
    (λ a. omega arith)

pub returns-in_default-2 : goal.returns-in_default-2
returns-in_default-2 c =
    below_none c.args.kind (λ e. omega arith) (λ e. omega arith) (λ e. omega arith) (λ e. omega arith)
    (λ e. omega arith) (λ e. omega arith) (λ e. omega arith)
    (λ a. omega arith)

pub returns-in_default-3 : goal.returns-in_default-3
returns-in_default-3 c =
    below_none c.args.kind (λ e. omega arith) (λ e. omega arith) (λ e. omega arith) (λ e. omega arith)
    (λ e. omega arith) (λ e. omega arith) (λ e. omega arith)
    (λ a. omega arith)
