-- By the kind.
use mathlib.Core.Path.{refl}
use borrow.Author.Tests.{ne_eqb}
use native.Mathlib.Omega.{arith}
use Rattle.input.specs.meaning.Place.{second_place}
use Rattle.input.proofs.place.second_place.Goals as goal

pub returns-in-1 : goal.returns-in-1
unfolding second_place
returns-in-1 c = rw c.in-1.is refl

pub returns-in-2 : goal.returns-in-2
unfolding second_place
returns-in-2 c = rw c.in-2.is refl

pub returns-in_default : goal.returns-in_default
unfolding second_place
returns-in_default c = simp (ne_eqb c.args.kind 1 (λ e. omega arith), ne_eqb c.args.kind 2 (λ e. omega arith))
