-- By its definition; a place is small (Table: place_small).
use mathlib.Core.Path.{refl}
use native.Mathlib.Omega.{arith}
use Rattle.queries.specs.machine.Table.{slot_of}
use Rattle.queries.proofs.Table.{place_small}
use Rattle.queries.proofs.later.slot_of.Goals as goal

pub overflow_mul-place : goal.overflow_mul-place
overflow_mul-place c = omega (arith, c.place_of-place.ensures, place_small c.args.heads c.args.hash)

pub overflow_add-result : goal.overflow_add-result
overflow_add-result c = omega (arith, c.place_of-place.ensures, place_small c.args.heads c.args.hash)

pub returns-in-Node : goal.returns-in-Node
unfolding slot_of
returns-in-Node c = rw (c.place_of-place.ensures, c.in-Node.is) refl

pub returns-in-Property : goal.returns-in-Property
unfolding slot_of
returns-in-Property c = rw (c.place_of-place.ensures, c.in-Property.is) (omega arith)
