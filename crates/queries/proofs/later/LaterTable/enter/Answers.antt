-- There is a head for every slot (Table: slot_most).
use mathlib.Core.Path.{refl}
use native.Mathlib.Omega.{arith}
use lib.ListN.{length}
use Rattle.queries.specs.machine.Table.{of_node}
use Rattle.queries.proofs.Table.{slot_most}
use Rattle.queries.proofs.later.LaterTable.enter.Goals as goal

pub offset_bounds-self-slot : goal.offset_bounds-self-slot
offset_bounds-self-slot c =
    let a = c.args in
    omega (arith, c.slot_of-slot.ensures, slot_most (length a.self.now.heads.now) (of_node a.taken) a.hash c.requires.0)

pub bounds-self-slot : goal.bounds-self-slot
bounds-self-slot c =
    let a = c.args in
    omega (
      arith,
      c.slot_of-slot.ensures,
      slot_most (length a.self.now.heads.now) (of_node a.taken) a.hash
          c.requires.0,
    )

pub offset_bounds-self-slot-2 : goal.offset_bounds-self-slot-2
offset_bounds-self-slot-2 c =
    let a = c.args in
    omega (
      arith,
      c.slot_of-slot.ensures,
      slot_most (length a.self.now.heads.now) (of_node a.taken) a.hash
          c.requires.0,
    )

pub bounds-self-slot-2 : goal.bounds-self-slot-2
bounds-self-slot-2 c =
    let a = c.args in
    omega (
      arith,
      c.slot_of-slot.ensures,
      slot_most (length a.self.now.heads.now) (of_node a.taken) a.hash
          c.requires.0,
    )

pub returns : goal.returns
returns c = rw c.slot_of-slot.ensures (record { heads_after = refl; links_after = refl })
