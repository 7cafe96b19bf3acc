-- There is a head for every slot (Table: slot_small, slot_most).
use native.Mathlib.Omega.{arith}
use lib.ListN.{length}
use Rattle.queries.specs.machine.Table.{of_node}
use Rattle.queries.proofs.Table.{slot_small, slot_most}
use Rattle.queries.proofs.later.LaterDefs.holds.Goals as goal

pub offset_bounds-self-slot : goal.offset_bounds-self-slot
offset_bounds-self-slot c =
    let a = c.args in
    omega (arith, c.slot_of-slot.ensures, slot_small (length a.self.table.now.heads.now) (of_node a.taken) a.hash)

pub bounds-self-slot : goal.bounds-self-slot
bounds-self-slot c =
    let a = c.args in
    omega (arith, c.slot_of-slot.ensures, slot_most (length a.self.table.now.heads.now) (of_node a.taken) a.hash a.self.sized.0)

pub finds-requires : goal.finds-requires
finds-requires c = rw c.slot_of-slot.ensures (record { held = c.requires; later_in_bounds = c.args.self.sized.1 })
