-- Items, nodes and bodies call each other as the nesting runs out: each does to the log what its definition does to what the log says
-- (ItemsLowered, NodeLowered).
use Prim.Native.Nat.{◌+◌, ◌*◌}
use mathlib.Core.Path.{◌≡◌}
use lib.ListN.{length}
use Rattle.input.specs.machine.ChainLeft.{chain_left}
use Rattle.lowering.proofs.ItemsLowered.{ItemsTo}
use Rattle.lowering.proofs.lower_item.+nesting.Given as goal

abbrev pub decreases-lower_dt_node : goal.decreases-lower_dt_node
decreases-lower_dt_node l = l.nesting * 4

abbrev pub decreases-lower_item : goal.decreases-lower_item
decreases-lower_item l = l.nesting * 4 + 1

abbrev pub decreases-lower_items : goal.decreases-lower_items
decreases-lower_items l = l.nesting * 4 + 2

abbrev pub invariant-lower_items-loop-r : goal.invariant-lower_items-loop-r
invariant-lower_items-loop-r l =
    (length l.out ≡ length l.initial.out) × (length l.bytes ≡ length l.initial.bytes)
    × ItemsTo l.level l.parent l.initial.state l.state l.initial.out l.initial.bytes l.out l.bytes l.items.input.words.now l.items.input.text.now l.items.next
    l.nesting
    (chain_left l.r-iterator)
