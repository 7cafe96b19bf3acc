-- Loop invariant: the live numbers behind the records that are left are written, and the table has what can take away there.
use Prim.Native.Nat.{◌+◌, ◌≤◌}
use mathlib.Core.Path.{◌≡◌}
use mathlib.Core.List.{◌++◌}
use lib.ListN.{length, take, drop}
use Rattle.definition_log.specs.meaning.ReadBack.{def_at}
use Rattle.queries.specs.meaning.Query.{live_numbers}
use Rattle.queries.specs.machine.Table.{Table}
use Rattle.queries.proofs.live.live_of.Given as goal

abbrev pub invariant-loop-r : goal.invariant-loop-r
invariant-loop-r l =
    let def = def_at l.log.words.now l.log.bytes.now in
    let behind = drop (length l.left) l.order in
    (l.count + length l.left ≤ length l.order)
    × (length l.table.heads.now ≡ length l.fn.table.heads.now)
    × (length l.table.links.now ≡ length l.fn.table.links.now)
    × Table def l.base (length l.table.heads.now) l.table.heads.now l.table.links.now behind
    × (take l.count l.live ≡ live_numbers def l.base behind)
    × (l.order ≡ l.left ++ behind)

abbrev pub decreases-loop-r : goal.decreases-loop-r
decreases-loop-r l = length l.left
