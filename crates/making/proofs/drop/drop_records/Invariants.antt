-- The records below the next are dropped, and no other (Dropping).
use Prim.Native.Nat.{ℕ, ◌-◌, ◌≤◌}
use mathlib.Core.Path.{◌≡◌}
use mathlib.Core.List.{List}
use lib.ListN.{length}
use Rattle.making.specs.machine.Events.{Event}
use Rattle.making.specs.machine.Buffers.{Layout}
use Rattle.making.specs.machine.Dropped.{dropped_to, Body}
use Rattle.making.proofs.drop.drop_records.Given as goal

abbrev pub invariant-loop-r : goal.invariant-loop-r
invariant-loop-r l =
    (l.mark ≤ l.r)
    × (length l.words ≡ length l.initial.words)
    × (length l.bytes ≡ length l.initial.bytes)
    × ((used : ℕ) (es : List Event) → 1 ≤ l.mark → Layout l.initial.words l.initial.bytes l.end used es → Body l.mark es
    → Layout l.words l.bytes l.end used (dropped_to l.mark l.r es))

abbrev pub decreases-loop-r : goal.decreases-loop-r
decreases-loop-r l = l.end - l.r
