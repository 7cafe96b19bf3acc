-- Loop invariant: a walk from the start is one to here (Unbinding).
use Prim.Native.Nat.{ℕ}
use mathlib.Core.Path.{◌≡◌}
use mathlib.Core.List.{List}
use lib.ListN.{length}
use Rattle.definition_log.specs.meaning.Contents.{Binding}
use Rattle.making.specs.meaning.State.{State}
use Rattle.making.specs.machine.Represents.{Context}
use Rattle.items.specs.machine.Unbinding.{text_of, Walk}
use Rattle.items.proofs.unbind.unbind.Given as goal

abbrev pub invariant-loop-r : goal.invariant-loop-r
invariant-loop-r l = (length l.out ≡ length l.initial.out) × (length l.bytes ≡ length l.initial.bytes)
    × ((k : Context) (s : State) (front : List Binding) (p : List ℕ)
    → Walk l.base (text_of l.until) k s front p l.initial.d l.initial.out l.initial.bytes l.before l.fn.from.next l.fn.from.left
    → Walk l.base (text_of l.until) k s front p l.d l.out l.bytes l.previous l.walk.next l.walk.left)

abbrev pub decreases-loop-r : goal.decreases-loop-r
decreases-loop-r l = l.walk.left
