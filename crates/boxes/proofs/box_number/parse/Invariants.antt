-- Loop invariant: what is left says what the whole says, and the number fits its bytes.
use Prim.Native.Nat.{◌<◌}
use mathlib.Core.Path.{◌≡◌}
use lib.ListN.{drop}
use Rattle.boxes.specs.meaning.Box.{value_behind, hundreds}
use Rattle.boxes.proofs.box_number.parse.Given as goal

abbrev pub invariant-loop-b : goal.invariant-loop-b
invariant-loop-b l = (l.n < hundreds l.b-index) × (value_behind 0 l.s ≡ value_behind l.n (drop l.b-index l.s))
