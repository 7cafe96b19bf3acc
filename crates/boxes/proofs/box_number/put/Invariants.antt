-- Loop invariant: the bytes of the rest, in front of those that are written, are the bytes of the number.
use mathlib.Core.Path.{◌≡◌}
use mathlib.Core.List.{◌++◌}
use lib.ListN.{length, drop}
use Rattle.boxes.specs.meaning.Box.{packed_bytes}
use Rattle.boxes.proofs.box_number.put.Given as goal

abbrev pub invariant-loop-i : goal.invariant-loop-i
invariant-loop-i l = packed_bytes (length l.initial.out) l.value ≡ packed_bytes l.i l.rest ++ drop l.i l.out
