-- What is left, written behind what is written, gives the whole written.
use Rattle.std.proofs.Common.{◌≡◌, ◌+◌, length, drop}
use Rattle.paths_numbers.specs.meaning.Text.{written}
use Rattle.paths_numbers.proofs.text.put.Given as goal

abbrev pub invariant-loop-i : goal.invariant-loop-i
invariant-loop-i l =
    (length l.out ≡ length l.initial.out) × (written l.initial.out l.at l.text ≡ written l.out (l.at + l.i) (drop l.i l.text))
