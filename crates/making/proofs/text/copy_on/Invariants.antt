-- What is left, written behind what is written, gives the whole written, and the bytes before the place are as they were.
use Rattle.std.proofs.Common.{◌≡◌, ℕ, ◌+◌, ◌<◌, length, drop, get_or}
use Rattle.paths_numbers.specs.meaning.Text.{written}
use Rattle.definition_log.proofs.Texts.{part}
use Rattle.making.proofs.text.copy_on.Given as goal

abbrev pub invariant-loop-i : goal.invariant-loop-i
invariant-loop-i l =
    (length l.bytes ≡ length l.initial.bytes)
    × (written l.initial.bytes l.at (part l.initial.bytes l.start l.size)
    ≡ written l.bytes (l.at + l.i) (drop l.i (part l.initial.bytes l.start l.size)))
    × ((k : ℕ) → k < l.at → get_or l.bytes k 0 ≡ get_or l.initial.bytes k 0)
