-- What is left, written behind what is written, gives the whole written.
use mathlib.Core.Path.{◌≡◌}
use lib.ListN.{length, drop}
use Rattle.paths_numbers.specs.meaning.Text.{written}
use Rattle.queries.proofs.list.fit.Given as goal

abbrev pub invariant-loop-i : goal.invariant-loop-i
invariant-loop-i l = (length l.list ≡ length l.initial.list) × (written l.initial.list 0 l.numbers ≡ written l.list l.i (drop l.i l.numbers))
