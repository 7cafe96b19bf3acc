-- Loop invariant: the words that are left, written behind those before, give all (InputWords: word_next, words_end).
use Prim.Native.Nat.{◌-◌, ◌*◌}
use mathlib.Core.Path.{◌≡◌}
use lib.ListN.{length, drop}
use Rattle.paths_numbers.specs.meaning.Text.{written}
use Rattle.listing.specs.meaning.Program.{words_of}
use Rattle.listing.proofs.reading.read_words.Given as goal

abbrev pub invariant-loop-i : goal.invariant-loop-i
invariant-loop-i l = (length l.words ≡ length l.initial.words)
    × (written l.initial.words 0 (words_of l.n l.s) ≡ written l.words l.i (words_of (l.n - l.i) (drop (l.i * 4) l.s)))
