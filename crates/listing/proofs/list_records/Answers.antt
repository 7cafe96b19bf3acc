-- The words at the start of the list are those that were read (InputWords: words_read).
use mathlib.Core.Path.{sym, ap, ◌∙◌}
use mathlib.Core.List.{List}
use Prim.Native.Nat.{ℕ}
use lib.ListN.{length}
use Rattle.listing.specs.meaning.Program.{listed}
use Rattle.listing.proofs.InputWords.{words_length, words_read}
use Rattle.listing.proofs.Pages.{puts_same}
use Rattle.listing.proofs.list_records.Goals as goal

pub slice_bounds-list_words-end : goal.slice_bounds-list_words-end
slice_bounds-list_words-end c = let a = c.args in
    sym (ap length (words_read _ a.records.now _ a.n c.read_words.ensures)
    ∙ words_length a.n a.records.now)

pub returns : goal.returns
returns c = let a = c.args in
    puts_same (ap (λ (w : List ℕ). listed w a.text.now) (words_read _ a.records.now _ a.n c.read_words.ensures)) c.list_words.ensures
