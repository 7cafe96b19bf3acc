-- Two words are set, by what `file_at` promises.
use mathlib.Core.Path.{refl}
use native.Mathlib.Omega.{arith}
use lib.ListN.{length-set}
use Rattle.file_words.specs.machine.Put.{record_put}
use Rattle.file_words.proofs.file_words.put_record.Goals as goal

pub bounds-words-at-2 : goal.bounds-words-at-2
bounds-words-at-2 c = simp length-set (omega arith)

pub returns : goal.returns
unfolding record_put
returns c = rw (c.file_at-file.ensures, c.file_at-name_file.ensures) refl
