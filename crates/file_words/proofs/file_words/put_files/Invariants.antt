-- The records so far have their numbers, and the one in hand gets its own.
use Rattle.file_words.specs.machine.Put.{FilesPut}
use Rattle.file_words.proofs.file_words.put_files.Given as goal

abbrev pub invariant-loop-r : goal.invariant-loop-r
invariant-loop-r l = FilesPut l.files.starts.now l.initial.words l.words l.r
