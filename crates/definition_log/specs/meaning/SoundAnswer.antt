-- What the test of a log answers, in the words of its definition.
use Rattle.std.specs.Prelude.{⊤, Result, Ok, Err}
use Rattle.definition_log.specs.meaning.Sound as spec
use Rattle.definition_log.specs.declared.sound.Broken.{Broken}

-- the output rules kept, or broken at a record
abbrev pub told : Result ⊤ Broken → spec.Soundness
told (Ok n) = spec.sound
told (Err b) = spec.broken b.record
