-- What the check of an input answers, in the words of its definition.
use Rattle.std.specs.Prelude.{⊤, Result, Ok, Err}
use Rattle.definition_log.specs.meaning.Answer as Answer
use Rattle.definition_log.specs.declared.answer.Refusal.{Refusal}
use Rattle.input.specs.meaning.Rows.{Verdict, accepted, refused}

-- no cause, or the first of 01's causes by its number with the record that it returns
abbrev pub told : Result ⊤ Refusal → Verdict
told (Ok n) = accepted
told (Err e) = refused (Answer.refused e).number (Answer.refused e).returned
