-- What C is told.
use Rattle.definition_log.specs.meaning.Answer.{Answered}
use Rattle.boxes.specs.meaning.Box.{BoxRead}
use Rattle.definition_log_c.specs.declared.DlAnswer.{DlAnswer}
use Rattle.definition_log_c.specs.declared.DlBox.{DlBox}

-- 01's number, and what is returned with it
abbrev pub told : DlAnswer → Answered
told a = record { number = a.number; returned = a.returned }

-- a box number, or why there is none
abbrev pub box_told : DlBox → BoxRead
box_told b = record { number = b.number; value = b.value }
