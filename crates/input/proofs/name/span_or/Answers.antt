-- By whether there is a record (NameRead).
use mathlib.Core.Path.{refl, ◌∙◌}
use Rattle.definition_log.specs.machine.Parts.{meant}
use Rattle.input.proofs.NameRead.{span_some}
use Rattle.input.proofs.name.span_or.Goals as goal

pub returns-in-Some : goal.returns-in-Some
returns-in-Some c =
    let a = c.args in
    λ text. c.span_at.ensures ∙ span_some a.words.now text a.r (meant a.span) _ c.in-Some.is

pub returns-in-None : goal.returns-in-None
returns-in-None c = λ text. rw c.in-None.is refl
