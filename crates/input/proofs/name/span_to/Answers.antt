-- By whether there is a unit address (NameRead).
use Rattle.definition_log.specs.machine.Parts.{meant}
use Rattle.input.proofs.NameRead.{to_end}
use Rattle.input.proofs.name.span_to.Goals as goal

pub returns : goal.returns
returns c =
    let a = c.args in
    λ text. rw (c.max.ensures, c.field-end.ensures) (to_end a.words.now text a.u (meant a.span) _ c.in-Some.is)
