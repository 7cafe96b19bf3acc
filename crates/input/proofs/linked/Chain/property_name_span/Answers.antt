-- From the first name (NameRead).
use mathlib.Core.Path.{◌∙◌}
use Rattle.definition_log.specs.machine.Parts.{meant}
use Rattle.input.proofs.NameRead.{property_span}
use Rattle.input.proofs.linked.Chain.property_name_span.Goals as goal

pub returns : goal.returns
returns c =
    let a = c.args in
    λ text. c.span_or.ensures text ∙ property_span a.self text (meant a.span) _ c.first_of.ensures
