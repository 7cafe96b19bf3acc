-- By whether there is a reference (NameRead).
use mathlib.Core.Path.{◌∙◌}
use Rattle.definition_log.specs.machine.Parts.{meant}
use Rattle.input.proofs.NameRead.{reference_span_lem, no_reference_lem}
use Rattle.input.proofs.linked.Chain.node_name_span.Goals as goal

pub returns-in-Some : goal.returns-in-Some
returns-in-Some c =
    let a = c.args in
    λ text. c.span_at.ensures ∙ reference_span_lem a.self text (meant a.span) _ c.first_of.ensures _ c.in-Some.is

pub returns-in-None : goal.returns-in-None
returns-in-None c =
    let a = c.args in
    λ text. c.own_span.ensures text ∙ no_reference_lem a.self text (meant a.span) _ c.first_of.ensures c.in-None.is
