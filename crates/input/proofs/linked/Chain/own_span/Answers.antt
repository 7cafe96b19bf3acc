-- By whether there is a name (NameRead).
use mathlib.Core.Path.{◌∙◌}
use Rattle.definition_log.specs.machine.Parts.{meant}
use Rattle.input.proofs.NameRead.{name_span_lem, no_name}
use Rattle.input.proofs.linked.Chain.own_span.Goals as goal

pub returns-in_default : goal.returns-in_default
returns-in_default c =
    let a = c.args in
    λ text. c.span_or.ensures text ∙ no_name a.self text (meant a.span) _ c.first_of.ensures _ c.first_of-in_default.ensures c.in_default.is

pub returns : goal.returns
returns c =
    let a = c.args in
    λ text. c.span_to.ensures text
    ∙ rw c.span_at.ensures (name_span_lem a.self text (meant a.span) _ c.first_of.ensures _ c.first_of-2.ensures _ c.in-Some.is)
