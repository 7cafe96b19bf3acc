-- By whether the log in hand is an overlay, and by what was not found (Leading).
use mathlib.Core.Path.{sym, ap, ◌∙◌}
use Rattle.std.specs.Prelude.{Err}
use Rattle.resolving.proofs.Leading.{reports_overlay, missing_label, missing_node, missing_below, missing_none}
use Rattle.resolving.proofs.resolve.report_unresolved.Goals as goal

pub returns-in_default : goal.returns-in_default
returns-in_default c = missing_none _ c.in_default.is

pub returns-then-sets_overlay_in : goal.returns-then-sets_overlay_in
returns-then-sets_overlay_in c = reports_overlay (sym (c.sets_overlay_in.ensures _) ∙ c.if-sets_overlay_in.true)

pub returns-in-NoLabel : goal.returns-in-NoLabel
returns-in-NoLabel c = missing_label (c.in-Err.is ∙ ap Err c.in-NoLabel.is)
    (sym (c.sets_overlay_in.ensures _) ∙ c.if-sets_overlay_in.false)
    c.emit.ensures

pub returns-in-NoNode : goal.returns-in-NoNode
returns-in-NoNode c = missing_node _ (c.in-Err.is ∙ ap Err c.in-NoNode.is)
    (sym (c.sets_overlay_in.ensures _) ∙ c.if-sets_overlay_in.false)
    c.emit-in-NoNode.ensures

pub returns-in-NoNodeBelow : goal.returns-in-NoNodeBelow
returns-in-NoNodeBelow c = missing_below _ _ (c.in-Err.is ∙ ap Err c.in-NoNodeBelow.is)
    c.second_place.ensures c.no_text.ensures
    (sym (c.sets_overlay_in.ensures _) ∙ c.if-sets_overlay_in.false)
    c.emit_joined.ensures
