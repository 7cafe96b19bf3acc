-- By where the reference leads (References).
use mathlib.Core.Path.{ap, ◌∙◌}
use Rattle.std.specs.Prelude.{Err}
use Rattle.post_checks.proofs.References.{target_label_lem, target_node, target_below_lem, target_led}
use Rattle.post_checks.proofs.check_phandles.check_phandle.Goals as goal

pub returns-in-Err-NoLabel : goal.returns-in-Err-NoLabel
returns-in-Err-NoLabel c = let a = c.args in
    target_label_lem a.r a.span _ c.resolve_target.ensures.0 c.emit_copied.ensures.keeps _
    (c.in-Err-NoLabel.is ∙ ap Err c.in-Err-NoLabel.field-0-is)
    c.target_place-label.ensures
    c.emit_copied.ensures.steps

pub returns-in-Err-NoNode : goal.returns-in-Err-NoNode
returns-in-Err-NoNode c = let a = c.args in
    target_node a.r a.span _ c.resolve_target.ensures.0 c.emit_copied-in-Err-NoNode.ensures.keeps _ _
    (c.in-Err-NoNode.is ∙ ap Err c.in-Err-NoNode.field-0-is)
    c.second_place-path.ensures
    c.emit_copied-in-Err-NoNode.ensures.steps

pub returns-in-Err-NoNodeBelow : goal.returns-in-Err-NoNodeBelow
returns-in-Err-NoNodeBelow c = let a = c.args in
    target_below_lem a.r a.span _ c.resolve_target.ensures.0 c.emit_joined_at.ensures.keeps _ _ _ _
    (c.in-Err-NoNodeBelow.is ∙ ap Err c.in-Err-NoNodeBelow.field-0-is)
    c.second_place.ensures
    c.second_place-path.ensures
    c.resolve_target.ensures.1 c.emit_joined_at.ensures.steps

pub returns-in-Ok : goal.returns-in-Ok
returns-in-Ok c = let a = c.args in
    target_led a.r a.span _ c.resolve_target.ensures.0 _ c.in-Ok.is
