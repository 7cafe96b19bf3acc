-- By where the reference leads (Directives).
use mathlib.Core.Path.{refl, ap, ◌∙◌}
use Rattle.std.specs.Prelude.{Ok}
use Rattle.definition_log.specs.machine.Parts.{meant}
use Rattle.input.specs.machine.At.{record_at}
use Rattle.items.specs.machine.AtRecord.{named_in}
use Rattle.input.specs.machine.OfRecord.{tree_of}
use Rattle.items.proofs.Directives.{target_bound, target_below_lem, target_at_lem, target_there, target_nowhere}
use Rattle.items.proofs.item.delete_target.Goals as goal

pub returns-in-Ok-Bound : goal.returns-in-Ok-Bound
returns-in-Ok-Bound c =
    let a = c.args in
    target_bound (named_in a.kind a.reference) (tree_of a.reference) (meant a.span) a.ctx
    c.requires
    (c.resolve_phandle-leads.ensures.0 _ refl)
    c.resolve_phandle-leads.ensures.1 _
    (c.in-Ok-Bound.is ∙ ap Ok (rw c.in-Ok-Bound.is at c.in-Ok-Bound.field-0-is))
    (rw c.label-label.ensures at c.delete_bound.ensures)

pub returns-in-Ok-BoundPath : goal.returns-in-Ok-BoundPath
returns-in-Ok-BoundPath c =
    let a = c.args in
    target_below_lem (named_in a.kind a.reference) (tree_of a.reference) (meant a.span) a.ctx
    c.requires
    (c.resolve_phandle-leads.ensures.0 _ refl)
    c.resolve_phandle-leads.ensures.1 _ _ c.path-path.ensures refl
    (c.in-Ok-BoundPath.is ∙ ap Ok (rw c.in-Ok-BoundPath.is at c.in-Ok-BoundPath.field-0-is))
    (rw c.label-label.ensures at c.delete_bound-in-Ok-BoundPath.ensures)

pub returns-in-Ok-AtPath : goal.returns-in-Ok-AtPath
returns-in-Ok-AtPath c =
    let a = c.args in
    target_at_lem (named_in a.kind a.reference) (tree_of a.reference) (meant a.span) a.ctx
    c.requires
    (c.resolve_phandle-leads.ensures.0 _ refl)
    c.resolve_phandle-leads.ensures.1
    (c.in-Ok-AtPath.is ∙ ap Ok (rw c.in-Ok-AtPath.is at c.in-Ok-AtPath.field-0-is))
    (rw c.path-path.ensures at
    c.delete_at.ensures)

pub returns-in-Ok-Node : goal.returns-in-Ok-Node
returns-in-Ok-Node c =
    let a = c.args in
    target_there (named_in a.kind a.reference) (tree_of a.reference) (meant a.span) a.ctx
    c.requires
    (c.resolve_phandle-leads.ensures.0 _ refl)
    c.resolve_phandle-leads.ensures.1 _
    (c.in-Ok-Node.is ∙ ap Ok (rw c.in-Ok-Node.is at c.in-Ok-Node.field-0-is))
    c.delete_there.ensures

pub returns-in-Err : goal.returns-in-Err
unfolding record_at
returns-in-Err c =
    let a = c.args in
    target_nowhere (named_in a.kind a.reference) (tree_of a.reference) (meant a.span) a.ctx
    c.requires
    (c.resolve_phandle-leads.ensures.0 _ refl)
    c.resolve_phandle-leads.ensures.1
    c.in-Err.field-0 c.in-Err.is
    c.span-at.ensures
    (rw (c.label-label.ensures, c.path-path.ensures) at c.report_unresolved.ensures)
