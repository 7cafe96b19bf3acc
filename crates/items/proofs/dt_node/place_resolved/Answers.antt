-- By where the reference leads (NodeReferenced).
use mathlib.Core.Path.{refl}
use mathlib.Core.Bool.{cond}
use Rattle.making.specs.declared.place.PathAt.{PathAt}
use Rattle.input.specs.machine.At.{record_at}
use Rattle.input.specs.machine.OfRecord.{parts_of, span_in}
use Rattle.resolving.specs.meaning.Resolve.{resolve}
use Rattle.items.specs.meaning.Lower.{by_resolution}
use Rattle.items.specs.machine.AtRecord.{named_at}
use Rattle.items.specs.machine.NodePlaced.{PlacesInAt}
use Rattle.items.specs.declared.dt_node.NodePlace.TheVariants as N
use Rattle.items.proofs.NodeReferenced.{place_found, place_missing}
use Rattle.items.proofs.dt_node.place_resolved.Goals as goal
use Rattle.items.proofs.dt_node.place_resolved.Goals.{After-report_unresolved-told}

pub returns-in-Ok : goal.returns-in-Ok
returns-in-Ok c =
    let s = c in
    let a = s.args in
    λ parent.
    rw c.placed_at.ensures (place_found a.ctx a.out.now a.bytes.now _ _ _
    c.resolve_phandle-leads.result c.resolve_phandle-leads.ensures.1 (c.resolve_phandle-leads.ensures.0 _ refl)
    (record_at a.node.input.words.now a.node.input.text.now a.reference)
    c.in-Ok.field-0 c.in-Ok.is
    c.define_leading-made.ensures
    (rw (c.parts.ensures.input, c.parts.ensures.next) at c.open_node.ensures))

-- where it leads nowhere
missing_lem : (c : After-report_unresolved-told) (parent : PathAt)
    → PlacesInAt parent c.args.ctx c.args.out.now c.args.bytes.now c.report_unresolved-told.new.out c.report_unresolved-told.new.bytes
    c.args.node
    (λ p s. by_resolution (record_at c.args.node.input.words.now c.args.node.input.text.now c.args.reference)
    (named_at c.args.kind c.args.node.input.words.now c.args.node.input.text.now c.args.reference) s.defs
    (resolve (named_at c.args.kind c.args.node.input.words.now c.args.node.input.text.now c.args.reference) s.binds s.defs))
    (record {
      node = cond c.sets_overlay_in-keeps.result (N.Aside c.args.reference c.args.kind) (N.Dropped c.args.reference c.args.kind);
      ctx = c.report_unresolved-told.result;
    })
missing_lem c parent =
    let a = c.args in
    place_missing a.ctx a.out.now a.bytes.now
    c.resolve_phandle-leads.result c.in-Err.field-0 {parent = parent} {parts = parts_of a.node} {span = span_in a.node}
    a.node.input.words.now a.node.input.text.now a.reference a.kind
    c.resolve_phandle-leads.ensures.1 (c.resolve_phandle-leads.ensures.0 _ refl)
    c.in-Err.is
    (c.sets_overlay_in-keeps.ensures a.bytes.now)
    (rw (
      c.phandle_label_at-label.ensures,
      c.phandle_path_at-path.ensures,
      c.span_at-span.ensures,
    ) at
    c.report_unresolved-told.ensures)

pub returns-then-keeps : goal.returns-then-keeps
returns-then-keeps c =
    λ parent. rw c.if-keeps.true at (missing_lem (goal.at.returns-then-keeps c).After-report_unresolved-told parent)

pub returns-else-keeps : goal.returns-else-keeps
returns-else-keeps c =
    λ parent. rw c.if-keeps.false at (missing_lem (goal.at.returns-else-keeps c).After-report_unresolved-told parent)
