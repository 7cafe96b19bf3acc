-- By where the reference leads (NodeReferenced).
use mathlib.Core.Path.{refl, ap, ◌∙◌}
use Rattle.std.specs.Prelude.{Ok}
use Rattle.making.specs.machine.PathPlaces.{path_in}
use Rattle.input.specs.meaning.Input.{span_at}
use Rattle.input.specs.machine.PhandleRead.{label_at, path_at}
use Rattle.items.proofs.NodeReferenced.{defines_bound, defines_below, defines_path, defines_named, defines_none}
use Rattle.items.proofs.open_node.define_leading.Goals as goal

pub returns-in_default : goal.returns-in_default
returns-in_default c =
    let a = c.args in
    defines_none a.leads (label_at a.node.input.words.now a.node.input.text.now a.reference) (path_at a.node.input.words.now a.node.input.text.now a.reference) _
    c.in_default.is

pub returns-in-Bound : goal.returns-in-Bound
returns-in-Bound c =
    let a = c.args in
    let words = a.node.input.words.now in
    let text = a.node.input.text.now in
    defines_bound a.leads (label_at words text a.reference) (path_at words text a.reference)
    c.node_head-kind.result.kind
    c.node_head-kind.result.span
    c.node_head-kind.result.name_span
    (span_at words a.node.number) _ c.define_at.ensures
    c.node_head-kind.ensures.kind
    c.node_head-kind.ensures.span
    c.node_head-kind.ensures.name_span
    _ (c.in-Ok.is ∙ ap Ok c.in-Bound.is)
    (ap (path_in a.ctx.bytes a.bytes.now) c.second_place-place.ensures)

pub returns-in-BoundPath : goal.returns-in-BoundPath
returns-in-BoundPath c =
    let a = c.args in
    let words = a.node.input.words.now in
    let text = a.node.input.text.now in
    defines_below a.leads (label_at words text a.reference) (path_at words text a.reference)
    c.node_head-kind.result.kind
    c.node_head-kind.result.span c.node_head-kind.result.name_span (span_at words a.node.number) _ c.define.ensures
    c.node_head-kind.ensures.kind
    c.node_head-kind.ensures.span
    c.node_head-kind.ensures.name_span
    _ (c.in-Ok.is ∙ ap Ok c.in-BoundPath.is)
    (rw (
      c.second_place-place-in-BoundPath.ensures,
      c.phandle_path_at-path.ensures,
      c.no_text-unit.ensures,
    ) refl)

pub returns-in-AtPath : goal.returns-in-AtPath
returns-in-AtPath c =
    let a = c.args in
    let words = a.node.input.words.now in
    let text = a.node.input.text.now in
    defines_path a.leads (label_at words text a.reference) (path_at words text a.reference)
    c.node_head-kind.result.kind
    c.node_head-kind.result.span
    c.node_head-kind.result.name_span (span_at words a.node.number) _
    c.define_text.ensures
    c.node_head-kind.ensures.kind c.node_head-kind.ensures.span
    c.node_head-kind.ensures.name_span
    (c.in-Ok.is ∙ ap Ok c.in-AtPath.is)
    c.phandle_path_at-path.ensures

pub returns-in-Node : goal.returns-in-Node
returns-in-Node c =
    let a = c.args in
    let words = a.node.input.words.now in
    let text = a.node.input.text.now in
    defines_named a.leads (label_at words text a.reference) (path_at words text a.reference)
    c.node_head-kind.result.kind
    c.node_head-kind.result.span
    c.node_head-kind.result.name_span
    (span_at words a.node.number) _ c.define_at-in-Node.ensures
    c.node_head-kind.ensures.kind
    c.node_head-kind.ensures.span
    c.node_head-kind.ensures.name_span
    _ (c.in-Ok.is ∙ ap Ok c.in-Node.is)
    (ap (path_in a.ctx.bytes a.bytes.now) c.first_place-place.ensures)
