-- The definition, then the labels (Opened).
use Rattle.paths_numbers.specs.meaning.Path.{joined}
use Rattle.making.specs.machine.PathPlaces.{path_in}
use Rattle.input.specs.meaning.Input.{span_at}
use Rattle.input.specs.machine.NameRead.{name_text, unit_text}
use Rattle.items.proofs.Opened.{defined_opens, below_parent}
use Rattle.items.proofs.open_node.define_below.Goals as goal

pub returns : goal.returns
returns c =
    let a = c.args in
    let words = a.node.input.words.now in
    let text = a.node.input.text.now in
    let part = c.parts.ensures in
    defined_opens
    c.node_head-kind.result.kind
    c.node_head-kind.result.span
    c.node_head-kind.result.name_span (span_at words a.node.number)
    (joined (path_in a.ctx.bytes a.bytes.now a.parent) (name_text words text a.full.name)
    (unit_text words text a.full.unit))
    (λ p. joined p (name_text words text a.full.name) (unit_text words text a.full.unit))
    (rw (
      c.name_text-name_of.ensures,
      c.unit_text-unit_of.ensures,
    ) at c.define-made.ensures)
    (rw (part.input, part.next) at c.open_node.ensures)
    c.node_head-kind.ensures.kind
    c.node_head-kind.ensures.span
    c.node_head-kind.ensures.name_span
    (below_parent (name_text words text a.full.name) (unit_text words text a.full.unit))
