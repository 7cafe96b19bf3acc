-- The definition, then the labels (Opened).
use mathlib.Core.Path.{refl}
use Rattle.input.specs.meaning.Input.{span_at}
use Rattle.items.proofs.Opened.{defined_opens}
use Rattle.items.proofs.open_node.define_there.Goals as goal

pub returns : goal.returns
returns c =
    let a = c.args in
    let words = a.node.input.words.now in
    let text = a.node.input.text.now in
    let part = c.parts.ensures in
    λ parent.
    defined_opens {parent = parent}
    c.node_head-kind.result.kind
    c.node_head-kind.result.span c.node_head-kind.result.name_span (span_at words a.node.number) a.path.now (λ p. a.path.now)
    c.define_text-made.ensures
    (rw (part.input, part.next) at c.open_node.ensures)
    c.node_head-kind.ensures.kind
    c.node_head-kind.ensures.span
    c.node_head-kind.ensures.name_span
    (λ k p s r z. refl)
