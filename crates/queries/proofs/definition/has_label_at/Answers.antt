-- Only a node has labels (Records: label_at).
use mathlib.Core.Path.{refl, sym, ◌∙◌}
use Rattle.queries.proofs.Records.{label_at}
use Rattle.queries.proofs.definition.has_label_at.Goals as goal

pub returns-then-is_node_at : goal.returns-then-is_node_at
returns-then-is_node_at c =
    let a = c.args in
    c.has_label.ensures ∙ sym (label_at a.log.words.now a.log.bytes.now a.r a.label.now a.path.now
    ∙ rw (sym c.is_node_at.ensures ∙ c.if-is_node_at.true, c.child_of.ensures) refl)

pub returns-else-is_node_at : goal.returns-else-is_node_at
returns-else-is_node_at c =
    let a = c.args in
    c.if-is_node_at.false ∙ sym (label_at a.log.words.now a.log.bytes.now a.r a.label.now a.path.now
    ∙ rw (sym c.is_node_at.ensures ∙ c.if-is_node_at.false) refl)
