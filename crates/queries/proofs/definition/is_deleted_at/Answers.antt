-- By whether the kind is that of a deleted node.
use mathlib.Core.Path.{◌∙◌}
use borrow.Author.Tests.{eq-eqb, ne_eqb}
use Rattle.queries.proofs.Records.{deleted_at_lem}
use Rattle.queries.proofs.definition.is_deleted_at.Goals as goal

pub returns-then-kind_of-eq-DELETED_NODE : goal.returns-then-kind_of-eq-DELETED_NODE
returns-then-kind_of-eq-DELETED_NODE c =
    let a = c.args in
    c.equals.ensures ∙ rw (deleted_at_lem a.log.words.now a.log.bytes.now a.r a.path.now, c.first_text.ensures, ← c.kind_of.ensures)
    (simp (eq-eqb _ _ c.if-kind_of-eq-DELETED_NODE.true))

pub returns-else-kind_of-eq-DELETED_NODE : goal.returns-else-kind_of-eq-DELETED_NODE
returns-else-kind_of-eq-DELETED_NODE c =
    let a = c.args in
    rw (deleted_at_lem a.log.words.now a.log.bytes.now a.r a.path.now, ← c.kind_of.ensures)
    (simp (ne_eqb _ _ c.if-kind_of-eq-DELETED_NODE.false))
