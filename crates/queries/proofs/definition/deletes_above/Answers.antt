-- By whether the kind is that of a deleted node.
use mathlib.Core.Path.{◌∙◌}
use borrow.Author.Tests.{eq-eqb, ne_eqb}
use Rattle.queries.proofs.Records.{deletes_at}
use Rattle.queries.proofs.definition.deletes_above.Goals as goal

pub returns-then-kind_of-eq-DELETED_NODE : goal.returns-then-kind_of-eq-DELETED_NODE
returns-then-kind_of-eq-DELETED_NODE g c =
    let a = c.args in
    c.lies_under.ensures
    ∙ rw (deletes_at a.log.words.now a.log.bytes.now a.r (g.P.PathLike.path a.path), c.first_text.ensures, ← c.kind_of.ensures)
    (simp (eq-eqb _ _ c.if-kind_of-eq-DELETED_NODE.true))

pub returns-else-kind_of-eq-DELETED_NODE : goal.returns-else-kind_of-eq-DELETED_NODE
returns-else-kind_of-eq-DELETED_NODE g c =
    let a = c.args in
    rw (deletes_at a.log.words.now a.log.bytes.now a.r (g.P.PathLike.path a.path), ← c.kind_of.ensures)
    (simp (ne_eqb _ _ c.if-kind_of-eq-DELETED_NODE.false))
