-- By whether the kind is that of a node.
use mathlib.Core.Path.{◌∙◌}
use borrow.Author.Tests.{eq-eqb, ne_eqb}
use Rattle.queries.proofs.Records.{node_at_lem}
use Rattle.queries.proofs.definition.is_node_at.Goals as goal

pub returns-then-kind_of-eq-NODE : goal.returns-then-kind_of-eq-NODE
returns-then-kind_of-eq-NODE g c =
    let a = c.args in
    c.is.ensures
    ∙ rw (node_at_lem a.log.words.now a.log.bytes.now a.r (g.P.PathLike.path a.path), c.first_text.ensures, ← c.kind_of.ensures)
    (simp (eq-eqb _ _ c.if-kind_of-eq-NODE.true))

pub returns-else-kind_of-eq-NODE : goal.returns-else-kind_of-eq-NODE
returns-else-kind_of-eq-NODE g c =
    let a = c.args in
    rw (node_at_lem a.log.words.now a.log.bytes.now a.r (g.P.PathLike.path a.path), ← c.kind_of.ensures)
    (simp (ne_eqb _ _ c.if-kind_of-eq-NODE.false))
