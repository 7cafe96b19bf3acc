-- By what was found before (Fold: after_found, after_none).
use mathlib.Core.Path.{ap, ◌∙◌}
use mathlib.Core.Bool.{not}
use Rattle.definition_log.specs.meaning.ReadBack.{def_at}
use Rattle.queries.proofs.Fold.{nodes_at, after_found, after_none}
use Rattle.queries.proofs.mir.contains_node_after.Goals as goal

pub returns-then-found : goal.returns-then-found
returns-then-found g c =
    let a = c.args in
    ap not c.deletes_above.ensures ∙ after_found (nodes_at (g.P.PathLike.path a.path)) (def_at a.log.words.now a.log.bytes.now a.r) a.found
    c.if-found.true

pub returns : goal.returns
returns g c =
    let a = c.args in
    c.is_node_at.ensures ∙ after_none (nodes_at (g.P.PathLike.path a.path)) (def_at a.log.words.now a.log.bytes.now a.r) a.found
    c.if-found.false
