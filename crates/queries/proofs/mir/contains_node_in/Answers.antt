use mathlib.Core.Path.{refl, ◌∙◌}
use mathlib.Core.List.{map}
use Rattle.definition_log.specs.meaning.ReadBack.{chain_of, def_at, read_defs}
use Rattle.queries.specs.meaning.Live.{deletes, node_at, contains_node}
use Rattle.queries.proofs.Fold.{nodes_at, live_found_at, found_step, found_end}
use Rattle.queries.proofs.mir.contains_node_in.Goals as goal

pub loop-r-init : goal.loop-r-init
unfolding read_defs contains_node
loop-r-init g c =
    let a = c.args in
    live_found_at (nodes_at (g.P.PathLike.path a.path)) (map (def_at a.log.words.now a.log.bytes.now) (chain_of a.log.words.now a.first))
    ∙ rw (c.into_iter-r-iterator.ensures.into_iter_gives, c.chain-r-items.ensures) refl

pub loop-r-preserved : goal.loop-r-preserved
loop-r-preserved g c =
    let a = c.args in
    let p = g.P.PathLike.path a.path in
    found_step (def_at a.log.words.now a.log.bytes.now) (node_at p) (deletes p) c.loop-r.found c.loop-r.invariant
    c.in-Some.ensures.steps c.contains_node_after-found.ensures

pub returns : goal.returns
returns g c =
    let a = c.args in
    let p = g.P.PathLike.path a.path in
    found_end (def_at a.log.words.now a.log.bytes.now) (node_at p) (deletes p) c.loop-r.found c.loop-r.invariant
    c.in-None.ensures.steps.0
