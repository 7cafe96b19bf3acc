use mathlib.Core.Path.{refl, ◌∙◌}
use mathlib.Core.List.{map}
use Rattle.definition_log.specs.meaning.ReadBack.{chain_of, def_at, read_defs}
use Rattle.queries.specs.meaning.Live.{deletes}
use Rattle.queries.specs.meaning.Labels.{has_label_at}
use Rattle.queries.proofs.Fold.{labels_at, live_found_at, found_step, found_end}
use Rattle.queries.proofs.mir.unbinds_in.Goals as goal

pub loop-r-init : goal.loop-r-init
unfolding read_defs
loop-r-init c =
    let a = c.args in
    live_found_at (labels_at a.label.now a.path.now) (map (def_at a.log.words.now a.log.bytes.now) (chain_of a.log.words.now a.first))
    ∙ rw (c.into_iter-r-iterator.ensures.into_iter_gives, c.chain-r-items.ensures) refl

pub loop-r-preserved : goal.loop-r-preserved
loop-r-preserved c =
    let a = c.args in
    found_step (def_at a.log.words.now a.log.bytes.now) (has_label_at a.label.now a.path.now) (deletes a.path.now)
    c.loop-r.found c.loop-r.invariant
    c.in-Some.ensures.steps c.unbinds_after-found.ensures

pub returns : goal.returns
returns c =
    let a = c.args in
    found_end (def_at a.log.words.now a.log.bytes.now) (has_label_at a.label.now a.path.now) (deletes a.path.now)
    c.loop-r.found c.loop-r.invariant
    c.in-None.ensures.steps.0
