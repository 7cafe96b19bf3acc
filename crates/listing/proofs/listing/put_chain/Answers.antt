use mathlib.Core.Path.{refl}
use Rattle.listing.specs.machine.Chains.{chain_lines}
use Rattle.listing.proofs.Walks.{lines_next, lines_end}
use Rattle.listing.proofs.listing.put_chain.Goals as goal

pub loop-r-init : goal.loop-r-init
unfolding chain_lines
loop-r-init g c = rw (c.into_iter-r-iterator.ensures.into_iter_gives, c.chain-r-items.ensures, c.out_field.ensures) refl

pub loop-r-preserved : goal.loop-r-preserved
loop-r-preserved g c =
    let a = c.args in
    lines_next (g.lines a.log.words.now a.log.bytes.now) _ _ _ c.loop-r.invariant _ _ c.in-Some.ensures.steps _
    (c.requires.1.1 _ _ _ _ _ c.put.ensures)

pub returns : goal.returns
returns g c =
    let a = c.args in
    record { gives = lines_end (g.lines a.log.words.now a.log.bytes.now) _ _ _ c.loop-r.invariant c.in-None.ensures.steps.0 }
