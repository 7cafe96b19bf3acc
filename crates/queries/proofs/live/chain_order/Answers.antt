-- Each record is written behind the others (Numbers: one_collected).
use mathlib.Core.Path.{refl}
use native.Mathlib.Omega.{arith}
use borrow.Author.Rules.{rules}
use Rattle.queries.proofs.Chain.{chain_most}
use Rattle.queries.proofs.Numbers.{one_collected, room_for_next, all_collected}
use Rattle.queries.proofs.live.chain_order.Goals as goal

pub loop-r-init : goal.loop-r-init
loop-r-init c = (omega arith, rw (c.into_iter-r-iterator.ensures.into_iter_gives, c.chain-r-items.ensures) refl)

pub bounds-numbers-count : goal.bounds-numbers-count
bounds-numbers-count c =
    let l = c.loop-r in
    room_for_next l.numbers l.count l.invariant.1 c.in-Some.ensures.steps l.invariant.0
    (omega (arith, c.requires, l.auto.numbers, chain_most c.args.words.now c.args.first))

pub loop-r-preserved : goal.loop-r-preserved
loop-r-preserved c =
    let l = c.loop-r in
    let h = room_for_next l.numbers l.count l.invariant.1 c.in-Some.ensures.steps l.invariant.0
    (omega (arith, c.requires, l.auto.numbers, chain_most c.args.words.now c.args.first)) in
    (search rules, one_collected l.numbers l.count l.invariant.1 c.in-Some.ensures.steps h)

pub returns : goal.returns
returns c =
    let l = c.loop-r in
    all_collected l.numbers l.count l.invariant.1 c.in-None.ensures.steps.0
