use mathlib.Core.Path.{refl, sym}
use Rattle.queries.proofs.Picked.{passing_start, passing_by, passing_taken, passing_second, passing_none, passing_one}
use Rattle.queries.proofs.lookup.short_node.Goals as goal

pub loop-r-init : goal.loop-r-init
loop-r-init c =
    let a = c.args in
    passing_start a.log.words.now a.log.bytes.now a.first _ _
    (rw c.into_iter-r-iterator.ensures.into_iter_gives c.chain-r-items.ensures)

pub returns-then-is_some : goal.returns-then-is_some
returns-then-is_some c =
    (passing_second c.loop-r.invariant c.in-Some.ensures.steps (sym c.if-is_another.ensures) (sym c.if-is_some.ensures), refl)

pub loop-r-preserved-then-is_another : goal.loop-r-preserved-then-is_another
loop-r-preserved-then-is_another c =
    passing_taken c.loop-r.invariant c.in-Some.ensures.steps (sym c.if-is_another.ensures) (sym c.if-is_some.ensures)

pub loop-r-preserved : goal.loop-r-preserved
loop-r-preserved c = passing_by c.loop-r.invariant c.in-Some.ensures.steps (sym c.if-is_another.ensures)

pub returns-in-Some-found : goal.returns-in-Some-found
returns-in-Some-found c =
    let h = c.loop-r.invariant in
    (passing_one h c.in-None.ensures.steps.0 c.in-Some-found.is, h.known _ c.in-Some-found.is)

pub returns-in-None-found : goal.returns-in-None-found
returns-in-None-found c = (passing_none c.loop-r.invariant c.in-None.ensures.steps.0 c.in-None-found.is, refl)
