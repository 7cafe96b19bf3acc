use mathlib.Core.Path.{sym, ◌∙◌}
use Rattle.resolving.proofs.Leading.{passed_none, passed_one, passed_found, passed_all}
use Rattle.resolving.proofs.resolve.first_with.Goals as goal

pub loop-r-init : goal.loop-r-init
loop-r-init c =
    let a = c.args in
    rw (c.into_iter-r-iterator.ensures.into_iter_gives, c.chain-r-items.ensures)
    (passed_none a.log.words.now a.log.bytes.now a.first a.text.now)

pub returns-then-equals : goal.returns-then-equals
returns-then-equals c =
    passed_found (rw c.in-Some.ensures.steps at c.loop-r.invariant)
    (rw c.first_text.ensures at (sym c.equals.ensures ∙ c.if-equals.true))

pub loop-r-preserved : goal.loop-r-preserved
loop-r-preserved c =
    passed_one (rw c.in-Some.ensures.steps at c.loop-r.invariant)
    (rw c.first_text.ensures at (sym c.equals.ensures ∙ c.if-equals.false))

pub returns : goal.returns
returns c = passed_all (rw c.in-None.ensures.steps.0 at c.loop-r.invariant)
