-- By whether the record was made, and whether it is the first.
use borrow.Author.Tests.{eq-eqb, ne_eqb}
use Rattle.making.specs.machine.Made.{grown}
use Rattle.making.proofs.ctx.Chain.grown.Goals as goal

pub returns-then-short : goal.returns-then-short
unfolding grown
returns-then-short c = simp c.if-short.true

pub returns-then-self-eq0 : goal.returns-then-self-eq0
unfolding grown
returns-then-self-eq0 c = simp (c.if-short.false, eq-eqb _ _ c.if-self-eq0.true)

pub returns-else-self-eq0 : goal.returns-else-self-eq0
unfolding grown
returns-else-self-eq0 c = simp (c.if-short.false, ne_eqb _ _ c.if-self-eq0.false)
