-- By how many heads there are.
use mathlib.Core.Path.{refl}
use borrow.Author.Tests.{lt-ltb, le-ltb}
use Rattle.queries.specs.machine.Table.{place_of}
use Rattle.queries.proofs.later.place_of.Goals as goal

pub returns-then-heads-lt-FEW_RECORDS : goal.returns-then-heads-lt-FEW_RECORDS
unfolding place_of
returns-then-heads-lt-FEW_RECORDS c = rw (lt-ltb _ _ c.if-heads-lt-FEW_RECORDS.true) refl

pub returns-then-heads-lt-MOST_RECORDS : goal.returns-then-heads-lt-MOST_RECORDS
unfolding place_of
returns-then-heads-lt-MOST_RECORDS c = rw (le-ltb _ _ c.if-heads-lt-FEW_RECORDS.false, lt-ltb _ _ c.if-heads-lt-MOST_RECORDS.true) refl

pub returns : goal.returns
unfolding place_of
returns c = rw (le-ltb _ _ c.if-heads-lt-FEW_RECORDS.false, le-ltb _ _ c.if-heads-lt-MOST_RECORDS.false) refl
