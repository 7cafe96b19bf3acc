-- By whether the list has room.
use mathlib.Core.Path.{refl}
use borrow.Author.Tests.{le-leb, lt-leb}
use Rattle.queries.proofs.query.list_answer.Goals as goal

pub returns-then-room-count : goal.returns-then-room-count
returns-then-room-count c = rw (lt-leb _ _ c.if-room-count.true) refl

pub returns : goal.returns
returns c = rw (le-leb _ _ c.if-room-count.false) refl
