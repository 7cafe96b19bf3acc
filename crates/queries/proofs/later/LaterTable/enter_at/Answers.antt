-- By its hash.
use Rattle.queries.proofs.later.LaterTable.enter_at.Goals as goal

pub returns : goal.returns
returns c = rw (← c.hash_of.ensures) c.enter.ensures
