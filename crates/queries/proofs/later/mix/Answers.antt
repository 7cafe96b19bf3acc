-- By its definition; no step is too large.
use mathlib.Core.Path.{refl}
use Rattle.queries.specs.machine.Table.{mixed}
use Rattle.queries.proofs.later.mix.Goals as goal

pub returns : goal.returns
unfolding mixed
returns c = refl
