-- Field by field.
use mathlib.Core.Path.{refl}
use Rattle.making.specs.machine.Made.{ran_short}
use Rattle.making.proofs.ctx.LowerCtx.run_short.Goals as goal

pub returns : goal.returns
unfolding ran_short
returns c = refl
