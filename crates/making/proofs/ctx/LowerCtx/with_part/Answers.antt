-- Field by field.
use mathlib.Core.Path.{refl}
use Rattle.making.specs.machine.Made.{with_part}
use Rattle.making.proofs.ctx.LowerCtx.with_part.Goals as goal

pub returns : goal.returns
unfolding with_part
returns c = refl
