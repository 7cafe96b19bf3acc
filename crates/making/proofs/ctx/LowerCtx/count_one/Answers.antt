-- Field by field.
use mathlib.Core.Path.{refl}
use Rattle.making.specs.machine.Made.{one_more}
use Rattle.making.proofs.ctx.LowerCtx.count_one.Goals as goal

pub returns : goal.returns
unfolding one_more
returns c = refl
