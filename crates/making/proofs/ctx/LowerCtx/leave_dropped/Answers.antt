-- A body dropped (Left).
use Rattle.std.proofs.Common.{refl}
use Rattle.making.specs.machine.Made.{left_dropped}
use Rattle.making.proofs.Left.{leaves_body}
use Rattle.making.proofs.ctx.LowerCtx.leave_dropped.Goals as goal

pub returns : goal.returns
unfolding left_dropped
returns c = leaves_body c.drop_from.ensures refl
