-- The post checks start (Empty).
use Rattle.std.proofs.Common.{refl}
use Rattle.making.specs.machine.Made.{checked}
use Rattle.making.proofs.Empty.{starts_checks}
use Rattle.making.proofs.ctx.LowerCtx.start_checks.Goals as goal

pub returns : goal.returns
unfolding checked
returns c = starts_checks refl
