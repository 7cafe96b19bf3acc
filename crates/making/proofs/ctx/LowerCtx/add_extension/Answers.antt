-- A record made, and counted as an extension.
use Rattle.std.proofs.Common.{refl}
use Rattle.making.specs.machine.Made.{with_ext}
use Rattle.making.proofs.ctx.LowerCtx.add_extension.Goals as goal

pub returns : goal.returns
unfolding with_ext
returns c = record { made = c.make-made.result; told = rw c.end_link.ensures at c.make-made.ensures; state = rw c.grown.ensures refl }
