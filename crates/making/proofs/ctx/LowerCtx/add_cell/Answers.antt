-- A record made, and counted as a cell.
use Rattle.std.proofs.Common.{refl}
use Rattle.making.specs.machine.Made.{with_last_cell}
use Rattle.making.proofs.ctx.LowerCtx.add_cell.Goals as goal

pub returns : goal.returns
unfolding with_last_cell
returns c = record { made = c.make-made.result; told = rw c.child_link-link.ensures at c.make-made.ensures; state = refl }
