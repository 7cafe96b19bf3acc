-- A body entered (Entered).
use Rattle.std.proofs.Common.{refl}
use Rattle.making.specs.machine.Made.{entered}
use Rattle.making.proofs.Entered.{enters_body}
use Rattle.making.proofs.ctx.LowerCtx.enter.Goals as goal
use Rattle.making.proofs.ctx.LowerCtx.enter.Goals.{then-keeps, else-keeps}

pub returns : goal.returns
unfolding entered
returns c =
    enters_body c.args.keeps
    (elim c.if-keeps.branch
    [ then-keeps w ↦ rw (w.result-is, w.if-keeps.true) refl | else-keeps w ↦ rw (w.result-is, w.if-keeps.false) refl ])
