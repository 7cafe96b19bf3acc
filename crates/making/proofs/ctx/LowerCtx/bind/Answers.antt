-- A binding made (Typed).
use Rattle.std.proofs.Common.{refl}
use Rattle.making.specs.machine.Made.{with_bind}
use Rattle.making.proofs.Typed.{makes_binding}
use Rattle.making.proofs.ctx.LowerCtx.bind.Goals as goal

pub returns : goal.returns
unfolding with_bind
returns c = makes_binding c.make-made.ensures c.args.span refl c.end_link.ensures (rw c.grown.ensures refl)
