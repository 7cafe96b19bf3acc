-- A body kept as an extension (Typed).
use Rattle.std.proofs.Common.{refl}
use Rattle.making.specs.machine.Made.{left_kept}
use Rattle.making.proofs.Typed.{keeps_body}
use Rattle.making.proofs.ctx.LowerCtx.leave_kept.Goals as goal

pub returns : goal.returns
unfolding left_kept
returns c =
    let a = c.args in
    keeps_body a.span a.name_span a.target.kind _ _ c.add_extension-with.ensures c.add_target-made.ensures refl
