-- A number made (Typed).
use mathlib.Core.Path.{refl}
use Rattle.making.proofs.Typed.{makes_number}
use Rattle.making.proofs.ctx.LowerCtx.add_number.Goals as goal

pub returns : goal.returns
returns c = let a = c.args in makes_number
    c.add_cell.ensures a.low a.high refl refl
    c.part.ensures
