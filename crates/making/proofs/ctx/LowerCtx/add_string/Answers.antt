-- A string made (Typed).
use mathlib.Core.Path.{refl}
use Rattle.making.proofs.Typed.{makes_string}
use Rattle.making.proofs.ctx.LowerCtx.add_string.Goals as goal

pub returns : goal.returns
returns c = makes_string c.add_part.ensures refl
    c.part.ensures
