-- A label made (Typed).
use mathlib.Core.Path.{refl}
use Rattle.making.proofs.Typed.{makes_label}
use Rattle.making.proofs.ctx.LowerCtx.add_label.Goals as goal

pub returns : goal.returns
returns c = makes_label c.add_part.ensures refl
    c.part.ensures
