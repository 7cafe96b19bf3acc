-- A cell list made (Typed).
use mathlib.Core.Path.{refl}
use Rattle.making.proofs.Typed.{makes_cell_list}
use Rattle.making.proofs.ctx.LowerCtx.add_cell_list.Goals as goal

pub returns : goal.returns
returns c = makes_cell_list c.add_part.ensures
    c.args.width refl refl
    c.part.ensures
