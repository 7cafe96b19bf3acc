-- A reference made (Typed).
use Rattle.std.proofs.Common.{refl}
use Rattle.making.proofs.Typed.{makes_phandle}
use Rattle.making.proofs.ctx.LowerCtx.add_phandle.Goals as goal

pub returns : goal.returns
returns c = makes_phandle c.add_part.ensures c.args.target.kind _ _ _ c.rec.ensures refl c.label_of.ensures c.path_of.ensures
