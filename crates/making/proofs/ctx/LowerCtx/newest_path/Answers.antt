-- The newest definition read (InHand).
use Rattle.std.proofs.Common.{refl}
use Rattle.making.proofs.InHand.{newest}
use Rattle.making.proofs.ctx.LowerCtx.newest_path.Goals as goal

pub returns : goal.returns
returns c = let a = c.args in rw c.first_place.ensures (newest a.self a.words.now _ _ refl refl)
