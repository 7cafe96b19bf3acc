use mathlib.Core.Path.{sym}
use native.Mathlib.Omega.{arith}
use Rattle.boxes.proofs.Steps.{put_at, ended}
use Rattle.boxes.proofs.box_number.put.Goals as goal

pub loop-i-preserved : goal.loop-i-preserved
loop-i-preserved c =
    let l = c.loop-i in
    let e = c.packed.ensures in
    rw e (put_at l.out _ l.i l.rest (omega arith) (omega arith) l.invariant)

pub returns : goal.returns
returns c =
    let l = c.loop-i in
    sym (ended l.out _ l.i l.rest (omega arith) l.invariant)
