use mathlib.Core.Path.{◌≡◌}
use native.Mathlib.Omega.{arith}
use Rattle.file_words.proofs.PutOne.{put_none, put_next}
use Rattle.file_words.proofs.file_words.put_files.Goals as goal

pub loop-r-init : goal.loop-r-init
loop-r-init c = put_none _ _

pub put_record-requires : goal.put_record-requires
put_record-requires c = omega (arith, c.loop-r.invariant.same_length)

pub loop-r-preserved : goal.loop-r-preserved
loop-r-preserved c =
    let l = c.loop-r in
    rw c.put_record.ensures (put_next _ _ l.words l.r (omega (arith, l.invariant.same_length)) l.invariant)

pub returns : goal.returns
returns c =
    let l = c.loop-r in
    let e : l.r ≡ c.args.records = omega arith in
    rw e at l.invariant
