-- Byte by byte (Written: written_byte, written_all).
use Rattle.std.proofs.Common.{refl, add-zero, arith}
use lib.ListN.{length-set}
use Rattle.paths_numbers.proofs.Written.{written_byte, written_all}
use Rattle.paths_numbers.proofs.text.put.Goals as goal

pub loop-i-init : goal.loop-i-init
loop-i-init c = (refl, rw add-zero refl)

pub loop-i-preserved : goal.loop-i-preserved
loop-i-preserved c =
    let a = c.args in
    let l = c.loop-i in
    (simp length-set l.invariant.0, written_byte l.out a.at a.text.now l.i _ _ l.invariant.1 (omega arith) (omega arith) refl)

pub returns : goal.returns
returns c =
    let a = c.args in
    let l = c.loop-i in
    written_all l.out a.at a.text.now l.i _ l.invariant.1 (omega arith)
