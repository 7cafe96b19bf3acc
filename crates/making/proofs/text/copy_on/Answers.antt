-- Byte by byte (Written: written_byte, written_all).
use Rattle.std.proofs.Common.{◌+◌, refl, sym, ◌∙◌, add-zero, arith}
use lib.ListN.{length-set}
use lib.Seq.{get_or-set_other}
use Rattle.paths_numbers.proofs.Written.{written_byte, written_all}
use Rattle.definition_log.proofs.Texts.{part, part_length, part_at}
use Rattle.making.proofs.text.copy_on.Goals as goal

pub loop-i-init : goal.loop-i-init
loop-i-init c = (refl, rw add-zero refl, λ k h. refl)

pub loop-i-preserved : goal.loop-i-preserved
loop-i-preserved c =
    let l = c.loop-i in
    let a = c.args in
    let p = part a.bytes.now a.start a.size in
    let n = part_length a.bytes.now a.start a.size (omega arith) in
    let same = l.invariant.2 (a.start + l.i) (omega arith) ∙ sym (part_at a.bytes.now a.start a.size l.i (omega arith)) in (
      simp length-set l.invariant.0,
      written_byte l.bytes a.at p l.i _ _ l.invariant.1 (omega arith) (omega arith) same,
      λ k h. get_or-set_other l.bytes (a.at + l.i) k _ 0 (λ e. omega arith) ∙ l.invariant.2 k h,
    )

pub returns : goal.returns
returns c =
    let l = c.loop-i in
    let a = c.args in
    written_all l.bytes a.at (part a.bytes.now a.start a.size) l.i _ l.invariant.1
    (omega (arith, part_length a.bytes.now a.start a.size (omega arith)))
