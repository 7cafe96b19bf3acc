-- The record and the counts, one after the other.
use Prim.Native.Nat.{◌+◌}
use native.Mathlib.Omega.{arith}
use Rattle.making.proofs.Layouts.{count_words, count_most}
use Rattle.making.proofs.ctx.LowerCtx.put.Goals as goal

pub put_record-requires : goal.put_record-requires
put_record-requires c =
    let k = c in
    let h = count_words k.args.words.now (k.args.self.records + 1) (omega (arith, k.requires.0)) in
    (omega arith, k.requires.1, omega (arith, k.requires.2))

pub count_one-requires : goal.count_one-requires
count_one-requires c =
    let k = c in
    (omega (arith, k.requires.0, count_most k.args.words.now), omega (arith, k.requires.2))
