use native.Mathlib.Omega.{arith}
use Prim.Native.Nat.{◌-◌}
use mathlib.Core.Path.{◌≡◌, refl}
use lib.ListN.{length-set}
use Rattle.listing.proofs.InputWords.{word_next, words_end}
use Rattle.listing.proofs.reading.read_words.Goals as goal

pub loop-i-init : goal.loop-i-init
loop-i-init c = let a = c.args in
    let e : a.n - 0 ≡ a.n = omega arith in
    (refl, rw e refl)

pub loop-i-preserved : goal.loop-i-preserved
loop-i-preserved c = let a = c.args in
    let l = c.loop-i in (
      simp length-set l.invariant.0,
      word_next l.words a.s.now l.i a.n _ l.invariant.1 (omega arith) (omega arith) _
          c.word_at.ensures,
    )

pub returns : goal.returns
returns c = let a = c.args in
    let l = c.loop-i in
    words_end l.words a.s.now l.i a.n _ l.invariant.1 (omega arith)
