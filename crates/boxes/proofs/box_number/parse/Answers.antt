use mathlib.Core.Path.{refl, sym, ◌∙◌}
use native.Mathlib.Omega.{arith}
use lib.ListN.{get_or}
use Rattle.boxes.specs.meaning.Box.{packed_value, hundreds}
use Rattle.boxes.proofs.Limits.{at_most, eight, seven, grows, two_lt}
use Rattle.boxes.proofs.Steps.{good_byte, bad_byte, all_read}
use Rattle.boxes.proofs.box_number.parse.Goals as goal

pub loop-b-init : goal.loop-b-init
unfolding hundreds
loop-b-init c = (omega arith, refl)

pub returns-then-not-is_packed : goal.returns-then-not-is_packed
unfolding packed_value
returns-then-not-is_packed c =
    let l = c.loop-b in
    sym (bad_byte c.args.s.now l.b-index l.n _ l.invariant.1 (omega arith) (sym c.is_packed.ensures ∙ c.if-not-is_packed.true))

pub overflow_mul-n : goal.overflow_mul-n
overflow_mul-n c = let l = c.loop-b in omega (arith, at_most l.b-index 8 (omega arith), eight)

pub overflow_add-n : goal.overflow_add-n
overflow_add-n c =
    let s = c.args.s.now in
    let l = c.loop-b in
    let p = sym c.is_packed.ensures ∙ c.if-not-is_packed.false in
    omega (arith, at_most l.b-index 7 (omega arith), seven, c.two_digits.ensures, two_lt (get_or s l.b-index 0) p)

pub loop-b-preserved : goal.loop-b-preserved
loop-b-preserved c =
    let s = c.args.s.now in
    let l = c.loop-b in
    let p = sym c.is_packed.ensures ∙ c.if-not-is_packed.false in
    let e = c.two_digits.ensures in (
      omega (arith, e, grows l.b-index, two_lt (get_or s l.b-index 0) p),
      rw e (good_byte s l.b-index l.n _ l.invariant.1 (omega arith) p),
    )

pub returns : goal.returns
unfolding packed_value
returns c =
    let l = c.loop-b in
    sym (all_read c.args.s.now l.b-index l.n _ l.invariant.1 (omega arith))
