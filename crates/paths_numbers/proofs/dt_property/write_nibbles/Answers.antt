use Rattle.std.proofs.Common.{refl, ap, ◌∙◌, arith}
use Rattle.std.specs.Char.{digit_value}
use Rattle.paths_numbers.proofs.Bytestring.{nibbles_stop, nibbles_skip, nibbles_digit, nibbles_done, left_start}
use Rattle.paths_numbers.proofs.Bytestring.{left_end, left_skip, left_wait, left_pair, write_room, write_pair, write_end}
use Rattle.paths_numbers.proofs.dt_property.write_nibbles.Goals as goal
use Rattle.paths_numbers.proofs.dt_property.write_nibbles.Goals.{in-Some-first, in_default-first}

pub loop-b-init : goal.loop-b-init
loop-b-init c = (tt, rw (left_start c.args.text.now) (record { whole = refl; room = omega arith }))

pub returns-then-b-eq-CLOSING_BRACKET : goal.returns-then-b-eq-CLOSING_BRACKET
returns-then-b-eq-CLOSING_BRACKET c =
    let l = c.loop-b in
    write_end l.invariant.1 (left_end c.args.text.now l.b-index l.first (nibbles_stop c.args.text.now l.b-index (omega arith) (omega arith)))

pub loop-b-preserved-in_default : goal.loop-b-preserved-in_default
loop-b-preserved-in_default c =
    let l = c.loop-b in
    let s = c.args.text.now in
    let e = ap digit_value c.from.ensures in
    let n = nibbles_skip s l.b-index (omega arith) c.if-b-eq-CLOSING_BRACKET.false (omega (arith, c.in_default.ensures.value)) in
    (l.invariant.0, rw (left_skip s l.b-index l.first n) at l.invariant.1)

pub bounds-out-to : goal.bounds-out-to
bounds-out-to c =
    let l = c.loop-b in
    let s = c.args.text.now in
    let d = c.in-Some.ensures.value in
    let e = d.1 ∙ ap digit_value c.from.ensures in
    let n = nibbles_digit s l.b-index (omega arith) c.if-b-eq-CLOSING_BRACKET.false _ e (omega arith) in
    write_room (rw (c.in-Some-first.is, left_pair s l.b-index _ n c.in-Some-first.high) at l.invariant.1)

pub loop-b-preserved : goal.loop-b-preserved
loop-b-preserved c =
    let l = c.loop-b in
    let s = c.args.text.now in
    let d = c.in-Some.ensures.value in
    let e = d.1 ∙ ap digit_value c.from.ensures in
    let n = nibbles_digit s l.b-index (omega arith) c.if-b-eq-CLOSING_BRACKET.false _ e (omega arith) in
    elim c.match-first.branch [
      | in-Some-first w ↦
          rw (w.out-is, w.first-is, w.to-is)
          (tt, write_pair (rw (w.in-Some-first.is, left_pair s l.b-index _ n w.in-Some-first.high) at l.invariant.1))
      | in_default-first w ↦
          rw (w.out-is, w.first-is, w.to-is)
          (omega arith, rw (w.in_default-first.is, left_wait s l.b-index _ n) at l.invariant.1)
    ]

pub returns : goal.returns
returns c =
    let l = c.loop-b in
    write_end l.invariant.1 (left_end c.args.text.now l.b-index l.first (nibbles_done c.args.text.now l.b-index (omega arith)))
