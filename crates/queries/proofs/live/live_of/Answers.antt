-- Each record that is live is written behind the later ones.
use mathlib.Core.Path.{◌≡◌, refl, sym, ◌∙◌}
use mathlib.Core.List.{append-nil}
use native.Mathlib.Omega.{arith}
use lib.ListN.{length}
use lib.Seq.{drop-length}
use Rattle.std.proofs.lemmas.List.{take_more_set}
use Rattle.definition_log.specs.meaning.ReadBack.{def_at}
use Rattle.queries.proofs.Table.{table_start}
use Rattle.queries.proofs.Numbers.{live_taken, live_passed, live_none, one_before, still_parts, part_on}
use Rattle.queries.proofs.live.live_of.Goals as goal

pub loop-r-init : goal.loop-r-init
loop-r-init c =
    let a = c.args in (
      omega arith,
      refl,
      refl,
      rw (drop-length a.order.now)
          (table_start (def_at a.log.words.now a.log.bytes.now) a.base.now a.table.now.heads.now a.table.now.links.now c.requires.zeros),
      sym (live_none (def_at a.log.words.now a.log.bytes.now) a.base.now a.order.now),
      rw (drop-length a.order.now) (sym (append-nil a.order.now)),
    )

pub slice_bounds-pass-count : goal.slice_bounds-pass-count
slice_bounds-pass-count c = omega (arith, c.loop-r.invariant.0)

pub pass-requires-clause-table : goal.pass-requires-clause-table
pass-requires-clause-table c = rw (part_on c.args.order.now (length c.loop-r.left.now)) c.loop-r.invariant.3

pub loop-r-preserved-then-pass : goal.loop-r-preserved-then-pass
loop-r-preserved-then-pass c =
    let a = c.args in
    let l = c.loop-r in
    let s = c.in-Some in
    let q = rw (part_on a.order.now (length l.left.now)) at c.pass.ensures in
    let def = def_at a.log.words.now a.log.bytes.now in
    let before = one_before def a.base.now a.order.now l.left.now s.earlier.now s.r.now l.invariant.5 s.ensures.cases.0 in
    let e = live_taken def a.base.now a.order.now l.left.now s.earlier.now s.r.now l.invariant.5 s.ensures.cases.0
    (sym q.value ∙ c.if-pass.true) in (
      omega (arith, l.invariant.0, s.ensures.cases.1),
      q.lengths.0 ∙ l.invariant.1,
      q.lengths.1 ∙ l.invariant.2,
      rw (sym before) at q.table_2,
      take_more_set l.live l.count s.r.now
          (omega (arith, l.invariant.0, s.ensures.cases.1, c.requires.for_live, l.auto.live))
          ∙ rw (l.invariant.4, e) refl,
      still_parts def a.base.now a.order.now l.left.now s.earlier.now s.r.now l.invariant.5 s.ensures.cases.0,
    )

pub loop-r-preserved : goal.loop-r-preserved
loop-r-preserved c =
    let a = c.args in
    let l = c.loop-r in
    let s = c.in-Some in
    let q = rw (part_on a.order.now (length l.left.now)) at c.pass.ensures in
    let def = def_at a.log.words.now a.log.bytes.now in
    let before = one_before def a.base.now a.order.now l.left.now s.earlier.now s.r.now l.invariant.5 s.ensures.cases.0 in
    let e = live_passed def a.base.now a.order.now l.left.now s.earlier.now s.r.now l.invariant.5 s.ensures.cases.0
    (sym q.value ∙ c.if-pass.false) in (
      omega (arith, l.invariant.0, s.ensures.cases.1),
      q.lengths.0 ∙ l.invariant.1,
      q.lengths.1 ∙ l.invariant.2,
      rw (sym before) at q.table_2,
      l.invariant.4 ∙ sym e,
      still_parts def a.base.now a.order.now l.left.now s.earlier.now s.r.now l.invariant.5 s.ensures.cases.0,
    )

pub returns : goal.returns
returns c =
    let l = c.loop-r in
    let z : length l.left.now ≡ 0 = c.in_default.ensures.cases in
    rw z at l.invariant.4
