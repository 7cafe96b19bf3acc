-- Each record that is listed is written behind the others (Numbers: one_collected).
use mathlib.Core.Path.{refl, sym, ap, ◌∙◌}
use native.Mathlib.Omega.{arith}
use borrow.Author.Rules.{rules}
use Rattle.definition_log.specs.meaning.ReadBack.{def_at}
use Rattle.queries.specs.meaning.Query.{history_numbers}
use Rattle.queries.specs.declared.history.Passed.{Passed}
use Rattle.queries.proofs.Numbers.{history_listed, history_passed, one_collected, room_for_next, all_collected}
use Rattle.queries.proofs.history.history_of.Goals as goal

pub loop-r-init : goal.loop-r-init
loop-r-init c = (omega arith, rw (c.into_iter-r-iterator.ensures.into_iter_gives, c.chain-r-items.ensures) refl)

pub bounds-found-count : goal.bounds-found-count
bounds-found-count c =
    let a = c.args in
    let l = c.loop-r in
    let e = history_listed (def_at a.log.words.now a.log.bytes.now) l.defined a.path.now c.in-Some.ensures.steps refl
    (sym (ap (λ (p : Passed). p.listed) c.history_at-passed.ensures) ∙ c.if-passed.true) in
    room_for_next l.found l.count l.invariant.1 e l.invariant.0 (omega (arith, c.requires, l.auto.found))

pub loop-r-preserved-then-passed : goal.loop-r-preserved-then-passed
loop-r-preserved-then-passed c =
    let a = c.args in
    let l = c.loop-r in
    let e = history_listed (def_at a.log.words.now a.log.bytes.now) l.defined a.path.now c.in-Some.ensures.steps
    (ap (λ (p : Passed). p.defined) c.history_at-passed.ensures)
    (sym (ap (λ (p : Passed). p.listed) c.history_at-passed.ensures) ∙ c.if-passed.true) in
    let h = room_for_next l.found l.count l.invariant.1 e l.invariant.0 (omega (arith, c.requires, l.auto.found)) in
    (search rules, one_collected l.found l.count l.invariant.1 e h)

pub loop-r-preserved : goal.loop-r-preserved
loop-r-preserved c =
    let a = c.args in
    let l = c.loop-r in
    let e = history_passed (def_at a.log.words.now a.log.bytes.now) l.defined a.path.now c.in-Some.ensures.steps
    (ap (λ (p : Passed). p.defined) c.history_at-passed.ensures)
    (sym (ap (λ (p : Passed). p.listed) c.history_at-passed.ensures) ∙ c.if-passed.false) in
    (l.invariant.0, l.invariant.1 ∙ rw e refl)

pub returns : goal.returns
unfolding history_numbers
returns c =
    let l = c.loop-r in
    all_collected l.found l.count l.invariant.1 (rw c.in-None.ensures.steps.0 refl)
