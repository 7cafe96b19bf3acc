use mathlib.Core.Path.{refl, sym, ◌∙◌}
use native.Mathlib.Omega.{arith}
use Rattle.definition_log.specs.meaning.ReadBack.{def_at}
use Rattle.queries.specs.machine.Table.{takes_at}
use Rattle.queries.proofs.Table.{search_start, search_on, search_hit, search_end}
use Rattle.queries.proofs.later.LaterTable.finds.Goals as goal

pub loop-e-init : goal.loop-e-init
loop-e-init c =
    let a = c.args in
    search_start (def_at a.log.words.now a.log.bytes.now) (takes_at a.taken a.path.now) a.self.now.links.now a.later.now a.first
    c.requires.held

pub returns-then-takes_at : goal.returns-then-takes_at
returns-then-takes_at c =
    let a = c.args in
    let l = c.loop-e in
    sym (l.invariant.1 ∙ search_hit (def_at a.log.words.now a.log.bytes.now) (takes_at a.taken a.path.now) a.self.now.links.now
    a.later.now l.e (omega arith) (omega arith) (sym c.takes_at.ensures ∙ c.if-takes_at.true))

pub loop-e-smaller : goal.loop-e-smaller
loop-e-smaller c =
    let a = c.args in
    let l = c.loop-e in
    (search_on (def_at a.log.words.now a.log.bytes.now) (takes_at a.taken a.path.now) a.self.now.links.now a.later.now l.e
    (omega arith) (omega arith) l.invariant.2 (sym c.takes_at.ensures ∙ c.if-takes_at.false) _ refl).0

pub loop-e-preserved : goal.loop-e-preserved
loop-e-preserved c =
    let a = c.args in
    let l = c.loop-e in
    let s = search_on (def_at a.log.words.now a.log.bytes.now) (takes_at a.taken a.path.now) a.self.now.links.now a.later.now l.e
    (omega arith) (omega arith) l.invariant.2 (sym c.takes_at.ensures ∙ c.if-takes_at.false) _ refl in
    (omega (arith, s.0), l.invariant.1 ∙ s.1, s.2)

pub returns : goal.returns
returns c =
    let a = c.args in
    let l = c.loop-e in
    sym (l.invariant.1 ∙ search_end (def_at a.log.words.now a.log.bytes.now) (takes_at a.taken a.path.now) a.self.now.links.now
    a.later.now l.e (omega arith))
