-- By whether the word is a link, the record was met before, and there is room.
use Rattle.std.proofs.Common.{arith}
use Rattle.std.proofs.lemmas.Grind.{common_steps}
use Rattle.definition_log.proofs.Walk.{leads_below}
use Rattle.definition_log.proofs.Reached.{count_most}
use Rattle.definition_log.proofs.Follow.{no_link, link_again, link_full, link_first}
use Rattle.definition_log.proofs.links.Walk.follow.Goals as goal

pub returns-then-not-leads_to : goal.returns-then-not-leads_to
returns-then-not-leads_to g c =
    let s = c.args.self.now in
    no_link c.args.words.now s.marks s.queue s.met c.args.r _ (cc)

pub returns-then-ne : goal.returns-then-ne
returns-then-ne g c =
    let s = c.args.self.now in
    link_again c.args.words.now s.marks s.queue s.met c.args.r _ _ (cc) (grind (arith, common_steps)) c.set_mark.ensures

pub overflow_mul-self : goal.overflow_mul-self
overflow_mul-self g c =
    let a = c.args in
    omega (arith, (leads_below a.words.now a.r (cc)).1, count_most a.words.now)

pub overflow_add-self : goal.overflow_add-self
overflow_add-self g c =
    let a = c.args in
    omega (arith, (leads_below a.words.now a.r (cc)).1, count_most a.words.now, c.from.ensures.0)

pub returns-then-self : goal.returns-then-self
returns-then-self g c =
    let s = c.args.self.now in
    link_first c.args.words.now s.marks s.queue s.met c.args.r _ _ _ (cc) (grind (arith, common_steps)) (cc) (omega arith)
    c.from.ensures.0 c.from.ensures.1

pub returns-else-self : goal.returns-else-self
returns-else-self g c =
    let s = c.args.self.now in
    link_full c.args.words.now s.marks s.queue s.met c.args.r _ _ (cc) (grind (arith, common_steps)) (cc) (omega arith)
