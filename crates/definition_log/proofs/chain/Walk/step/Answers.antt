-- Whether the walk goes on (ChainLeft).
use mathlib.Core.Path.{refl, sym, ◌∙◌}
use Rattle.definition_log.proofs.ChainLeft.{none_left, some_left}
use Rattle.definition_log.proofs.chain.Walk.step.Goals as goal

pub returns-then-self-eq0 : goal.returns-then-self-eq0
returns-then-self-eq0 c =
    record { stops = none_left c.args.words.now c.args.self.now.next c.args.self.now.left c.if-self-eq0.true; same = refl }

pub returns-then-not-leads_to : goal.returns-then-not-leads_to
returns-then-not-leads_to c =
    let s = c.args.self.now in
    record {
      stops = some_left c.args.words.now s.next s.left c.if-self-eq0.false ∙ sym c.leads_to.ensures ∙ c.if-not-leads_to.true;
      same = refl;
    }

pub returns : goal.returns
returns c =
    let s = c.args.self.now in
    record {
      going = some_left c.args.words.now s.next s.left c.if-self-eq0.false ∙ sym c.leads_to.ensures ∙ c.if-not-leads_to.false;
      here = refl;
      next = c.next_of-self.ensures;
      left = refl;
    }
