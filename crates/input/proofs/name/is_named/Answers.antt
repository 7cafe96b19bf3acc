-- By whether there is a name, and a unit address (NameRead).
use mathlib.Core.Path.{sym, ◌∙◌}
use Rattle.input.proofs.NameRead.{not_named, named_alone, named_addressed}
use Rattle.input.proofs.name.is_named.Goals as goal

pub returns-then-is_ok : goal.returns-then-is_ok
returns-then-is_ok c = λ words text. c.is_ok-then-is_ok.ensures.value
    ∙ named_addressed words text c.args.f _ c.in-Some.is (sym c.is_ok.ensures.value ∙ c.if-is_ok.true)

pub returns-else-is_ok : goal.returns-else-is_ok
returns-else-is_ok c = λ words text. c.if-is_ok.false ∙ not_named words text c.args.f (sym c.is_ok.ensures.value ∙ c.if-is_ok.false)

pub returns-in-None : goal.returns-in-None
returns-in-None c = λ words text. c.is_ok-in-None.ensures.value ∙ named_alone words text c.args.f c.in-None.is
