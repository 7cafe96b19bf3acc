use mathlib.Core.Path.{refl}
use Rattle.definition_log.specs.meaning.ReadBack.{binding_at}
use Rattle.items.proofs.unbind.stops_at.Goals as goal

pub returns-in-Some : goal.returns-in-Some
unfolding binding_at
returns-in-Some c = rw (c.in-Some.is, c.equals.ensures, c.first_text.ensures) refl
