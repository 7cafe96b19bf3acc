-- By whether there is a first (Read: has_found).
use mathlib.Core.Path.{◌∙◌}
use Rattle.input.proofs.Read.{has_found}
use Rattle.input.proofs.linked.Chain.has_kind.Goals as goal

pub returns : goal.returns
returns c = λ text. c.is_some.ensures ∙ has_found _ _ _ c.first_of.ensures text
