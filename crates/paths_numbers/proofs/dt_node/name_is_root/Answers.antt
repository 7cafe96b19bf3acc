-- A name with a unit address is not "/" (Joined: unit_none, unit_not_root).
use Rattle.std.proofs.Common.{sym, refl, ◌∙◌, eqb-true}
use borrow.Author.Tests.{eqb-false}
use Rattle.paths_numbers.proofs.Joined.{unit_none, unit_not_root}
use Rattle.paths_numbers.proofs.dt_node.name_is_root.Goals as goal

pub returns-else-is_empty : goal.returns-else-is_empty
returns-else-is_empty c = c.if-is_empty.false ∙ sym (unit_not_root _ _ (eqb-false _ _ (sym c.if-is_empty.ensures)))

pub returns-then-is_empty : goal.returns-then-is_empty
returns-then-is_empty c = c.is_root.ensures ∙ rw (unit_none _ _ (eqb-true _ _ (sym c.if-is_empty.ensures))) refl
