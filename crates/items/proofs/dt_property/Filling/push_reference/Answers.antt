-- A cell more, where it is kept (Filled).
use Rattle.paths_numbers.specs.meaning.Reference.{Target}
use Rattle.std.proofs.Common.{rules}
use Rattle.items.proofs.Filled.{adding_cells, cell_added, fills_dropped, fills_one, same_fills}
use Rattle.resolving.proofs.Lowers.{part_grows}
use Rattle.input.specs.meaning.Report.{one}
use Rattle.definition_log.specs.meaning.Contents.{reference}
use mathlib.Core.Path.{refl, ap}
use Rattle.items.proofs.dt_property.Filling.push_reference.Goals as goal

pub returns-then-not-self : goal.returns-then-not-self
returns-then-not-self c = let a = c.args in fills_dropped adding_cells a.self.keep _ (search rules)
    refl

pub returns : goal.returns
returns c = let a = c.args in
    same_fills (ap (λ (t : Target). one (reference t)) c.target_of.ensures)
    (fills_one adding_cells a.self.keep _ _ (search rules) (part_grows _ _) (cell_added _)
    c.add_reference.ensures)
