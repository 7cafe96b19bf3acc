-- A cell more, where it is kept (Filled); a number is its two words (ValueRead).
use Rattle.std.proofs.Common.{rules}
use Rattle.input.proofs.ValueRead.{number_whole}
use Rattle.items.proofs.Filled.{adding_cells, cell_added, fills_dropped, fills_one, same_fills}
use Rattle.resolving.proofs.Lowers.{part_grows}
use Rattle.input.specs.meaning.Report.{one}
use Rattle.definition_log.specs.meaning.Contents.{number}
use Prim.Native.Nat.{ℕ}
use mathlib.Core.Path.{refl, ap}
use Rattle.items.proofs.dt_property.Filling.push_number.Goals as goal

pub returns-then-not-self : goal.returns-then-not-self
returns-then-not-self c = let a = c.args in fills_dropped adding_cells a.self.keep (one (number a.n))
    (search rules) refl

pub returns : goal.returns
returns c = let a = c.args in
    same_fills (ap (λ (n : ℕ). one (number n)) (number_whole a.n))
    (fills_one adding_cells a.self.keep _ _ (search rules)
    (part_grows _ _) (cell_added _) c.add_number.ensures)
