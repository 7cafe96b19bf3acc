-- A value more, where it is kept (Filled).
use Rattle.std.proofs.Common.{rules}
use Rattle.items.proofs.Filled.{adding_values, value_one, fills_dropped, fills_one, same_fills}
use Rattle.resolving.proofs.Lowers.{part_grows}
use Rattle.input.specs.meaning.Report.{one}
use Rattle.definition_log.specs.meaning.Contents.{cell_list}
use Rattle.paths_numbers.specs.meaning.Cell.{bits_of}
use mathlib.Core.List.{[]}
use Prim.Native.Nat.{ℕ}
use mathlib.Core.Path.{refl, ap}
use Rattle.items.proofs.dt_property.Filling.push_cell_list.Goals as goal

pub returns-then-not-self : goal.returns-then-not-self
returns-then-not-self c = let a = c.args in fills_dropped adding_values a.self.keep (one (cell_list (bits_of a.size) []))
    (search rules) refl

pub returns : goal.returns
returns c = let a = c.args in
    same_fills (ap (λ (n : ℕ). one (cell_list n [])) c.bits.ensures)
    (fills_one adding_values a.self.keep _ _ (search rules)
    (part_grows _ _) (value_one (cell_list c.bits.result []) refl)
    c.add_cell_list.ensures)
