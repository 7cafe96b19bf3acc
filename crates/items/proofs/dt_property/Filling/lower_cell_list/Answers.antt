-- The list, and then its cells (Filled); the nesting suffices for them (Read).
use Rattle.items.proofs.Filled.{list_then}
use Rattle.input.proofs.Read.{some_nesting, parts_shallow}
use Rattle.paths_numbers.specs.meaning.Cell.{bits_of}
use native.Mathlib.Omega.{arith}
use Rattle.items.proofs.dt_property.Filling.lower_cell_list.Goals as goal

pub overflow_sub-nesting : goal.overflow_sub-nesting
overflow_sub-nesting c =
    omega (arith, some_nesting c.args.list c.args.nesting c.requires.shallow)

pub lower_cells-requires : goal.lower_cells-requires
lower_cells-requires c =
    record { shallow = rw (c.parts.ensures.input, c.parts.ensures.next) (parts_shallow c.args.list c.args.nesting c.requires.shallow) }

pub returns : goal.returns
returns c = let a = c.args in
    list_then a.self.keep (bits_of a.size) _
    c.push_cell_list-made.ensures
    (rw (c.parts.ensures.input, c.parts.ensures.next) at
    c.lower_cells.ensures)
