-- The slip that 01 names for values, computed by the checker.
use Rattle.std.specs.Prelude.{ℕ, ◌≡◌, refl, [], ◌∷◌}
use Rattle.paths_numbers.specs.meaning.Byte.{digit_of}
use Rattle.paths_numbers.specs.meaning.Text.{is_empty}
use Rattle.paths_numbers.specs.meaning.Number.{unsigned_number, unsigned, digits, behind_sign, behind_prefix, base_of, has_prefix, trimmed}
use Rattle.paths_numbers.specs.meaning.Number.{is_suffix, is_prefix_letter}
use Rattle.paths_numbers.specs.meaning.Cell.{size_of}
use Rattle.definition_log.specs.meaning.Contents.{Span, number, cell_list}
use Rattle.input.specs.meaning.Tree.{Trees, tree, empty, more}
use Rattle.input.specs.meaning.Report.{report}
use Rattle.input.specs.meaning.Property.{lower_values, lower_value, lower_cells, lower_cell}

abbrev span : ℕ → ℕ → Span
span from to = record { from = from; to = to }

-- "losing a cell list for one bad cell": <1 z 2> keeps 1 and 2, with code 17 for z
abbrev three_cells : Trees
three_cells =
    more (tree 13 [] 0 (span 0 9) (more (tree 15 (49 ∷ []) 0 (span 1 2) empty empty)
    (more (tree 15 (122 ∷ []) 0 (span 3 4) empty empty) (more (tree 15 (50 ∷ []) 0 (span 5 6) empty empty) empty))) empty) empty

pub neighbours_stay : (level : ℕ) → lower_values level three_cells ≡ record {
  made = cell_list 32 (number 1 ∷ number 2 ∷ [])
      ∷ [];
  reports = report 17 [] (span 3 4) ∷ [];
}
unfolding lower_values lower_value lower_cells lower_cell size_of is_empty unsigned_number unsigned digits behind_sign behind_prefix base_of
    has_prefix
    is_prefix_letter trimmed is_suffix digit_of
neighbours_stay level = refl
