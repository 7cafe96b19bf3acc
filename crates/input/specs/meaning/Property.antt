-- 01, "Values": what the values and cells of a property are (lower_prop_value, lower_cell_list, lower_cell). "A bad cell or value is
-- dropped; its neighbours stay." The level is that of the description, and only expression cells ask for it.
use Rattle.std.specs.Prelude.{ℕ, cond, List, [], ◌∷◌, eqb}
use Rattle.std.proofs.Math.Option.{Option, some, none}
use Rattle.paths_numbers.specs.meaning.Code.{preprocessor, directive_as_value, directive_as_cell, reference_width}
use Rattle.paths_numbers.specs.meaning.Reading.{Reading}
use Rattle.paths_numbers.specs.meaning.Reading as R
use Rattle.paths_numbers.specs.meaning.Number.{unsigned_number}
use Rattle.paths_numbers.specs.meaning.Cell.{bits_of, largest, size_of, char_cell}
use Rattle.paths_numbers.specs.meaning.Bytestring.{count_of, bytes_of}
use Rattle.paths_numbers.specs.meaning.Reference.{Target}
use Rattle.paths_numbers.specs.declared.dt_property.BitsSize.{BitsSize}
use Rattle.levels.specs.meaning.Rules.{Rules, unsigned_level, signed_rules, unsigned_rules}
use Rattle.definition_log.specs.meaning.Contents.{Span, Cell, number, reference, Value, string, cell_list, bytestring, phandle}
use Rattle.input.specs.meaning.Tree.{Tree, Trees, empty, more, span_of, w_of, text_of, children_of, kind_of, directive_kind}
use Rattle.input.specs.meaning.Tree.{preprocessor_kind, reference_kind, macro_kind, string_kind, cell_list_kind, bytestring_kind}
use Rattle.input.specs.meaning.Tree.{number_kind}
use Rattle.input.specs.meaning.Tree.{character_kind, expression_kind}
use Rattle.input.specs.meaning.Report.{Got, Made, one, nothing, and_then, report, undefined_macro}
use Rattle.input.specs.meaning.Phandle.{lower_phandle}
use Rattle.input.specs.meaning.Expr.{Outcome, value, fails, evals, first_operand}

-- a number in a cell, or the code of what is none
abbrev pub number_cell : Span → Reading ℕ → Made Cell
number_cell span (R.value n) = one (number n)
number_cell span (R.fails code) = nothing (report code [] span ∷ [])

-- an expression's outcome in a cell of a width
abbrev pub outcome_cell : {N : Type 0} → Rules N → BitsSize → Span → Outcome N → Made Cell
outcome_cell rules size span (value z) = number_cell span (rules.cell (bits_of size) z)
outcome_cell rules size span (fails ds) = nothing ds

-- an expression cell by its operands, of which the first counts
abbrev pub expression_by : {N : Type 0} → Rules N → BitsSize → Span → Trees → Made Cell
expression_by rules size span operands = outcome_cell rules size span (first_operand (evals rules operands))

-- 02, request 10: level "1 keeps the signed rule, 2 is unsigned"
unfoldable pub expression_cell : ℕ → BitsSize → Span → Trees → Made Cell
expression_cell level size span operands =
    cond (eqb level unsigned_level) (expression_by unsigned_rules size span operands) (expression_by signed_rules size span operands)

-- "Reference outside 32-bit cells: 14."
abbrev pub reference_cell : BitsSize → Span → Got Target → Made Cell
reference_cell size span g = at g.result
  where
    at : Option Target → Made Cell
    at (some t) = cond (eqb (bits_of size) 32) (one (reference t)) (nothing (report reference_width [] span ∷ []))
    at none = nothing g.reports

-- a cell of a width; code 9 is a directive, code 1 the preprocessor's
unfoldable pub lower_cell : ℕ → BitsSize → Tree → Made Cell
lower_cell level size t =
    cond (eqb (kind_of t) number_kind) (number_cell (span_of t) (unsigned_number (largest size) (text_of t)))
    (cond (eqb (kind_of t) character_kind) (number_cell (span_of t) (char_cell (bits_of size) (w_of t)))
    (cond (eqb (kind_of t) expression_kind) (expression_cell level size (span_of t) (children_of t))
    (cond (eqb (kind_of t) reference_kind) (reference_cell size (span_of t) (lower_phandle t))
    (cond (eqb (kind_of t) macro_kind) (nothing (undefined_macro t ∷ []))
    (cond (eqb (kind_of t) directive_kind) (nothing (report directive_as_cell [] (span_of t) ∷ []))
    (cond (eqb (kind_of t) preprocessor_kind) (nothing (report preprocessor [] (span_of t) ∷ []))
    (nothing [])))))))

unfoldable pub lower_cells : ℕ → BitsSize → Trees → Made Cell
lower_cells level size empty = nothing []
lower_cells level size (more t ts) = and_then (lower_cell level size t) (lower_cells level size ts)

-- a cell list of a width, or the code of a text that is none
abbrev pub sized_list : ℕ → Span → Trees → Reading BitsSize → Made Value
sized_list level span cells (R.value s) =
    record { made = cell_list (bits_of s) (lower_cells level s cells).made ∷ []; reports = (lower_cells level s cells).reports }
sized_list level span cells (R.fails code) = nothing (report code [] span ∷ [])

-- a bytestring's bytes, or code 11
abbrev pub counted_bytes : Span → List ℕ → Reading ℕ → Made Value
counted_bytes span text (R.value n) = one (bytestring (bytes_of text))
counted_bytes span text (R.fails code) = nothing (report code [] span ∷ [])

abbrev pub reference_value : Got Target → Made Value
reference_value g = at g.result
  where
    at : Option Target → Made Value
    at (some t) = one (phandle t)
    at none = nothing g.reports

-- a value; code 8 is a directive, code 1 the preprocessor's
unfoldable pub lower_value : ℕ → Tree → Made Value
lower_value level t =
    cond (eqb (kind_of t) string_kind) (one (string (text_of t)))
    (cond (eqb (kind_of t) cell_list_kind) (sized_list level (span_of t) (children_of t) (size_of (text_of t)))
    (cond (eqb (kind_of t) bytestring_kind) (counted_bytes (span_of t) (text_of t) (count_of (text_of t)))
    (cond (eqb (kind_of t) reference_kind) (reference_value (lower_phandle t))
    (cond (eqb (kind_of t) macro_kind) (nothing (undefined_macro t ∷ []))
    (cond (eqb (kind_of t) directive_kind) (nothing (report directive_as_value [] (span_of t) ∷ []))
    (cond (eqb (kind_of t) preprocessor_kind) (nothing (report preprocessor [] (span_of t) ∷ []))
    (nothing [])))))))

unfoldable pub lower_values : ℕ → Trees → Made Value
lower_values level empty = nothing []
lower_values level (more t ts) = and_then (lower_value level t) (lower_values level ts)
