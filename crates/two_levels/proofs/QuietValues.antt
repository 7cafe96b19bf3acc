-- What names, references and values report at level 2: neither of the codes that it never gives.
use Prim.Native.Nat.{ℕ, ◌^◌}
use mathlib.Core.Path.{◌≡◌, refl}
use mathlib.Core.Bool.{Bool, false, ◌&&◌}
use mathlib.Core.List.{List, [], ◌∷◌}
use mathlib.Core.Option.{Option, some, none}
use lib.Dec.{eqb, ltb}
use Rattle.paths_numbers.specs.meaning.Code.{macro_undefined}
use Rattle.paths_numbers.specs.meaning.Text.{is_empty}
use Rattle.paths_numbers.specs.meaning.Reference.{Target, label, label_path, path, unreadable, target}
use Rattle.paths_numbers.specs.meaning.Reading.{Reading}
use Rattle.paths_numbers.specs.meaning.Reading as R
use Rattle.paths_numbers.specs.meaning.Number.{unsigned_number}
use Rattle.paths_numbers.specs.meaning.Cell.{bits_of, largest, sized, size_of, char_cell}
use Rattle.paths_numbers.specs.meaning.Bytestring.{is_odd, count_of}
use Rattle.paths_numbers.specs.declared.dt_property.BitsSize.{BitsSize}
use Rattle.paths_numbers.specs.declared.dt_property.BitsSize.TheVariants.{Bits32}
use Rattle.paths_numbers.proofs.Texts.{cond_in}
use Rattle.levels.specs.meaning.Rules.{unsigned_level, unsigned_rules}
use Rattle.levels.specs.meaning.Unsigned.{fits_below, upper_ones, fits_negative, unsigned_cell}
use Rattle.levels.proofs.Below.{Within, number_within}
use Rattle.definition_log.specs.meaning.Contents.{Span}
use Rattle.input.specs.meaning.Tree.{Tree, Trees, empty, more, kind_of, text_of, w_of, span_of, children_of, first_of, name_kind}
use Rattle.input.specs.meaning.Tree.{unit_address_kind}
use Rattle.input.specs.meaning.Tree.{reference_kind, macro_kind, directive_kind, preprocessor_kind, string_kind, cell_list_kind}
use Rattle.input.specs.meaning.Tree.{bytestring_kind}
use Rattle.input.specs.meaning.Tree.{number_kind, character_kind, expression_kind}
use Rattle.input.specs.meaning.Report.{Got, Made, undefined_macro}
use Rattle.input.specs.meaning.Name.{name_or, name_or_macro, addressed, full_name}
use Rattle.input.specs.meaning.Phandle.{readable, macro_first, lower_phandle}
use Rattle.input.specs.meaning.Expr.{Outcome, value, fails, evals, first_operand}
use Rattle.input.specs.meaning.Property.{number_cell, outcome_cell, expression_cell, reference_cell, lower_cell, lower_cells, sized_list}
use Rattle.input.specs.meaning.Property.{counted_bytes, reference_value, lower_value, lower_values}
use Rattle.input.specs.meaning.NeverGiven.{never_given, reports_in, NeverGiven}
use Rattle.input.proofs.NeverGiven.{Quiet, quiet_none, quiet_report, quiet_append, given_quiet}
use Rattle.input.proofs.Levels.{never_given_lem}

abbrev QuietGot : {A : Type 0} → Got A → Type 0
QuietGot g = Quiet g.reports

abbrev QuietMade : {A : Type 0} → Made A → Type 0
QuietMade m = Quiet m.reports

-- names and references

undefined_quiet : (m : Tree) → Quiet (undefined_macro m ∷ [])
undefined_quiet m = quiet_report macro_undefined (text_of m) (span_of m) refl

pub name_quiet : (parts : Trees) → QuietGot (name_or_macro parts)
unfolding name_or_macro
name_quiet parts = go (first_of name_kind parts) (first_of macro_kind parts)
  where
    go : (n m : Option Tree) → QuietGot (name_or n m)
    go (some n) m = quiet_none
    go none (some m) = undefined_quiet m
    go none none = quiet_none

pub full_quiet : (parts : Trees) → QuietGot (full_name parts)
unfolding full_name
full_quiet parts = go (first_of unit_address_kind parts)
  where
    go : (o : Option Tree) → QuietGot (addressed (name_or_macro parts) o)
    go none = name_quiet parts
    go (some u) = quiet_append _ _ (name_quiet parts) (name_quiet (children_of u))

readable_quiet : (t : Target) → QuietGot (readable t)
readable_quiet (label l) = quiet_none
readable_quiet (label_path l p) = quiet_none
readable_quiet (path p) = quiet_none
readable_quiet unreadable = quiet_none

pub phandle_quiet : (r : Tree) → QuietGot (lower_phandle r)
unfolding lower_phandle
phandle_quiet r = go (first_of macro_kind (children_of r))
  where
    go : (o : Option Tree) → QuietGot (macro_first o r)
    go (some m) = undefined_quiet m
    go none =
        cond_in QuietGot (eqb (w_of r) 1) (readable_quiet (target (text_of r)))
        (cond_in QuietGot (is_empty (text_of r)) quiet_none quiet_none)

-- readings: whether one fails with one of the codes

abbrev fails_so : {A : Type 0} → Reading A → Bool
fails_so (R.value a) = false
fails_so (R.fails code) = never_given code

abbrev QuietReading : {A : Type 0} → Reading A → Type 0
QuietReading r = fails_so r ≡ false

text_quiet : (limit : ℕ) (text : List ℕ) → QuietReading (unsigned_number limit text)
text_quiet limit text = go (unsigned_number limit text) (number_within limit text)
  where
    go : (r : Reading ℕ) → Within limit r → QuietReading r
    go (R.value n) w = refl
    go (R.fails code) w = given_quiet code w

size_quiet : (text : List ℕ) → QuietReading (size_of text)
unfolding size_of
size_quiet text = cond_in QuietReading (is_empty text) refl (go (unsigned_number (largest Bits32) text) (text_quiet (largest Bits32) text))
  where
    go : (r : Reading ℕ) → QuietReading r → QuietReading (sized r)
    go (R.value n) h =
        cond_in QuietReading (eqb n 8) refl
        (cond_in QuietReading (eqb n 16) refl
        (cond_in QuietReading (eqb n 32) refl (cond_in QuietReading (eqb n 64) refl refl)))
    go (R.fails code) h = h

character_quiet : (bits w : ℕ) → QuietReading (char_cell bits w)
unfolding char_cell
character_quiet bits w = cond_in QuietReading (ltb w (2 ^ bits)) refl refl

kept_quiet : (bits n : ℕ) → QuietReading (unsigned_cell bits n)
unfolding unsigned_cell
kept_quiet bits n =
    cond_in QuietReading (fits_below bits n) refl
    (cond_in QuietReading (upper_ones bits n && fits_negative bits n) refl refl)

count_quiet : (text : List ℕ) → QuietReading (count_of text)
unfolding count_of
count_quiet text = cond_in QuietReading (is_odd text) refl refl

-- cells

number_quiet : (span : Span) (r : Reading ℕ) → QuietReading r → QuietMade (number_cell span r)
number_quiet span (R.value n) h = quiet_none
number_quiet span (R.fails code) h = quiet_report code [] span h

outcome_quiet : (size : BitsSize) (span : Span) (o : Outcome ℕ) → Quiet (reports_in o) → QuietMade (outcome_cell unsigned_rules size span o)
outcome_quiet size span (value n) h = number_quiet span (unsigned_cell (bits_of size) n) (kept_quiet (bits_of size) n)
outcome_quiet size span (fails ds) h = h

first_quiet : (ts : Trees) → Quiet (reports_in (first_operand (evals unsigned_rules ts)))
unfolding evals NeverGiven
first_quiet empty = quiet_none
first_quiet (more t ts) = never_given_lem t

expression_quiet : (size : BitsSize) (span : Span) (ts : Trees) → QuietMade (expression_cell unsigned_level size span ts)
unfolding expression_cell
expression_quiet size span ts = outcome_quiet size span (first_operand (evals unsigned_rules ts)) (first_quiet ts)

referred_quiet : (size : BitsSize) (span : Span) (g : Got Target) → QuietGot g → QuietMade (reference_cell size span g)
referred_quiet size span g h = go g.result
  where
    go : (o : Option Target) → QuietMade (reference_cell size span (record { result = o; reports = g.reports }))
    go (some t) = cond_in QuietMade (eqb (bits_of size) 32) quiet_none (quiet_report 14 [] span refl)
    go none = h

cell_quiet : (size : BitsSize) (t : Tree) → QuietMade (lower_cell unsigned_level size t)
unfolding lower_cell
cell_quiet size t =
    cond_in QuietMade (eqb (kind_of t) number_kind)
    (number_quiet (span_of t) (unsigned_number (largest size) (text_of t)) (text_quiet (largest size) (text_of t)))
    (cond_in QuietMade (eqb (kind_of t) character_kind)
    (number_quiet (span_of t) (char_cell (bits_of size) (w_of t)) (character_quiet (bits_of size) (w_of t)))
    (cond_in QuietMade (eqb (kind_of t) expression_kind) (expression_quiet size (span_of t) (children_of t))
    (cond_in QuietMade (eqb (kind_of t) reference_kind) (referred_quiet size (span_of t) (lower_phandle t) (phandle_quiet t))
    (cond_in QuietMade (eqb (kind_of t) macro_kind) (undefined_quiet t)
    (cond_in QuietMade (eqb (kind_of t) directive_kind) (quiet_report 9 [] (span_of t) refl)
    (cond_in QuietMade (eqb (kind_of t) preprocessor_kind) (quiet_report 1 [] (span_of t) refl)
    quiet_none))))))

cells_quiet : (size : BitsSize) (ts : Trees) → QuietMade (lower_cells unsigned_level size ts)
unfolding lower_cells
cells_quiet size empty = quiet_none
cells_quiet size (more t ts) = quiet_append _ _ (cell_quiet size t) (cells_quiet size ts)

-- values

sized_quiet : (span : Span) (cells : Trees) (r : Reading BitsSize) → QuietReading r → QuietMade (sized_list unsigned_level span cells r)
sized_quiet span cells (R.value s) h = cells_quiet s cells
sized_quiet span cells (R.fails code) h = quiet_report code [] span h

counted_quiet : (span : Span) (text : List ℕ) (r : Reading ℕ) → QuietReading r → QuietMade (counted_bytes span text r)
counted_quiet span text (R.value n) h = quiet_none
counted_quiet span text (R.fails code) h = quiet_report code [] span h

target_quiet : (g : Got Target) → QuietGot g → QuietMade (reference_value g)
target_quiet g h = go g.result
  where
    go : (o : Option Target) → QuietMade (reference_value (record { result = o; reports = g.reports }))
    go (some t) = quiet_none
    go none = h

value_quiet : (t : Tree) → QuietMade (lower_value unsigned_level t)
unfolding lower_value
value_quiet t =
    cond_in QuietMade (eqb (kind_of t) string_kind) quiet_none
    (cond_in QuietMade (eqb (kind_of t) cell_list_kind) (sized_quiet (span_of t) (children_of t) (size_of (text_of t)) (size_quiet (text_of t)))
    (cond_in QuietMade (eqb (kind_of t) bytestring_kind) (counted_quiet (span_of t) (text_of t) (count_of (text_of t)) (count_quiet (text_of t)))
    (cond_in QuietMade (eqb (kind_of t) reference_kind) (target_quiet (lower_phandle t) (phandle_quiet t))
    (cond_in QuietMade (eqb (kind_of t) macro_kind) (undefined_quiet t)
    (cond_in QuietMade (eqb (kind_of t) directive_kind) (quiet_report 8 [] (span_of t) refl)
    (cond_in QuietMade (eqb (kind_of t) preprocessor_kind) (quiet_report 1 [] (span_of t) refl)
    quiet_none))))))

pub values_quiet : (ts : Trees) → QuietMade (lower_values unsigned_level ts)
unfolding lower_values
values_quiet empty = quiet_none
values_quiet (more t ts) = quiet_append _ _ (value_quiet t) (values_quiet ts)
