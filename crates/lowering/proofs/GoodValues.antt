-- What cells and values report: diagnostics whose spans are in order, where every span below them is.
use Prim.Native.Nat.{ℕ}
use mathlib.Core.Path.{◌≡◌}
use mathlib.Core.Bool.{true}
use mathlib.Core.List.{List, []}
use mathlib.Core.Option.{Option, some, none}
use lib.Dec.{eqb}
use Rattle.paths_numbers.specs.meaning.Reference.{Target}
use Rattle.paths_numbers.specs.meaning.Reading.{Reading}
use Rattle.paths_numbers.specs.meaning.Reading as R
use Rattle.paths_numbers.specs.meaning.Number.{unsigned_number}
use Rattle.paths_numbers.specs.meaning.Cell.{bits_of, largest, size_of, char_cell}
use Rattle.paths_numbers.specs.meaning.Bytestring.{count_of}
use Rattle.paths_numbers.specs.declared.dt_property.BitsSize.{BitsSize}
use Rattle.paths_numbers.proofs.Texts.{cond_in}
use Rattle.levels.specs.meaning.Rules.{Rules, unsigned_level, signed_rules, unsigned_rules}
use Rattle.definition_log.specs.meaning.Contents.{Span}
use Rattle.definition_log.specs.machine.Good.{in_order, good_diag}
use Rattle.input.specs.meaning.Tree.{Tree, Trees, empty, more, kind_of, text_of, w_of, span_of, children_of, reference_kind, macro_kind}
use Rattle.input.specs.meaning.Tree.{directive_kind, preprocessor_kind, string_kind, cell_list_kind, bytestring_kind, number_kind}
use Rattle.input.specs.meaning.Tree.{character_kind}
use Rattle.input.specs.meaning.Tree.{expression_kind}
use Rattle.input.specs.meaning.Report.{Got, Made}
use Rattle.input.specs.meaning.Phandle.{lower_phandle}
use Rattle.input.specs.meaning.Expr.{Outcome, value, fails, evals, first_operand}
use Rattle.input.specs.meaning.Property.{number_cell, outcome_cell, expression_by, expression_cell, reference_cell, lower_cell, lower_cells}
use Rattle.input.specs.meaning.Property.{sized_list, counted_bytes, reference_value, lower_value, lower_values}
use Rattle.lowering.proofs.GoodLists.{all_append}
use Rattle.lowering.proofs.GoodReports.{GoodDiags, no_reports, good_report, phandle_reports}
use Rattle.lowering.proofs.GoodExpr.{GoodOutcome, first_good, evals_good}
use Rattle.input.proofs.Spans.{spans, spans_in, own_span_lem, child_spans, chain_spans}

-- what is made, with diagnostics that are good
abbrev GoodMade : {A : Type 0} → Made A → Type 0
GoodMade m = GoodDiags m.reports

-- cells
number_good : (span : Span) → in_order span ≡ true → (p : Reading ℕ) → GoodMade (number_cell span p)
number_good span g (R.value n) = no_reports
number_good span g (R.fails code) = good_report code [] span g

outcome_good : {N : Type 0} (rules : Rules N) (size : BitsSize) (span : Span) → in_order span ≡ true → (o : Outcome N) → GoodOutcome o
    → GoodMade (outcome_cell rules size span o)
outcome_good rules size span g (value z) h = number_good span g (rules.cell (bits_of size) z)
outcome_good rules size span g (fails ds) h = h

-- an expression cell, by any rules and so at each level
by_good : {N : Type 0} (rules : Rules N) (size : BitsSize) (span : Span) → in_order span ≡ true → (ts : Trees) → spans_in ts ≡ true
    → GoodMade (expression_by rules size span ts)
by_good rules size span g ts h =
    outcome_good rules size span g (first_operand (evals rules ts)) (first_good (evals rules ts) (evals_good rules ts h))

expression_good : (level : ℕ) (size : BitsSize) (span : Span) → in_order span ≡ true → (ts : Trees) → spans_in ts ≡ true
    → GoodMade (expression_cell level size span ts)
unfolding expression_cell
expression_good level size span g ts h =
    cond_in GoodMade (eqb level unsigned_level) (by_good unsigned_rules size span g ts h) (by_good signed_rules size span g ts h)

referred_good : (size : BitsSize) (span : Span) → in_order span ≡ true → (g : Got Target) → GoodDiags g.reports
    → GoodMade (reference_cell size span g)
referred_good size span e g h = go g.result
  where
    go : (o : Option Target) → GoodMade (reference_cell size span (record { result = o; reports = g.reports }))
    go (some t) = cond_in GoodMade (eqb (bits_of size) 32) no_reports (good_report 14 [] span e)
    go none = h

cell_good : (level : ℕ) (size : BitsSize) (t : Tree) → spans t ≡ true → GoodMade (lower_cell level size t)
unfolding lower_cell
cell_good level size t g =
    let e = own_span_lem t g in
    cond_in GoodMade (eqb (kind_of t) number_kind) (number_good (span_of t) e (unsigned_number (largest size) (text_of t)))
    (cond_in GoodMade (eqb (kind_of t) character_kind) (number_good (span_of t) e (char_cell (bits_of size) (w_of t)))
    (cond_in GoodMade (eqb (kind_of t) expression_kind)
    (expression_good level size (span_of t) e (children_of t) (child_spans t g))
    (cond_in GoodMade (eqb (kind_of t) reference_kind) (referred_good size (span_of t) e (lower_phandle t) (phandle_reports t g))
    (cond_in GoodMade (eqb (kind_of t) macro_kind) (good_report 10 (text_of t) (span_of t) e)
    (cond_in GoodMade (eqb (kind_of t) directive_kind) (good_report 9 [] (span_of t) e)
    (cond_in GoodMade (eqb (kind_of t) preprocessor_kind) (good_report 1 [] (span_of t) e)
    no_reports))))))

cells_good : (level : ℕ) (size : BitsSize) (ts : Trees) → spans_in ts ≡ true → GoodMade (lower_cells level size ts)
unfolding lower_cells
cells_good level size empty g = no_reports
cells_good level size (more t ts) g =
    let h = chain_spans t ts g in
    all_append good_diag (lower_cell level size t).reports (lower_cells level size ts).reports (cell_good level size t h.0)
    (cells_good level size ts h.1)

-- values
sized_good : (level : ℕ) (span : Span) (cells : Trees) → in_order span ≡ true → spans_in cells ≡ true → (r : Reading BitsSize)
    → GoodMade (sized_list level span cells r)
sized_good level span cells e g (R.value s) = cells_good level s cells g
sized_good level span cells e g (R.fails code) = good_report code [] span e

counted_good : (span : Span) (text : List ℕ) → in_order span ≡ true → (n : Reading ℕ) → GoodMade (counted_bytes span text n)
counted_good span text e (R.value n) = no_reports
counted_good span text e (R.fails code) = good_report code [] span e

target_good : (g : Got Target) → GoodDiags g.reports → GoodMade (reference_value g)
target_good g h = go g.result
  where
    go : (o : Option Target) → GoodMade (reference_value (record { result = o; reports = g.reports }))
    go (some t) = no_reports
    go none = h

value_good : (level : ℕ) (t : Tree) → spans t ≡ true → GoodMade (lower_value level t)
unfolding lower_value
value_good level t g =
    let e = own_span_lem t g in
    cond_in GoodMade (eqb (kind_of t) string_kind) no_reports
    (cond_in GoodMade (eqb (kind_of t) cell_list_kind) (sized_good level (span_of t) (children_of t) e (child_spans t g) (size_of (text_of t)))
    (cond_in GoodMade (eqb (kind_of t) bytestring_kind) (counted_good (span_of t) (text_of t) e (count_of (text_of t)))
    (cond_in GoodMade (eqb (kind_of t) reference_kind) (target_good (lower_phandle t) (phandle_reports t g))
    (cond_in GoodMade (eqb (kind_of t) macro_kind) (good_report 10 (text_of t) (span_of t) e)
    (cond_in GoodMade (eqb (kind_of t) directive_kind) (good_report 8 [] (span_of t) e)
    (cond_in GoodMade (eqb (kind_of t) preprocessor_kind) (good_report 1 [] (span_of t) e)
    no_reports))))))

pub value_reports : (level : ℕ) (ts : Trees) → spans_in ts ≡ true → GoodDiags (lower_values level ts).reports
unfolding lower_values
value_reports level empty g = no_reports
value_reports level (more t ts) g =
    let h = chain_spans t ts g in
    all_append good_diag (lower_value level t).reports (lower_values level ts).reports (value_good level t h.0)
    (value_reports level ts h.1)
