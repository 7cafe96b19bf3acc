-- What names and references report: diagnostics whose spans are in order, where every span below them is.
use Prim.Native.Nat.{ℕ}
use mathlib.Core.Path.{◌≡◌, refl}
use mathlib.Core.Bool.{true}
use mathlib.Core.List.{List, [], ◌∷◌}
use mathlib.Core.Option.{Option, some, none}
use lib.Dec.{eqb}
use Rattle.paths_numbers.specs.meaning.Text.{is_empty}
use Rattle.paths_numbers.specs.meaning.Reference.{Target, label, label_path, path, unreadable, target}
use Rattle.paths_numbers.proofs.Texts.{cond_in}
use Rattle.definition_log.specs.meaning.Contents.{Span, Diag}
use Rattle.definition_log.specs.machine.Good.{all, in_order, good_diag}
use Rattle.input.specs.meaning.Tree.{Tree, Trees, text_of, w_of, span_of, children_of, first_of, name_kind, unit_address_kind, macro_kind}
use Rattle.input.specs.meaning.Report.{Got, report, undefined_macro}
use Rattle.input.specs.meaning.Name.{name_or, name_or_macro, addressed, full_name}
use Rattle.input.specs.meaning.Phandle.{readable, macro_first, lower_phandle}
use Rattle.lowering.proofs.GoodLists.{all_one, all_append}
use Rattle.input.proofs.Spans.{spans, spans_in, child_spans, first_spans, first_span}

-- diagnostics whose spans are in order
abbrev pub GoodDiags : List Diag → Type 0
GoodDiags ds = all good_diag ds ≡ true

pub no_reports : GoodDiags []
unfolding all
no_reports = refl

pub good_report : (code : ℕ) (text : List ℕ) (span : Span) → in_order span ≡ true → GoodDiags (report code text span ∷ [])
unfolding good_diag
good_report code text span e = all_one good_diag (report code text span) (rw e refl)

-- names

undefined_good : (k : ℕ) (parts : Trees) (m : Tree) → spans_in parts ≡ true → first_of k parts ≡ some m → GoodDiags (undefined_macro m ∷ [])
undefined_good k parts m g q = good_report 10 (text_of m) (span_of m) (first_span k parts m g q)

pub name_reports : (parts : Trees) → spans_in parts ≡ true → GoodDiags (name_or_macro parts).reports
unfolding name_or_macro
name_reports parts g = go (first_of name_kind parts) (first_of macro_kind parts) refl
  where
    go : (n m : Option Tree) → first_of macro_kind parts ≡ m → GoodDiags (name_or n m).reports
    go (some n) m q = no_reports
    go none (some m) q = undefined_good macro_kind parts m g q
    go none none q = no_reports

pub full_reports : (parts : Trees) → spans_in parts ≡ true → GoodDiags (full_name parts).reports
unfolding full_name
full_reports parts g = go (first_of unit_address_kind parts) refl
  where
    go : (o : Option Tree) → first_of unit_address_kind parts ≡ o → GoodDiags (addressed (name_or_macro parts) o).reports
    go none q = name_reports parts g
    go (some u) q =
        all_append good_diag (name_or_macro parts).reports (name_or_macro (children_of u)).reports (name_reports parts g)
        (name_reports (children_of u) (child_spans u (first_spans unit_address_kind parts u g q)))

-- references

readable_good : (t : Target) → GoodDiags (readable t).reports
readable_good (label l) = no_reports
readable_good (label_path l p) = no_reports
readable_good (path p) = no_reports
readable_good unreadable = no_reports

abbrev GoodGot : Got Target → Type 0
GoodGot g = GoodDiags g.reports

pub phandle_reports : (r : Tree) → spans r ≡ true → GoodDiags (lower_phandle r).reports
unfolding lower_phandle
phandle_reports r g = go (first_of macro_kind (children_of r)) refl
  where
    go : (o : Option Tree) → first_of macro_kind (children_of r) ≡ o → GoodDiags (macro_first o r).reports
    go (some m) q = undefined_good macro_kind (children_of r) m (child_spans r g) q
    go none q =
        cond_in GoodGot (eqb (w_of r) 1) (readable_good (target (text_of r)))
        (cond_in GoodGot (is_empty (text_of r)) no_reports no_reports)
