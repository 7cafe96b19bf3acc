-- 01, "Nodes and items": names with their unit addresses, and labels (resolve_name_or_macro, get_name_and_unit_addr, collect_labels).
use Rattle.std.specs.Prelude.{ℕ, cond, List, [], ◌∷◌, ◌++◌, eqb, leb}
use Rattle.std.proofs.Math.Option.{Option, some, none}
use Rattle.paths_numbers.specs.meaning.Byte.{at_sign}
use Rattle.definition_log.specs.meaning.Contents.{Span, Binding}
use Rattle.input.specs.meaning.Tree.{Tree, Trees, empty, more, kind_of, text_of, span_of, children_of, first_of, name_kind}
use Rattle.input.specs.meaning.Tree.{unit_address_kind}
use Rattle.input.specs.meaning.Tree.{label_kind, reference_kind, macro_kind, slash_kind}
use Rattle.input.specs.meaning.Report.{Got, found, failed, Made, nothing, and_then, undefined_macro}

-- the name in a chain of parts; without one, the macro that stands there instead is reported
abbrev pub name_or : Option Tree → Option Tree → Got (List ℕ)
name_or (some n) m = found (text_of n)
name_or none (some m) = failed (undefined_macro m ∷ [])
name_or none none = failed []

unfoldable pub name_or_macro : Trees → Got (List ℕ)
name_or_macro parts = name_or (first_of name_kind parts) (first_of macro_kind parts)

-- a name and its unit address, where both are there
abbrev pub with_address : Option (List ℕ) → Option (List ℕ) → Option (List ℕ)
with_address (some n) (some u) = some (n ++ at_sign ∷ u)
with_address (some n) none = none
with_address none u = none

-- the name of what has these parts: "with a unit address" where there is one, which must hold a name
abbrev pub addressed : Got (List ℕ) → Option Tree → Got (List ℕ)
addressed n none = n
addressed n (some u) =
    record {
      result = with_address n.result (name_or_macro (children_of u)).result;
      reports = n.reports ++ (name_or_macro (children_of u)).reports;
    }

unfoldable pub full_name : Trees → Got (List ℕ)
full_name parts = addressed (name_or_macro parts) (first_of unit_address_kind parts)

-- "With a unit address, the name span runs from the name's start to the later of both ends."
abbrev pub later : ℕ → ℕ → ℕ
later a b = cond (leb a b) b a

abbrev pub span_to : Span → Option Tree → Span
span_to s none = s
span_to s (some u) = record { from = s.from; to = later s.to (span_of u).to }

-- a node's name span: its reference's, else its name's, else its slash's, else its own
abbrev pub slash_span : Option Tree → Span → Span
slash_span (some x) span = span_of x
slash_span none span = span

abbrev pub own_span : Option Tree → Trees → Span → Span
own_span (some n) parts span = span_to (span_of n) (first_of unit_address_kind parts)
own_span none parts span = slash_span (first_of slash_kind parts) span

abbrev pub reference_span : Option Tree → Trees → Span → Span
reference_span (some r) parts span = span_of r
reference_span none parts span = own_span (first_of name_kind parts) parts span

unfoldable pub node_name_span : Trees → Span → Span
node_name_span parts span = reference_span (first_of reference_kind parts) parts span

-- a property's name span: its name's
unfoldable pub property_name_span : Trees → Span → Span
property_name_span parts span = slash_span (first_of name_kind parts) span

-- the binding of a label to a node's path, where the label has a name
abbrev pub labelled : List ℕ → Tree → Got (List ℕ) → Made Binding
labelled path t n = bound n.result
  where
    bound : Option (List ℕ) → Made Binding
    bound (some l) = record { made = record { label = l; path = path; span = span_of t } ∷ []; reports = n.reports }
    bound none = nothing n.reports

-- "of labels, all" count: the bindings of a node's labels, in order
unfoldable pub labels_of : List ℕ → Trees → Made Binding
labels_of path empty = nothing []
labels_of path (more t ts) =
    cond (eqb (kind_of t) label_kind) (and_then (labelled path t (name_or_macro (children_of t))) (labels_of path ts)) (labels_of path ts)
