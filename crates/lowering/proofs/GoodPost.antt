-- What the post checks report of a good state: diagnostics at the spans of its bindings and at the name spans of its definitions, all in
-- order.
use Prim.Native.Nat.{ℕ}
use mathlib.Core.Path.{◌≡◌}
use mathlib.Core.Bool.{true}
use mathlib.Core.List.{List, [], ◌∷◌, ◌++◌}
use Rattle.paths_numbers.specs.meaning.Text.{same}
use Rattle.paths_numbers.specs.meaning.Reference.{Target}
use Rattle.paths_numbers.proofs.Texts.{cond_in}
use Rattle.definition_log.specs.meaning.Contents.{Span, Cell, number, reference, Value, string, cell_list, bytestring, phandle, DefValue}
use Rattle.definition_log.specs.meaning.Contents.{node}
use Rattle.definition_log.specs.meaning.Contents.{property, deleted_node, deleted_property, version, plugin, Def, Binding}
use Rattle.making.specs.meaning.State.{State}
use Rattle.definition_log.specs.machine.Good.{all, in_order, good_def, good_binding, good_diag}
use Rattle.queries.specs.meaning.Kind.{sets_overlay}
use Rattle.paths_numbers.specs.meaning.Lists.{any}
use Rattle.queries.specs.meaning.Live.{live}
use Rattle.resolving.specs.meaning.Resolve.{Resolution, reaches, missing, resolve}
use Rattle.post_checks.specs.meaning.Post.{duplicates_of, duplicate_labels, reference_report, check_target, check_cell, check_cells}
use Rattle.post_checks.specs.meaning.Post.{check_value}
use Rattle.post_checks.specs.meaning.Post.{check_values, check_def, check_defs, check_references, Headers, at_first, next_headers}
use Rattle.post_checks.specs.meaning.Post.{header_report}
use Rattle.post_checks.specs.meaning.Post.{directives_from, check_directives, post_checks}
use Rattle.lowering.proofs.GoodLists.{all_first, all_rest, all_append}
use Rattle.lowering.proofs.GoodReports.{GoodDiags, no_reports, good_report}
use Rattle.lowering.proofs.GoodState.{GoodState, def_parts, binding_parts, live_good}

-- duplicate labels

duplicates_good : (b : Binding) → in_order b.span ≡ true → (paths : List (List ℕ)) (cs : List Binding) → all good_binding cs ≡ true
    → GoodDiags (duplicates_of b paths cs)
unfolding duplicates_of all good_diag
duplicates_good b e paths [] g = no_reports
duplicates_good b e paths (c ∷ cs) g =
    let own = (binding_parts c (all_first good_binding c cs g)).0 in
    let rest = all_rest good_binding c cs g in
    cond_in GoodDiags (same c.label b.label)
    (cond_in GoodDiags (any (same c.path) paths) (duplicates_good b e paths cs rest)
    (rw (own, e) (duplicates_good b e (c.path ∷ paths) cs rest)))
    (duplicates_good b e paths cs rest)

labels_good : (labels : List (List ℕ)) (bs : List Binding) → all good_binding bs ≡ true → GoodDiags (duplicate_labels labels bs)
unfolding duplicate_labels
labels_good labels [] g = no_reports
labels_good labels (b ∷ bs) g =
    let own = (binding_parts b (all_first good_binding b bs g)).0 in
    let rest = all_rest good_binding b bs g in
    cond_in GoodDiags (any (same b.label) labels) (labels_good labels bs rest)
    (all_append good_diag (duplicates_of b (b.path ∷ []) bs) (duplicate_labels (b.label ∷ labels) bs)
    (duplicates_good b own (b.path ∷ []) bs rest)
    (labels_good (b.label ∷ labels) bs rest))

-- references of live properties

module _ (s : State) (span : Span) (e : in_order span ≡ true) where
  resolution_checked : (r : Resolution) → GoodDiags (reference_report span r)
  resolution_checked (reaches p) = no_reports
  resolution_checked (missing code text) = good_report code text span e

  target_checked : (t : Target) → GoodDiags (check_target s span t)
  target_checked t = resolution_checked (resolve t s.binds s.defs)

  cell_checked : (c : Cell) → GoodDiags (check_cell s span c)
  cell_checked (number n) = no_reports
  cell_checked (reference t) = target_checked t

  cells_checked : (cs : List Cell) → GoodDiags (check_cells s span cs)
  unfolding check_cells
  cells_checked [] = no_reports
  cells_checked (c ∷ cs) = all_append good_diag (check_cell s span c) (check_cells s span cs) (cell_checked c) (cells_checked cs)

  value_checked : (v : Value) → GoodDiags (check_value s span v)
  value_checked (string t) = no_reports
  value_checked (cell_list w cs) = cells_checked cs
  value_checked (bytestring b) = no_reports
  value_checked (phandle t) = target_checked t

  values_checked : (vs : List Value) → GoodDiags (check_values s span vs)
  unfolding check_values
  values_checked [] = no_reports
  values_checked (v ∷ vs) = all_append good_diag (check_value s span v) (check_values s span vs) (value_checked v) (values_checked vs)

  def_checked : (v : DefValue) → GoodDiags (check_def s span v)
  def_checked (node l o) = no_reports
  def_checked (property vs) = values_checked vs
  def_checked deleted_node = no_reports
  def_checked deleted_property = no_reports
  def_checked version = no_reports
  def_checked plugin = no_reports

defs_checked : (s : State) (ds : List Def) → all good_def ds ≡ true → GoodDiags (check_defs s ds)
unfolding check_defs
defs_checked s [] g = no_reports
defs_checked s (d ∷ ds) g =
    all_append good_diag (check_def s d.name_span d.value) (check_defs s ds)
    (def_checked s d.name_span (def_parts d (all_first good_def d ds g)).0 d.value)
    (defs_checked s ds (all_rest good_def d ds g))

references_good : {s : State} → GoodState s → GoodDiags (check_references s)
unfolding check_references
references_good {s} g =
    cond_in GoodDiags (sets_overlay s.defs) no_reports (defs_checked s (live [] s.defs) (live_good [] s.defs g.defs))

-- directive order

header_checked : (v : DefValue) (h : Headers) (span : Span) → in_order span ≡ true → GoodDiags (header_report v h span)
header_checked (node l o) h span e = cond_in GoodDiags h.seen no_reports (good_report 23 [] span e)
header_checked (property v) h span e = cond_in GoodDiags h.seen no_reports (good_report 23 [] span e)
header_checked deleted_node h span e = cond_in GoodDiags h.seen no_reports (good_report 23 [] span e)
header_checked deleted_property h span e = cond_in GoodDiags h.seen no_reports (good_report 23 [] span e)
header_checked version h span e = cond_in GoodDiags h.only no_reports (good_report 21 [] span e)
header_checked plugin h span e = cond_in GoodDiags h.allowed no_reports (good_report 22 [] span e)

directives_good : (h : Headers) (ds : List Def) → all good_def ds ≡ true → GoodDiags (directives_from h ds)
unfolding directives_from
directives_good h [] g = no_reports
directives_good h (d ∷ ds) g =
    all_append good_diag (header_report d.value h d.name_span) (directives_from (next_headers d.value h) ds)
    (header_checked d.value h d.name_span (def_parts d (all_first good_def d ds g)).0)
    (directives_good (next_headers d.value h) ds (all_rest good_def d ds g))

pub post_good : {s : State} → GoodState s → GoodDiags (post_checks s)
unfolding post_checks check_directives
post_good {s} g =
    all_append good_diag (duplicate_labels [] s.binds ++ check_references s) (directives_from at_first s.defs)
    (all_append good_diag (duplicate_labels [] s.binds) (check_references s) (labels_good [] s.binds g.binds) (references_good g))
    (directives_good at_first s.defs g.defs)
