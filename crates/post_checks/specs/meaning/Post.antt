-- 01, "Post checks": duplicate labels, references of live properties, directive order (check_mir_post).
use Rattle.std.specs.Prelude.{ℕ, Bool, true, false, cond, List, [], ◌∷◌, ◌++◌}
use Rattle.paths_numbers.specs.meaning.Code.{duplicate_label, version_late, plugin_misplaced, before_version}
use Rattle.paths_numbers.specs.meaning.Text.{same}
use Rattle.paths_numbers.specs.meaning.Reference.{Target}
use Rattle.definition_log.specs.meaning.Contents.{Span, Cell, number, reference, Value, string, cell_list, bytestring, phandle, DefValue}
use Rattle.definition_log.specs.meaning.Contents.{node}
use Rattle.definition_log.specs.meaning.Contents.{property, deleted_node, deleted_property, version, plugin, Def, Binding, Diag}
use Rattle.queries.specs.meaning.Kind.{sets_overlay}
use Rattle.paths_numbers.specs.meaning.Lists.{any}
use Rattle.queries.specs.meaning.Live.{live}
use Rattle.input.specs.meaning.Report.{report}
use Rattle.resolving.specs.meaning.Resolve.{Resolution, reaches, missing, resolve}
use Rattle.making.specs.meaning.State.{State}

-- code 20, at a further binding of a label whose first remaining binding is b
abbrev pub duplicate : Binding → Binding → Diag
duplicate b c = record { code = duplicate_label; text = c.label; span = c.span; name_span = b.span }

-- the further bindings of b's label, each with a path not seen before
unfoldable pub duplicates_of : Binding → List (List ℕ) → List Binding → List Diag
duplicates_of b paths [] = []
duplicates_of b paths (c ∷ cs) =
    cond (same c.label b.label)
    (cond (any (same c.path) paths) (duplicates_of b paths cs) (duplicate b c ∷ duplicates_of b (c.path ∷ paths) cs))
    (duplicates_of b paths cs)

-- "labels are checked by first remaining binding"
unfoldable pub duplicate_labels : List (List ℕ) → List Binding → List Diag
duplicate_labels labels [] = []
duplicate_labels labels (b ∷ bs) =
    cond (any (same b.label) labels) (duplicate_labels labels bs)
    (duplicates_of b (b.path ∷ []) bs ++ duplicate_labels (b.label ∷ labels) bs)

-- codes 3 and 4 at the name span of a property that holds a reference
abbrev pub reference_report : Span → Resolution → List Diag
reference_report span (reaches p) = []
reference_report span (missing code text) = report code text span ∷ []

abbrev pub check_target : State → Span → Target → List Diag
check_target s span t = reference_report span (resolve t s.binds s.defs)

abbrev pub check_cell : State → Span → Cell → List Diag
check_cell s span (number n) = []
check_cell s span (reference t) = check_target s span t

unfoldable pub check_cells : State → Span → List Cell → List Diag
check_cells s span [] = []
check_cells s span (c ∷ cs) = check_cell s span c ++ check_cells s span cs

abbrev pub check_value : State → Span → Value → List Diag
check_value s span (string t) = []
check_value s span (cell_list w cs) = check_cells s span cs
check_value s span (bytestring b) = []
check_value s span (phandle t) = check_target s span t

unfoldable pub check_values : State → Span → List Value → List Diag
check_values s span [] = []
check_values s span (v ∷ vs) = check_value s span v ++ check_values s span vs

abbrev pub check_def : State → Span → DefValue → List Diag
check_def s span (node l o) = []
check_def s span (property vs) = check_values s span vs
check_def s span deleted_node = []
check_def s span deleted_property = []
check_def s span version = []
check_def s span plugin = []

unfoldable pub check_defs : State → List Def → List Diag
check_defs s [] = []
check_defs s (d ∷ ds) = check_def s d.name_span d.value ++ check_defs s ds

-- "references of live properties (not if the main log has a plugin directive)"
unfoldable pub check_references : State → List Diag
check_references s = cond (sets_overlay s.defs) [] (check_defs s (live [] s.defs))

-- directive order: whether all definitions so far are headers, whether a plugin directive may follow, and whether a version directive or
-- the report of its lack came before
pub record Headers : Type 0 where
  pub only : Bool
  pub allowed : Bool
  pub seen : Bool

abbrev pub at_first : Headers
at_first = record { only = true; allowed = false; seen = false }

-- after a definition that is no directive
abbrev pub defined : Headers
defined = record { only = false; allowed = false; seen = true }

-- a version directive among the headers opens them; a late one "allows nothing"
abbrev pub next_headers : DefValue → Headers → Headers
next_headers (node l o) h = defined
next_headers (property v) h = defined
next_headers deleted_node h = defined
next_headers deleted_property h = defined
next_headers version h = cond h.only (record { only = true; allowed = true; seen = true }) h
next_headers plugin h = record { only = h.only; allowed = false; seen = h.seen }

-- code 23, "definition before version"; 21, "version directive late"; 22, "plugin directive misplaced"
abbrev pub header_report : DefValue → Headers → Span → List Diag
header_report (node l o) h span = cond h.seen [] (report before_version [] span ∷ [])
header_report (property v) h span = cond h.seen [] (report before_version [] span ∷ [])
header_report deleted_node h span = cond h.seen [] (report before_version [] span ∷ [])
header_report deleted_property h span = cond h.seen [] (report before_version [] span ∷ [])
header_report version h span = cond h.only [] (report version_late [] span ∷ [])
header_report plugin h span = cond h.allowed [] (report plugin_misplaced [] span ∷ [])

unfoldable pub directives_from : Headers → List Def → List Diag
directives_from h [] = []
directives_from h (d ∷ ds) = header_report d.value h d.name_span ++ directives_from (next_headers d.value h) ds

unfoldable pub check_directives : List Def → List Diag
check_directives defs = directives_from at_first defs

-- "They run in that order."
unfoldable pub post_checks : State → List Diag
post_checks s = duplicate_labels [] s.binds ++ check_references s ++ check_directives s.defs
