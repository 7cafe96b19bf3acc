-- No diagnostic of a run at level 2, of lowering or of the post checks, has code 19 or 24.
use Prim.Native.Nat.{ℕ}
use mathlib.Core.Path.{◌≡◌, refl, ap, ◌∙◌}
use mathlib.Core.Bool.{Bool, false, cond}
use mathlib.Core.List.{List, [], ◌∷◌, ◌++◌}
use Rattle.paths_numbers.specs.meaning.Text.{same}
use Rattle.paths_numbers.specs.meaning.Reference.{Target}
use Rattle.paths_numbers.specs.meaning.Lists.{any}
use Rattle.paths_numbers.proofs.Texts.{cond_in}
use Rattle.definition_log.specs.meaning.Contents.{Span, Cell, number, reference, Value, string, cell_list, bytestring, phandle, DefValue}
use Rattle.definition_log.specs.meaning.Contents.{node}
use Rattle.definition_log.specs.meaning.Contents.{property, deleted_node, deleted_property, version, plugin, Def, Binding}
use Rattle.definition_log.specs.meaning.ReadBack.{Log}
use Rattle.making.specs.meaning.State.{State}
use Rattle.queries.specs.meaning.Kind.{sets_overlay}
use Rattle.queries.specs.meaning.Live.{live}
use Rattle.input.specs.meaning.Report.{report}
use Rattle.input.specs.meaning.NeverGiven.{never_given, is_never_given}
use Rattle.resolving.specs.meaning.Resolve.{Resolution, reaches, missing, resolve}
use Rattle.post_checks.specs.meaning.Post.{duplicates_of, duplicate_labels, reference_report, check_target, check_cells, check_value}
use Rattle.post_checks.specs.meaning.Post.{check_values, check_def, check_defs, check_references, Headers, at_first, next_headers}
use Rattle.post_checks.specs.meaning.Post.{header_report}
use Rattle.post_checks.specs.meaning.Post.{directives_from, check_directives, post_checks}
use Rattle.lowering.specs.meaning.Lowered.{log_of, meaning}
use Rattle.two_runs.proofs.WholeRuns.{wrote}
use Rattle.two_levels.specs.meaning.NeverArises.{NeverArises}
use Rattle.input.proofs.NeverGiven.{Quiet, quiet_none, quiet_report, quiet_append}
use Rattle.two_levels.proofs.QuietItems.{QuietResolution, resolution_quiet, meaning_quiet}

-- the post checks: codes 20, 3 and 4, and 21 to 23

duplicates_quiet : (b : Binding) (paths : List (List ℕ)) (cs : List Binding) → Quiet (duplicates_of b paths cs)
unfolding duplicates_of any
duplicates_quiet b paths [] = quiet_none
duplicates_quiet b paths (c ∷ cs) =
    cond_in Quiet (same c.label b.label)
    (cond_in Quiet (any (same c.path) paths) (duplicates_quiet b paths cs) (duplicates_quiet b (c.path ∷ paths) cs))
    (duplicates_quiet b paths cs)

labels_checked : (labels : List (List ℕ)) (bs : List Binding) → Quiet (duplicate_labels labels bs)
unfolding duplicate_labels
labels_checked labels [] = quiet_none
labels_checked labels (b ∷ bs) =
    cond_in Quiet (any (same b.label) labels) (labels_checked labels bs)
    (quiet_append _ _ (duplicates_quiet b (b.path ∷ []) bs) (labels_checked (b.label ∷ labels) bs))

module _ (s : State) (span : Span) where
  target_checked : (t : Target) → Quiet (check_target s span t)
  target_checked t = go (resolve t s.binds s.defs) (resolution_quiet t s.binds s.defs)
    where
      go : (r : Resolution) → QuietResolution r → Quiet (reference_report span r)
      go (reaches p) h = quiet_none
      go (missing code text) h = quiet_report code text span h

  cells_checked : (cs : List Cell) → Quiet (check_cells s span cs)
  unfolding check_cells
  cells_checked [] = quiet_none
  cells_checked (number n ∷ cs) = cells_checked cs
  cells_checked (reference t ∷ cs) = quiet_append _ _ (target_checked t) (cells_checked cs)

  value_checked : (v : Value) → Quiet (check_value s span v)
  value_checked (string t) = quiet_none
  value_checked (cell_list w cs) = cells_checked cs
  value_checked (bytestring b) = quiet_none
  value_checked (phandle t) = target_checked t

  values_checked : (vs : List Value) → Quiet (check_values s span vs)
  unfolding check_values
  values_checked [] = quiet_none
  values_checked (v ∷ vs) = quiet_append _ _ (value_checked v) (values_checked vs)

  def_checked : (v : DefValue) → Quiet (check_def s span v)
  def_checked (node l o) = quiet_none
  def_checked (property vs) = values_checked vs
  def_checked deleted_node = quiet_none
  def_checked deleted_property = quiet_none
  def_checked version = quiet_none
  def_checked plugin = quiet_none

defs_checked : (s : State) (ds : List Def) → Quiet (check_defs s ds)
unfolding check_defs
defs_checked s [] = quiet_none
defs_checked s (d ∷ ds) = quiet_append _ _ (def_checked s d.name_span d.value) (defs_checked s ds)

references_checked : (s : State) → Quiet (check_references s)
unfolding check_references
references_checked s = cond_in Quiet (sets_overlay s.defs) quiet_none (defs_checked s (live [] s.defs))

-- one report of these codes, or none
unless : (t : Bool) (code : ℕ) (span : Span) → never_given code ≡ false → Quiet (cond t [] (report code [] span ∷ []))
unless t code span h = cond_in Quiet t quiet_none (quiet_report code [] span h)

header_checked : (v : DefValue) (h : Headers) (span : Span) → Quiet (header_report v h span)
header_checked (node l o) h span = unless h.seen 23 span refl
header_checked (property v) h span = unless h.seen 23 span refl
header_checked deleted_node h span = unless h.seen 23 span refl
header_checked deleted_property h span = unless h.seen 23 span refl
header_checked version h span = unless h.only 21 span refl
header_checked plugin h span = unless h.allowed 22 span refl

directives_checked : (h : Headers) (ds : List Def) → Quiet (directives_from h ds)
unfolding directives_from
directives_checked h [] = quiet_none
directives_checked h (d ∷ ds) =
    quiet_append _ _ (header_checked d.value h d.name_span) (directives_checked (next_headers d.value h) ds)

post_quiet : (s : State) → Quiet (post_checks s)
unfolding post_checks check_directives
post_quiet s =
    quiet_append (duplicate_labels [] s.binds ++ check_references s) _
    (quiet_append _ _ (labels_checked [] s.binds) (references_checked s))
    (directives_checked at_first s.defs)

-- the whole run
pub never_arises : NeverArises
unfolding NeverArises log_of
never_arises r a l =
    let w = (wrote r a).log.reads in
    record {
      lowering = ap (λ (g : Log). any is_never_given g.diags) w ∙ rw l (meaning_quiet r.words r.text);
      checks = ap (λ (g : Log). any is_never_given g.post) w ∙ post_quiet (meaning r.level r.words r.text);
    }
