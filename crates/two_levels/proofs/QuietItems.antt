-- At level 2 lowering reports neither of the codes that it never gives, whatever is lowered.
use Prim.Native.Nat.{ℕ}
use mathlib.Core.Path.{◌≡◌, refl}
use mathlib.Core.Bool.{Bool, false}
use mathlib.Core.List.{List, [], ◌∷◌}
use mathlib.Core.Option.{Option, some, none}
use lib.Dec.{eqb}
use Rattle.paths_numbers.specs.meaning.Text.{same, is_empty}
use Rattle.paths_numbers.specs.meaning.Path.{root, join}
use Rattle.paths_numbers.specs.meaning.Reference.{Target, label, label_path, path, unreadable}
use Rattle.paths_numbers.proofs.Texts.{cond_in}
use Rattle.levels.specs.meaning.Rules.{unsigned_level}
use Rattle.definition_log.specs.meaning.Contents.{Span, Def, Binding, Diag}
use Rattle.making.specs.meaning.State.{State, start, define, bind, emit, apart, dropped, extended}
use Rattle.queries.specs.meaning.Kind.{sets_overlay}
use Rattle.queries.specs.meaning.Lookup.{LookedUp, found, no_node, several, lookup}
use Rattle.input.specs.meaning.Tree.{Tree, Trees, tree, empty, more, kind_of, span_of, children_of, first_of, has, node_kind, property_kind}
use Rattle.input.specs.meaning.Tree.{directive_kind, preprocessor_kind, name_kind, label_kind, reference_kind, slash_kind}
use Rattle.input.specs.meaning.Input.{description}
use Rattle.input.specs.meaning.Report.{Got, Made, report}
use Rattle.input.specs.meaning.Name.{name_or_macro, full_name, labelled, labels_of, node_name_span}
use Rattle.input.specs.meaning.Phandle.{lower_phandle}
use Rattle.input.specs.meaning.NeverGiven.{never_given}
use Rattle.resolving.specs.meaning.Resolve.{Resolution, reaches, missing, first_binding, by_lookup, live_at, by_label, below_label, resolve}
use Rattle.resolving.specs.meaning.Resolve.{unresolved}
use Rattle.items.specs.meaning.Unbind.{unbind}
use Rattle.items.specs.meaning.Lower.{Place, at, aside, discarded, nowhere, Placed, by_resolution, by_target, placed_as, by_name, by_parts}
use Rattle.items.specs.meaning.Lower.{place_of, opened, settled, lower_placed, lower_node, named_property, lower_property, delete_node}
use Rattle.items.specs.meaning.Lower.{delete_resolved, delete_target, delete_referenced, delete_named, lower_delete_node}
use Rattle.items.specs.meaning.Lower.{delete_property_named}
use Rattle.items.specs.meaning.Lower.{lower_directive, lower_item, lower_items, lowered}
use Rattle.lowering.specs.meaning.Lowered.{meaning}
use Rattle.input.proofs.NeverGiven.{Quiet, quiet_none, quiet_report, quiet_append}
use Rattle.two_levels.proofs.QuietValues.{name_quiet, full_quiet, phandle_quiet, values_quiet}

-- references that lead nowhere: codes 3, 4 and 29

abbrev pub coded_so : Resolution → Bool
coded_so (reaches p) = false
coded_so (missing code text) = never_given code

abbrev pub QuietResolution : Resolution → Type 0
QuietResolution r = coded_so r ≡ false

live_quiet : (p : List ℕ) (defs : List Def) → QuietResolution (live_at p defs)
live_quiet p defs = go (lookup p defs)
  where
    go : (o : LookedUp) → QuietResolution (by_lookup p o)
    go (found q) = refl
    go no_node = refl
    go several = refl

pub resolution_quiet : (t : Target) (binds : List Binding) (defs : List Def) → QuietResolution (resolve t binds defs)
unfolding resolve
resolution_quiet (label l) binds defs = go (first_binding l binds)
  where
    go : (o : Option (List ℕ)) → QuietResolution (by_label l o)
    go (some p) = refl
    go none = refl
resolution_quiet (label_path l p) binds defs = go (first_binding l binds)
  where
    go : (o : Option (List ℕ)) → QuietResolution (below_label l p o defs)
    go (some base) = live_quiet (join base p) defs
    go none = refl
resolution_quiet (path p) binds defs = live_quiet p defs
resolution_quiet unreadable binds defs = refl

unresolved_quiet : (r : Tree) (code : ℕ) (text : List ℕ) (defs : List Def) → never_given code ≡ false → Quiet (unresolved r code text defs)
unresolved_quiet r code text defs h = cond_in Quiet (sets_overlay defs) quiet_none (quiet_report code text (span_of r) h)

-- states

abbrev pub QuietState : State → Type 0
QuietState s = Quiet s.diags

emit_quiet : (ds : List Diag) (s : State) → Quiet ds → QuietState s → QuietState (emit ds s)
unfolding emit
emit_quiet ds s h k = quiet_append s.diags ds k h

emit_one : (code : ℕ) (span : Span) (s : State) → never_given code ≡ false → QuietState s → QuietState (emit (report code [] span ∷ []) s)
emit_one code span s h k = emit_quiet _ s (quiet_report code [] span h) k

define_quiet : (d : Def) (s : State) → QuietState s → QuietState (define d s)
unfolding define
define_quiet d s h = h

delete_quiet : (p : List ℕ) (span : Span) (s : State) → QuietState s → QuietState (delete_node p span s)
unfolding delete_node define unbind
delete_quiet p span s h = h

-- labels, and where a node goes

labelled_quiet : (p : List ℕ) (t : Tree) (n : Got (List ℕ)) → Quiet n.reports → Quiet (labelled p t n).reports
labelled_quiet p t n h = go n.result
  where
    go : (o : Option (List ℕ)) → Quiet (labelled p t (record { result = o; reports = n.reports })).reports
    go (some l) = h
    go none = h

abbrev QuietLabels : Made Binding → Type 0
QuietLabels m = Quiet m.reports

labels_quiet : (p : List ℕ) (parts : Trees) → QuietLabels (labels_of p parts)
unfolding labels_of
labels_quiet p empty = quiet_none
labels_quiet p (more t ts) =
    cond_in QuietLabels (eqb (kind_of t) label_kind)
    (quiet_append _ _ (labelled_quiet p t (name_or_macro (children_of t)) (name_quiet (children_of t))) (labels_quiet p ts))
    (labels_quiet p ts)

abbrev QuietPlaced : Placed → Type 0
QuietPlaced x = Quiet x.reports

by_resolution_lem : (r : Tree) (t : Target) (defs : List Def) (o : Resolution) → QuietResolution o → QuietPlaced (by_resolution r t defs o)
by_resolution_lem r t defs (reaches p) h = quiet_none
by_resolution_lem r t defs (missing code text) h = unresolved_quiet r code text defs h

by_target_lem : (r : Tree) (ds : List Diag) (o : Option Target) (s : State) → Quiet ds → QuietPlaced (by_target r ds o s)
by_target_lem r ds (some t) s h = by_resolution_lem r t s.defs (resolve t s.binds s.defs) (resolution_quiet t s.binds s.defs)
by_target_lem r ds none s h = h

placed_as_lem : (parent name : List ℕ) (span : Span) (ds : List Diag) → Quiet ds → QuietPlaced (placed_as parent name span ds)
placed_as_lem parent name span ds h =
    cond_in QuietPlaced (same name root)
    (cond_in QuietPlaced (is_empty parent) h (quiet_append ds _ h (quiet_report 6 [] span refl)))
    (cond_in QuietPlaced (is_empty parent) (quiet_append ds _ h (quiet_report 5 [] span refl)) h)

by_name_lem : (parent : List ℕ) (parts : Trees) (span : Span) (ds : List Diag) (o : Option (List ℕ)) → Quiet ds
    → QuietPlaced (by_name parent parts span ds o)
by_name_lem parent parts span ds (some name) h = placed_as_lem parent name span ds h
by_name_lem parent parts span ds none h = cond_in QuietPlaced (has slash_kind parts) (placed_as_lem parent root span ds h) h

place_quiet : (parent : List ℕ) (parts : Trees) (span : Span) (s : State) → QuietPlaced (place_of parent parts span s)
unfolding place_of
place_quiet parent parts span s = go (first_of reference_kind parts)
  where
    go : (o : Option Tree) → QuietPlaced (by_parts parent parts (node_name_span parts span) s o)
    go (some r) = by_target_lem r (lower_phandle r).reports (lower_phandle r).result s (phandle_quiet r)
    go none = by_name_lem parent parts (node_name_span parts span) (full_name parts).reports (full_name parts).result (full_quiet parts)

-- a node, by a body that keeps a state quiet

abbrev KeepsQuiet : (List ℕ → State → State) → Type 0
KeepsQuiet body = (p : List ℕ) (u : State) → QuietState u → QuietState (body p u)

module _ (parts : Trees) (span : Span) (body : List ℕ → State → State) (b : KeepsQuiet body) where
  opened_quiet : (p : List ℕ) (s : State) → QuietState s → QuietState (opened p parts span s)
  unfolding opened define bind
  opened_quiet p s h = emit_quiet (labels_of p parts).reports s (labels_quiet p parts) h

  apart_quiet : (s : State) → QuietState s → QuietState (body root (apart s))
  unfolding apart
  apart_quiet s h = b root (apart s) h

  settled_quiet : (t : Target) (name_span : Span) (s u : State) → QuietState u → QuietState (settled t name_span span s u)
  unfolding dropped extended
  settled_quiet t name_span s u h = cond_in QuietState (sets_overlay s.defs) h h

  placed_quiet : (l : Place) (s : State) → QuietState s → QuietState (lower_placed l parts span body s)
  unfolding dropped
  placed_quiet (at p) s h = b p _ (opened_quiet p s h)
  placed_quiet (aside t ref_span) s h = settled_quiet t ref_span s _ (apart_quiet s h)
  placed_quiet discarded s h = apart_quiet s h
  placed_quiet nowhere s h = h

  node_quiet : (parent : List ℕ) (s : State) → QuietState s → QuietState (lower_node parent parts span body s)
  unfolding lower_node
  node_quiet parent s h = placed_quiet (place_of parent parts span s).place _ (emit_quiet _ s (place_quiet parent parts span s) h)

-- properties and directives

property_quiet : (parent : List ℕ) (parts values : Trees) (span : Span) (s : State) → QuietState s
    → QuietState (lower_property unsigned_level parent parts values span s)
unfolding lower_property
property_quiet parent parts values span s h =
    cond_in QuietState (is_empty parent) (emit_one 7 span s refl h)
    (named (full_name parts).result _ (emit_quiet _ s (quiet_append _ _ (values_quiet values) (full_quiet parts)) h))
  where
    named : (o : Option (List ℕ)) (u : State) → QuietState u → QuietState (named_property unsigned_level parent parts values span o u)
    named (some name) u k = define_quiet _ u k
    named none u k = k

resolved_quiet : (r : Tree) (span : Span) (o : Resolution) (s : State) → QuietResolution o → QuietState s
    → QuietState (delete_resolved r span o s)
resolved_quiet r span (reaches p) s q h = delete_quiet p span s h
resolved_quiet r span (missing code text) s q h = emit_quiet _ s (unresolved_quiet r code text s.defs q) h

deletion_quiet : (parent : List ℕ) (parts : Trees) (span : Span) (s : State) → QuietState s
    → QuietState (lower_delete_node parent parts span s)
unfolding lower_delete_node
deletion_quiet parent parts span s h = named (full_name parts).result _ (emit_quiet _ s (full_quiet parts) h)
  where
    targeted : (r : Tree) (o : Option Target) (u : State) → QuietState u → QuietState (delete_target r span (lower_phandle r).reports o u)
    targeted r (some t) u k = resolved_quiet r span (resolve t u.binds u.defs) u (resolution_quiet t u.binds u.defs) k
    targeted r none u k = emit_quiet _ u (phandle_quiet r) k

    referenced : (o : Option Tree) (u : State) → QuietState u → QuietState (delete_referenced span o u)
    referenced (some r) u k = targeted r (lower_phandle r).result u k
    referenced none u k = k

    named : (o : Option (List ℕ)) (u : State) → QuietState u → QuietState (delete_named parent parts span o u)
    named (some name) u k = delete_quiet (join parent name) span u k
    named none u k = referenced (first_of reference_kind parts) u k

directive_quiet : (w : ℕ) (parent : List ℕ) (parts : Trees) (span : Span) (s : State) → QuietState s
    → QuietState (lower_directive w parent parts span s)
unfolding lower_directive
directive_quiet w parent parts span s h =
    cond_in QuietState (eqb w 1) (define_quiet _ s h)
    (cond_in QuietState (eqb w 2) (define_quiet _ s h)
    (cond_in QuietState (eqb w 3) (emit_one 2 span s refl h)
    (cond_in QuietState (eqb w 4) (deletion_quiet parent parts span s h)
    (cond_in QuietState (eqb w 5) (go (first_of name_kind parts))
    h))))
  where
    go : (o : Option Tree) → QuietState (delete_property_named parent span o s)
    go (some n) = define_quiet _ s h
    go none = h

-- items

mutual
  unfolding lower_item lower_items

  item_quiet : (t : Tree) (parent : List ℕ) (s : State) → QuietState s → QuietState (lower_item unsigned_level t parent s)
  item_quiet (tree k text w span parts second) parent s h =
      cond_in QuietState (eqb k node_kind)
      (node_quiet parts span (λ p u. lower_items unsigned_level second p u) (λ p u x. items_quiet second p u x) parent s h)
      (cond_in QuietState (eqb k property_kind) (property_quiet parent parts second span s h)
      (cond_in QuietState (eqb k directive_kind) (directive_quiet w parent parts span s h)
      (cond_in QuietState (eqb k preprocessor_kind) (emit_one 1 span s refl h)
      h)))

  items_quiet : (ts : Trees) (parent : List ℕ) (s : State) → QuietState s → QuietState (lower_items unsigned_level ts parent s)
  items_quiet empty parent s h = h
  items_quiet (more t ts) parent s h = items_quiet ts parent _ (item_quiet t parent s h)

pub meaning_quiet : (words text : List ℕ) → QuietState (meaning unsigned_level words text)
unfolding lowered
meaning_quiet words text = items_quiet (description words text) [] start quiet_none
