-- A definition that is no directive, once made, stays in the log in hand; and after it directive order is settled.
use Prim.Native.Nat.{ℕ}
use mathlib.Core.Path.{◌≡◌, refl}
use mathlib.Core.Bool.{true, false, not}
use mathlib.Core.List.{List, [], ◌∷◌, ◌++◌}
use mathlib.Core.Option.{Option, some, none}
use lib.Dec.{eqb}
use Rattle.paths_numbers.specs.meaning.Text.{is_empty}
use Rattle.paths_numbers.specs.meaning.Path.{root, join}
use Rattle.paths_numbers.specs.meaning.Reference.{Target}
use Rattle.paths_numbers.proofs.Texts.{by_test, not_both, cond_in}
use Rattle.definition_log.specs.meaning.Contents.{Span, DefValue, node, property, deleted_node, deleted_property, version, plugin, Def}
use Rattle.definition_log.specs.meaning.Contents.{Diag}
use Rattle.queries.specs.meaning.Kind.{sets_overlay}
use Rattle.paths_numbers.specs.meaning.Lists.{any}
use Rattle.paths_numbers.proofs.Lists.{any_front, any_back, any_head}
use Rattle.queries.proofs.Gap.{is_directive, Within, none as no_defs, next as one_def}
use Rattle.input.specs.meaning.Tree.{Tree, Trees, tree, empty, more, first_of, node_kind, property_kind, directive_kind, preprocessor_kind}
use Rattle.input.specs.meaning.Tree.{name_kind, reference_kind}
use Rattle.input.specs.meaning.Name.{full_name}
use Rattle.input.specs.meaning.Phandle.{lower_phandle}
use Rattle.resolving.specs.meaning.Resolve.{Resolution, reaches, missing, resolve}
use Rattle.making.specs.meaning.State.{State, define, bind, emit, apart, dropped, extended}
use Rattle.items.specs.meaning.Unbind.{unbind}
use Rattle.items.specs.meaning.Lower.{Place, at, aside, discarded, nowhere, place_of, node_def, opened, settled, lower_placed}
use Rattle.items.specs.meaning.Lower.{lower_node, named_property, lower_property, delete_node, delete_resolved, delete_target}
use Rattle.items.specs.meaning.Lower.{delete_referenced, delete_named, lower_delete_node, delete_property_named, lower_directive, lower_as}
use Rattle.items.specs.meaning.Lower.{lower_item, lower_items}
use Rattle.post_checks.specs.meaning.Post.{Headers, defined, next_headers, header_report, directives_from}

-- a definition that is no directive is in the log in hand
abbrev pub Defined : State → Type 0
Defined s = any (λ (d : Def). not (is_directive d.value)) s.defs ≡ true

module _ (s : State) (h : Defined s) where
  still_emit : (ds : List Diag) → Defined (emit ds s)
  unfolding emit
  still_emit ds = h

  still_define : (d : Def) → Defined (define d s)
  unfolding define
  still_define d = any_front _ s.defs (d ∷ []) h

  still_delete : (p : List ℕ) (span : Span) → Defined (delete_node p span s)
  unfolding delete_node define unbind
  still_delete p span = any_front _ s.defs _ h

  still_opened : (p : List ℕ) (parts : Trees) (span : Span) → Defined (opened p parts span s)
  unfolding opened define bind emit
  still_opened p parts span = any_front _ s.defs _ h

  still_dropped : (t : State) → Defined (dropped s t)
  unfolding dropped
  still_dropped t = h

  still_settled : (x : Target) (ref_span span : Span) (t : State) → Defined (settled x ref_span span s t)
  unfolding dropped extended
  still_settled x ref_span span t = by_test (sets_overlay s.defs) (λ e. rw e h) (λ e. rw e h)

  still_placed : (place : Place) (parts : Trees) (span : Span) (body : List ℕ → State → State)
      → ((p : List ℕ) (t : State) → Defined t → Defined (body p t))
      → Defined (lower_placed place parts span body s)
  still_placed (at p) parts span body k = k p _ (still_opened p parts span)
  still_placed (aside x ref_span) parts span body k = still_settled x ref_span span (body root (apart s))
  still_placed discarded parts span body k = still_dropped (body root (apart s))
  still_placed nowhere parts span body k = h

  still_named : (level : ℕ) (parent : List ℕ) (parts values : Trees) (span : Span) (o : Option (List ℕ))
      → Defined (named_property level parent parts values span o s)
  still_named level parent parts values span (some name) = still_define _
  still_named level parent parts values span none = h

  still_resolved : (r : Tree) (span : Span) (o : Resolution) → Defined (delete_resolved r span o s)
  still_resolved r span (reaches p) = still_delete p span
  still_resolved r span (missing code text) = still_emit _

  still_target : (r : Tree) (span : Span) (ds : List Diag) (o : Option Target) → Defined (delete_target r span ds o s)
  still_target r span ds (some x) = still_resolved r span (resolve x s.binds s.defs)
  still_target r span ds none = still_emit ds

  still_referenced : (span : Span) (o : Option Tree) → Defined (delete_referenced span o s)
  still_referenced span (some r) = still_target r span (lower_phandle r).reports (lower_phandle r).result
  still_referenced span none = h

  still_deleted : (parent : List ℕ) (parts : Trees) (span : Span) (o : Option (List ℕ)) → Defined (delete_named parent parts span o s)
  still_deleted parent parts span (some name) = still_delete (join parent name) span
  still_deleted parent parts span none = still_referenced span (first_of reference_kind parts)

  still_deleted_property : (parent : List ℕ) (span : Span) (o : Option Tree) → Defined (delete_property_named parent span o s)
  still_deleted_property parent span (some n) = still_define _
  still_deleted_property parent span none = h

abbrev Is : State → Type 0
Is s = Defined s

module _ (s : State) (h : Defined s) where
  still_directive : (w : ℕ) (parent : List ℕ) (parts : Trees) (span : Span) → Defined (lower_directive w parent parts span s)
  unfolding lower_directive lower_delete_node
  still_directive w parent parts span =
      cond_in Is (eqb w 1) (still_define s h _)
      (cond_in Is (eqb w 2) (still_define s h _)
      (cond_in Is (eqb w 3) (still_emit s h _)
      (cond_in Is (eqb w 4) (still_deleted _ (still_emit s h (full_name parts).reports) parent parts span (full_name parts).result)
      (cond_in Is (eqb w 5) (still_deleted_property s h parent span (first_of name_kind parts))
      h))))

  still_as : (level k w : ℕ) (span : Span) (parts second : Trees) (body : List ℕ → State → State)
      → ((p : List ℕ) (t : State) → Defined t → Defined (body p t)) → (parent : List ℕ)
      → Defined (lower_as level k w span parts second body parent s)
  unfolding lower_node lower_property
  still_as level k w span parts second body b parent =
      cond_in Is (eqb k node_kind) (still_placed _ (still_emit s h (place_of parent parts span s).reports)
      (place_of parent parts span s).place parts span body b)
      (cond_in Is (eqb k property_kind) (cond_in Is (is_empty parent) (still_emit s h _)
      (still_named _ (still_emit s h _) level parent parts second span (full_name parts).result))
      (cond_in Is (eqb k directive_kind) (still_directive w parent parts span)
      (cond_in Is (eqb k preprocessor_kind) (still_emit s h _)
      h)))

mutual
  unfolding lower_item lower_items

  pub still : (level : ℕ) (i : Tree) (parent : List ℕ) (s : State) → Defined s → Defined (lower_item level i parent s)
  still level (tree k text w span parts second) parent s h =
      still_as s h level k w span parts second (λ p u. lower_items level second p u) (λ p t d. stills level second p t d) parent

  stills : (level : ℕ) (is : Trees) (parent : List ℕ) (s : State) → Defined s → Defined (lower_items level is parent s)
  stills level empty parent s h = h
  stills level (more i is) parent s h = stills level is parent _ (still level i parent s h)

-- a node's definition is one
pub opened_defined : (p : List ℕ) (parts : Trees) (span : Span) (s : State) → Defined (opened p parts span s)
unfolding opened define bind emit
opened_defined p parts span s = any_back _ s.defs _ (any_head _ (node_def p parts span) [] refl)

-- directive order after such a definition: it stays as it is

after_defined : (v : DefValue) → next_headers v defined ≡ defined
after_defined (node l o) = refl
after_defined (property v) = refl
after_defined deleted_node = refl
after_defined deleted_property = refl
after_defined version = refl
after_defined plugin = refl

-- definitions under a path report nothing there
silent_within : {new : List ℕ} {z : List Def} → Within new z → (r : List Def) → directives_from defined (z ++ r) ≡ directives_from defined r
unfolding directives_from
silent_within no_defs r = refl
silent_within (one_def {d} u n w) r = rw (after_defined d.value, quiet_one d.value n d.name_span) (silent_within w r)
  where
    quiet_one : (v : DefValue) → is_directive v ≡ false → (span : Span) → header_report v defined span ≡ []
    quiet_one (node l o) e span = refl
    quiet_one (property v) e span = refl
    quiet_one deleted_node e span = refl
    quiet_one deleted_property e span = refl
    quiet_one version e span = absurd (not_both {t = true} refl e)
    quiet_one plugin e span = absurd (not_both {t = true} refl e)

settles : (v : DefValue) (h : Headers) → not (is_directive v) ≡ true → next_headers v h ≡ defined
settles (node l o) h e = refl
settles (property v) h e = refl
settles deleted_node h e = refl
settles deleted_property h e = refl
settles version h e = absurd (not_both {t = false} e refl)
settles plugin h e = absurd (not_both {t = false} e refl)

-- from the settled state on
settled_same : {new : List ℕ} {z : List Def} → Within new z → (l r : List Def)
    → directives_from defined (l ++ (z ++ r)) ≡ directives_from defined (l ++ r)
unfolding directives_from
settled_same w [] r = silent_within w r
settled_same w (d ∷ l) r = rw (after_defined d.value, settled_same w l r) refl

-- the order's reports are the same with definitions more behind one that is no directive
pub directives_same : {new : List ℕ} {z : List Def} → Within new z → (l r : List Def) (h : Headers)
    → any (λ (d : Def). not (is_directive d.value)) l ≡ true
    → directives_from h (l ++ (z ++ r)) ≡ directives_from h (l ++ r)
unfolding directives_from any
directives_same w [] r h e = absurd (not_both {t = false} e refl)
directives_same w (d ∷ l) r h e =
    by_test (not (is_directive d.value))
    (λ q. rw (settles d.value h q, settled_same w l r) refl)
    (λ q. rw (directives_same w l r (next_headers d.value h) (rw q at e)) refl)
