-- Every accepted description lowers to a log that keeps row 8's rules for spans and paths.
use Prim.Native.Nat.{ℕ}
use mathlib.Core.Path.{◌≡◌, refl}
use mathlib.Core.Bool.{true}
use mathlib.Core.List.{List, [], ◌∷◌}
use mathlib.Core.Option.{Option, some, none}
use lib.Dec.{eqb}
use Rattle.paths_numbers.specs.meaning.Text.{is_empty}
use Rattle.paths_numbers.specs.meaning.Path.{join, good_path}
use Rattle.paths_numbers.specs.meaning.Reference.{Target}
use Rattle.paths_numbers.proofs.Texts.{both, cond_in}
use Rattle.definition_log.specs.meaning.Contents.{Span, DefValue, deleted_node, deleted_property, version, plugin, Diag}
use Rattle.definition_log.specs.meaning.Sound.{nonempty_path}
use Rattle.making.specs.meaning.State.{State}
use Rattle.definition_log.specs.machine.Good.{in_order, path_fits, good_def, good_diag, good_log}
use Rattle.input.specs.meaning.Tree.{Tree, Trees, tree, empty, more, text_of, span_of, first_of, node_kind, property_kind, directive_kind}
use Rattle.input.specs.meaning.Tree.{preprocessor_kind, name_kind, reference_kind}
use Rattle.input.specs.meaning.Report.{report}
use Rattle.input.specs.meaning.Name.{full_name}
use Rattle.input.specs.meaning.Phandle.{lower_phandle}
use Rattle.resolving.specs.meaning.Resolve.{Resolution, reaches, missing, resolve, unresolved}
use Rattle.input.specs.meaning.Property.{lower_values}
use Rattle.input.specs.meaning.GoodName.{good_names, good_names_in}
use Rattle.items.specs.meaning.Lower.{named_property, lower_property, bare, delete_node, delete_resolved, delete_target, delete_referenced}
use Rattle.items.specs.meaning.Lower.{delete_named, lower_delete_node, delete_property_named, lower_directive, lower_as, lower_item}
use Rattle.items.specs.meaning.Lower.{lower_items}
use Rattle.items.specs.meaning.Lower.{lowered}
use Rattle.input.specs.meaning.Input.{description}
use Rattle.input.specs.meaning.Place.{items}
use Rattle.input.specs.meaning.Rows.{accepted, verdict}
use Rattle.lowering.specs.meaning.Lowered.{log_of, meaning}
use Rattle.input.proofs.GoodNames.{full_plain, first_plain, good_parts, good_second}
use Rattle.input.proofs.Rows.{accepted_names, accepted_places}
use Rattle.input.proofs.Spans.{spans, spans_in, fits_spans, own_span_lem, child_spans, second_spans, chain_spans, first_spans}
use Rattle.input.proofs.Spans.{property_span}
use Rattle.lowering.proofs.GoodLists.{all_append}
use Rattle.lowering.proofs.GoodReports.{GoodDiags, good_report, full_reports, phandle_reports}
use Rattle.lowering.proofs.GoodValues.{value_reports}
use Rattle.lowering.proofs.GoodState.{GoodState, good_start, good_def_lem, good_define, good_emit, good_unbind}
use Rattle.lowering.proofs.GoodPaths.{name_path, good_resolution, resolution_good}
use Rattle.lowering.proofs.GoodPost.{post_good}
use Rattle.lowering.proofs.GoodNodes.{GoodTrees, unresolved_good, KeepsGood, node_good}

module _ {s : State} (g : GoodState s) (span : Span) (e : in_order span ≡ true) where
  -- directives and deletions at a path that fits
  bare_good : (p : List ℕ) (v : DefValue) → path_fits v p ≡ true → good_def (bare p v span) ≡ true
  bare_good p v f = good_def_lem (bare p v span) e e f

  delete_good : (p : List ℕ) → nonempty_path p ≡ true → GoodState (delete_node p span s)
  unfolding delete_node
  delete_good p f = good_define (good_unbind g p) (bare p deleted_node span) (bare_good p deleted_node f)

  -- a node deleted by reference
  delete_resolved_lem : (r : Tree) → in_order (span_of r) ≡ true → (o : Resolution) → good_resolution o ≡ true
      → GoodState (delete_resolved r span o s)
  delete_resolved_lem r i (reaches p) f = delete_good p f
  delete_resolved_lem r i (missing code text) f = good_emit g (unresolved r code text s.defs) (unresolved_good r code text s.defs i)

  delete_target_lem : (r : Tree) → in_order (span_of r) ≡ true → (ds : List Diag) → GoodDiags ds → (o : Option Target)
      → GoodState (delete_target r span ds o s)
  delete_target_lem r i ds h (some t) = delete_resolved_lem r i (resolve t s.binds s.defs) (resolution_good g t)
  delete_target_lem r i ds h none = good_emit g ds h

  delete_referenced_lem : (parts : Trees) → GoodTrees parts → (o : Option Tree) → first_of reference_kind parts ≡ o
      → GoodState (delete_referenced span o s)
  delete_referenced_lem parts t (some r) q =
      let h = first_spans reference_kind parts r t.spans q in
      delete_target_lem r (own_span_lem r h) (lower_phandle r).reports (phandle_reports r h) (lower_phandle r).result
  delete_referenced_lem parts t none q = g

module _ {s : State} (g : GoodState s) (parent : List ℕ) (f : good_path parent ≡ true) (parts : Trees) (t : GoodTrees parts) (span : Span)
    (e : in_order span ≡ true) where
  -- a node or a property deleted by name
  delete_named_lem : (o : Option (List ℕ)) → (full_name parts).result ≡ o → GoodState (delete_named parent parts span o s)
  delete_named_lem (some name) q = delete_good g span e (join parent name) (name_path parent name f (full_plain parts name t.names q))
  delete_named_lem none q = delete_referenced_lem g span e parts t (first_of reference_kind parts) refl

  delete_property : (o : Option Tree) → first_of name_kind parts ≡ o → GoodState (delete_property_named parent span o s)
  delete_property (some n) q =
      good_define g (bare (join parent (text_of n)) deleted_property span)
      (bare_good g span e (join parent (text_of n)) deleted_property (name_path parent (text_of n) f (first_plain parts n t.names q)))
  delete_property none q = g

  -- a property defined
  named_good : (level : ℕ) (values : Trees) (o : Option (List ℕ)) → (full_name parts).result ≡ o
      → GoodState (named_property level parent parts values span o s)
  named_good level values (some name) q =
      good_define g _ (good_def_lem _ e (property_span parts span t.spans e) (name_path parent name f (full_plain parts name t.names q)))
  named_good level values none q = g

module _ {s : State} (g : GoodState s) (parent : List ℕ) (f : good_path parent ≡ true) (parts : Trees) (t : GoodTrees parts) (span : Span)
    (e : in_order span ≡ true) where
  property_good : (level : ℕ) (values : Trees) → spans_in values ≡ true → GoodState (lower_property level parent parts values span s)
  unfolding lower_property
  property_good level values v =
      let reports = all_append good_diag (lower_values level values).reports (full_name parts).reports (value_reports level values v)
      (full_reports parts t.spans) in
      cond_in GoodState (is_empty parent) (good_emit g (report 7 [] span ∷ []) (good_report 7 [] span e))
      (named_good (good_emit g _ reports) parent f parts t span e level values (full_name parts).result refl)

  directive_good : (w : ℕ) → GoodState (lower_directive w parent parts span s)
  unfolding lower_directive lower_delete_node
  directive_good w =
      cond_in GoodState (eqb w 1) (good_define g (bare parent version span) (bare_good g span e parent version f))
      (cond_in GoodState (eqb w 2) (good_define g (bare parent plugin span) (bare_good g span e parent plugin f))
      (cond_in GoodState (eqb w 3) (good_emit g (report 2 [] span ∷ []) (good_report 2 [] span e))
      (cond_in GoodState (eqb w 4)
      (delete_named_lem (good_emit g (full_name parts).reports (full_reports parts t.spans)) parent f parts t span e (full_name parts).result
      refl)
      (cond_in GoodState (eqb w 5) (delete_property g parent f parts t span e (first_of name_kind parts) refl)
      g))))

  as_good : (level k w : ℕ) (second : Trees) → spans_in second ≡ true → (body : List ℕ → State → State) → KeepsGood body
      → GoodState (lower_as level k w span parts second body parent s)
  as_good level k w second v body h =
      cond_in GoodState (eqb k node_kind) (node_good parts t span e g body h parent f)
      (cond_in GoodState (eqb k property_kind) (property_good level second v)
      (cond_in GoodState (eqb k directive_kind) (directive_good w)
      (cond_in GoodState (eqb k preprocessor_kind) (good_emit g (report 1 [] span ∷ []) (good_report 1 [] span e))
      g)))

-- lowering an item, and the items of a chain
mutual
  unfolding lower_item lower_items good_names_in

  item_good : (level : ℕ) (i : Tree) (parent : List ℕ) (s : State) → good_names i ≡ true → spans i ≡ true → good_path parent ≡ true
      → GoodState s
      → GoodState (lower_item level i parent s)
  item_good level (tree k text w span parts second) parent s n v f g =
      let i = tree k text w span parts second in
      let names = good_second k text w span parts second n in
      let t : GoodTrees parts = record { names = good_parts k text w span parts second n; spans = child_spans i v } in
      as_good g parent f parts t span (own_span_lem i v) level k w second (second_spans i v) (λ p u. lower_items level second p u)
      (λ p u x y. items_good level second p u names (second_spans i v) x y)

  items_good : (level : ℕ) (is : Trees) (parent : List ℕ) (s : State) → good_names_in is ≡ true → spans_in is ≡ true → good_path parent ≡ true
      → GoodState s
      → GoodState (lower_items level is parent s)
  items_good level empty parent s n v f g = g
  items_good level (more i is) parent s n v f g =
      let a = both (good_names i) (good_names_in is) n in
      let b = chain_spans i is v in
      items_good level is parent _ a.1 b.1 f (item_good level i parent s a.0 b.0 f g)

-- the log of a good state
log_good : {s : State} → GoodState s → good_log (log_of s) ≡ true
unfolding good_log log_of
log_good g = rw (g.defs, g.exts, g.binds, g.diags) (post_good g)

pub accepted_good : (level : ℕ) (words text : List ℕ) → verdict words text ≡ accepted → good_log (log_of (meaning level words text)) ≡ true
unfolding lowered good_path is_empty
accepted_good level words text e =
    log_good
    (items_good level (description words text) [] _ (accepted_names words text e)
    (fits_spans (description words text) items (accepted_places words text e)) refl
    good_start)
