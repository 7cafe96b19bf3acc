-- Nodes keep a state good: where they go, their labels and definition, and what is made of a body with a log of its own.
use Prim.Native.Nat.{ℕ}
use mathlib.Core.Path.{◌≡◌, refl}
use mathlib.Core.Bool.{Bool, true}
use mathlib.Core.List.{List, [], ◌∷◌, ◌++◌}
use mathlib.Core.Option.{Option, some, none}
use lib.Dec.{eqb}
use Rattle.paths_numbers.specs.meaning.Text.{same, is_empty}
use Rattle.paths_numbers.specs.meaning.Path.{root, join, good_path}
use Rattle.paths_numbers.specs.meaning.Reference.{Target}
use Rattle.paths_numbers.proofs.Texts.{cond_in}
use Rattle.definition_log.specs.meaning.Contents.{Span, Def, Binding, Diag}
use Rattle.definition_log.specs.meaning.Sound.{nonempty_path}
use Rattle.making.specs.meaning.State.{State}
use Rattle.definition_log.specs.machine.Good.{all, in_order, good_binding, good_diag}
use Rattle.queries.specs.meaning.Kind.{sets_overlay}
use Rattle.input.specs.meaning.Tree.{Tree, Trees, empty, more, kind_of, span_of, children_of, first_of, has, label_kind, reference_kind}
use Rattle.input.specs.meaning.Tree.{slash_kind}
use Rattle.input.specs.meaning.Report.{Got, Made, and_then, report}
use Rattle.input.specs.meaning.Name.{name_or_macro, full_name, node_name_span, labelled, labels_of}
use Rattle.input.specs.meaning.Phandle.{lower_phandle}
use Rattle.resolving.specs.meaning.Resolve.{Resolution, reaches, missing, resolve, unresolved}
use Rattle.input.specs.meaning.GoodName.{good_names_in}
use Rattle.items.specs.meaning.Lower.{Place, at, aside, discarded, nowhere, Placed, by_resolution, by_target, placed_as, by_name, by_parts}
use Rattle.items.specs.meaning.Lower.{place_of, node_def, opened, settled, lower_placed, lower_node}
use Rattle.input.proofs.GoodNames.{full_plain}
use Rattle.input.proofs.Spans.{spans_in, own_span_lem, child_spans, chain_spans, first_spans, node_span}
use Rattle.lowering.proofs.GoodLists.{all_append}
use Rattle.lowering.proofs.GoodReports.{GoodDiags, no_reports, good_report, name_reports, full_reports, phandle_reports}
use Rattle.lowering.proofs.GoodState.{GoodState, good_def_lem, good_define, good_bind, good_emit, good_apart, good_dropped}
use Rattle.lowering.proofs.GoodState.{good_extended}
use Rattle.lowering.proofs.GoodPaths.{nonempty_good, root_good, name_path, root_path, good_resolution, resolution_good}

-- a chain of records with good names and spans in order
pub record GoodTrees (ts : Trees) : Type 0 where
  pub names : good_names_in ts ≡ true
  pub spans : spans_in ts ≡ true

-- the bindings of labels, and what they report
record GoodLabels (m : Made Binding) : Type 0 where
  bound : all good_binding m.made ≡ true
  reports : GoodDiags m.reports

and_then_lem : (x y : Made Binding) → GoodLabels x → GoodLabels y → GoodLabels (and_then x y)
and_then_lem x y g h =
    record {
      bound = all_append good_binding x.made y.made g.bound h.bound;
      reports = all_append good_diag x.reports y.reports g.reports h.reports;
    }

module _ (p : List ℕ) (f : nonempty_path p ≡ true) where
  labelled_good : (t : Tree) (n : Got (List ℕ)) → in_order (span_of t) ≡ true → GoodDiags n.reports → GoodLabels (labelled p t n)
  unfolding all good_binding
  labelled_good t n e h = go n.result
    where
      go : (o : Option (List ℕ)) → GoodLabels (labelled p t (record { result = o; reports = n.reports }))
      go (some l) = record { bound = rw (e, f) refl; reports = h }
      go none = record { bound = refl; reports = h }

  labels_good : (parts : Trees) → spans_in parts ≡ true → GoodLabels (labels_of p parts)
  unfolding labels_of all
  labels_good empty g = record { bound = refl; reports = no_reports }
  labels_good (more t ts) g =
      let h = chain_spans t ts g in
      let own = labelled_good t (name_or_macro (children_of t)) (own_span_lem t h.0) (name_reports (children_of t) (child_spans t h.0)) in
      let rest = labels_good ts h.1 in
      cond_in GoodLabels (eqb (kind_of t) label_kind) (and_then_lem (labelled p t (name_or_macro (children_of t))) (labels_of p ts) own rest) rest

-- where a node goes

abbrev good_place : Place → Bool
good_place (at p) = nonempty_path p
good_place (aside t span) = in_order span
good_place discarded = true
good_place nowhere = true

record GoodPlaced (x : Placed) : Type 0 where
  place : good_place x.place ≡ true
  reports : GoodDiags x.reports

pub unresolved_good : (r : Tree) (code : ℕ) (text : List ℕ) (defs : List Def) → in_order (span_of r) ≡ true
    → GoodDiags (unresolved r code text defs)
unresolved_good r code text defs e = cond_in GoodDiags (sets_overlay defs) no_reports (good_report code text (span_of r) e)

by_resolution_lem : (r : Tree) (t : Target) (defs : List Def) (o : Resolution) → in_order (span_of r) ≡ true → good_resolution o ≡ true
    → GoodPlaced (by_resolution r t defs o)
by_resolution_lem r t defs (reaches p) e g = record { place = g; reports = no_reports }
by_resolution_lem r t defs (missing code text) e g = record { place = e; reports = unresolved_good r code text defs e }

by_target_lem : {s : State} → GoodState s → (r : Tree) (ds : List Diag) (o : Option Target) → in_order (span_of r) ≡ true → GoodDiags ds
    → GoodPlaced (by_target r ds o s)
by_target_lem {s} g r ds (some t) e h = by_resolution_lem r t s.defs (resolve t s.binds s.defs) e (resolution_good g t)
by_target_lem g r ds none e h = record { place = refl; reports = h }

placed_as_lem : (parent name : List ℕ) (span : Span) (ds : List Diag) → nonempty_path (join parent name) ≡ true → in_order span ≡ true
    → GoodDiags ds
    → GoodPlaced (placed_as parent name span ds)
placed_as_lem parent name span ds f e h =
    let here : GoodPlaced (record { place = at (join parent name); reports = ds }) = record { place = f; reports = h } in
    cond_in GoodPlaced (same name root)
    (cond_in GoodPlaced (is_empty parent) here (reported 6))
    (cond_in GoodPlaced (is_empty parent) (reported 5) here)
  where
    reported : (code : ℕ) → GoodPlaced (record { place = nowhere; reports = ds ++ report code [] span ∷ [] })
    reported code = record { place = refl; reports = all_append good_diag ds (report code [] span ∷ []) h (good_report code [] span e) }

module _ (parent : List ℕ) (f : good_path parent ≡ true) (parts : Trees) (t : GoodTrees parts) (span : Span) (e : in_order span ≡ true) where
  by_name_lem : (o : Option (List ℕ)) → (full_name parts).result ≡ o → GoodPlaced (by_name parent parts span (full_name parts).reports o)
  by_name_lem (some name) q =
      placed_as_lem parent name span (full_name parts).reports (name_path parent name f (full_plain parts name t.names q)) e
      (full_reports parts t.spans)
  by_name_lem none q =
      cond_in GoodPlaced (has slash_kind parts)
      (placed_as_lem parent root span (full_name parts).reports (root_path parent) e (full_reports parts t.spans))
      (record { place = refl; reports = full_reports parts t.spans })

  by_parts_lem : {s : State} → GoodState s → (o : Option Tree) → first_of reference_kind parts ≡ o → GoodPlaced (by_parts parent parts span s o)
  by_parts_lem g (some r) q =
      let h = first_spans reference_kind parts r t.spans q in
      by_target_lem g r (lower_phandle r).reports (lower_phandle r).result (own_span_lem r h) (phandle_reports r h)
  by_parts_lem g none q = by_name_lem (full_name parts).result refl

-- a way to lower a body that keeps a state good
abbrev pub KeepsGood : (List ℕ → State → State) → Type 0
KeepsGood body = (p : List ℕ) (u : State) → good_path p ≡ true → GoodState u → GoodState (body p u)

module _ (parts : Trees) (t : GoodTrees parts) (span : Span) (e : in_order span ≡ true) where
  opened_good : {s : State} → GoodState s → (p : List ℕ) → nonempty_path p ≡ true → GoodState (opened p parts span s)
  unfolding opened
  opened_good g p f =
      let l = labels_good p f parts t.spans in
      good_define (good_bind (good_emit g (labels_of p parts).reports l.reports) (labels_of p parts).made l.bound)
      (node_def p parts span)
      (good_def_lem (node_def p parts span) e (node_span parts span t.spans e) f)

  settled_good : {s u : State} → GoodState s → GoodState u → (x : Target) (ref_span : Span) → in_order ref_span ≡ true
      → GoodState (settled x ref_span span s u)
  settled_good {s} {u} g h x ref_span r =
      cond_in GoodState (sets_overlay s.defs)
      (good_extended g (record { target = x; body = u.defs; span = span; name_span = ref_span }) refl e r h)
      (good_dropped g h)

  placed_good : {s : State} → GoodState s → (body : List ℕ → State → State) → KeepsGood body → (place : Place) → good_place place ≡ true
      → GoodState (lower_placed place parts span body s)
  placed_good g body k (at p) f = k p _ (nonempty_good p f) (opened_good g p f)
  placed_good g body k (aside x ref_span) f = settled_good g (k root _ root_good (good_apart g)) x ref_span f
  placed_good g body k discarded f = good_dropped g (k root _ root_good (good_apart g))
  placed_good g body k nowhere f = g

  pub node_good : {s : State} → GoodState s → (body : List ℕ → State → State) → KeepsGood body → (parent : List ℕ) → good_path parent ≡ true
      → GoodState (lower_node parent parts span body s)
  unfolding lower_node place_of
  node_good {s} g body k parent f =
      let x = by_parts_lem parent f parts t (node_name_span parts span) (node_span parts span t.spans e) g (first_of reference_kind parts) refl
      in
      placed_good (good_emit g (place_of parent parts span s).reports x.reports) body k (place_of parent parts span s).place x.place
