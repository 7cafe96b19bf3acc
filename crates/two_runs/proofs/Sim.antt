-- Two runs that differ in a gap of the log in hand, or only in row 7's counts, stay so: lowering asks the log for nothing but live lists
-- and whether it is an overlay.
use Prim.Native.Nat.{ℕ}
use mathlib.Core.Path.{◌≡◌, refl, ap, ◌∙◌}
use mathlib.Core.Bool.{Bool, true, false, cond}
use mathlib.Core.List.{List, [], ◌∷◌, ◌++◌}
use mathlib.Core.Option.{Option, some, none}
use lib.Dec.{eqb}
use Rattle.paths_numbers.specs.meaning.Text.{is_empty}
use Rattle.paths_numbers.specs.meaning.Path.{root, join}
use Rattle.paths_numbers.specs.meaning.Reference.{Target, label, label_path, path, unreadable}
use Rattle.definition_log.specs.meaning.Contents.{Span, Def, deleted_node, version, plugin, Binding, Diag}
use Rattle.queries.specs.meaning.Kind.{sets_overlay}
use Rattle.queries.specs.meaning.Live.{live}
use Rattle.queries.proofs.LookedUp.{lookup_same}
use Rattle.queries.proofs.Gap.{Gap, gap_live, gap_overlay, gap_more}
use Rattle.input.specs.meaning.Tree.{Tree, Trees, tree, empty, more, first_of, node_kind, property_kind, directive_kind}
use Rattle.input.specs.meaning.Tree.{preprocessor_kind, name_kind, reference_kind}
use Rattle.input.specs.meaning.Report.{report}
use Rattle.input.specs.meaning.Name.{full_name, node_name_span, labels_of}
use Rattle.input.specs.meaning.Phandle.{lower_phandle}
use Rattle.resolving.specs.meaning.Resolve.{first_binding, Resolution, reaches, missing, by_lookup, live_at, below_label, resolve}
use Rattle.resolving.specs.meaning.Resolve.{unresolved}
use Rattle.input.specs.meaning.Property.{lower_values}
use Rattle.making.specs.meaning.State.{State, define, bind, emit, apart, dropped, extended}
use Rattle.items.specs.meaning.Unbind.{without, unbind}
use Rattle.items.specs.meaning.Lower.{Place, at, aside, discarded, nowhere, by_resolution, by_target, by_parts, place_of}
use Rattle.items.specs.meaning.Lower.{node_def, opened, settled, lower_placed, lower_node, named_property, lower_property, bare}
use Rattle.items.specs.meaning.Lower.{delete_node}
use Rattle.items.specs.meaning.Lower.{delete_resolved, delete_target, delete_referenced, delete_named, lower_delete_node}
use Rattle.items.specs.meaning.Lower.{delete_property_named}
use Rattle.items.specs.meaning.Lower.{lower_directive, lower_as, lower_item, lower_items}

-- two logs: the same, or with a gap
pub data Like (new : List ℕ) : Bool → List Def → List Def → Type 0 where
  equal : {a : List Def} → Like new false a a
  gap : {a b : List Def} → Gap new a b → Like new true a b

pub like_live : {new : List ℕ} {t : Bool} {a b : List Def} → Like new t a b → (base : List ℕ) → live base a ≡ live base b
like_live equal base = refl
like_live (gap g) base = gap_live g base

pub like_overlay : {new : List ℕ} {t : Bool} {a b : List Def} → Like new t a b → sets_overlay a ≡ sets_overlay b
like_overlay equal = refl
like_overlay (gap g) = gap_overlay g

like_more : {new : List ℕ} {t : Bool} {a b : List Def} → Like new t a b → (d : Def) → Like new t (a ++ d ∷ []) (b ++ d ∷ [])
like_more equal d = equal
like_more (gap g) d = gap (gap_more g d)

like_equal : {new : List ℕ} {a b : List Def} → Like new false a b → a ≡ b
like_equal equal = refl

-- two states with such logs, and all else the same but the counts
pub record Sim (new : List ℕ) (t : Bool) (a b : State) : Type 0 where
  pub logs : Like new t a.defs b.defs
  pub exts : a.exts ≡ b.exts
  pub binds : a.binds ≡ b.binds
  pub diags : a.diags ≡ b.diags

pub sim_refl : (new : List ℕ) (s : State) → Sim new false s s
sim_refl new s = record { logs = equal; exts = refl; binds = refl; diags = refl }

module _ {new : List ℕ} {t : Bool} {a b : State} (s : Sim new t a b) where
  sim_emit : (ds : List Diag) → Sim new t (emit ds a) (emit ds b)
  unfolding emit
  sim_emit ds = record { logs = s.logs; exts = s.exts; binds = s.binds; diags = ap (λ (l : List Diag). l ++ ds) s.diags }

  sim_define : (d : Def) → Sim new t (define d a) (define d b)
  unfolding define
  sim_define d = record { logs = like_more s.logs d; exts = s.exts; binds = s.binds; diags = s.diags }

  sim_bind : (bs : List Binding) → Sim new t (bind bs a) (bind bs b)
  unfolding bind
  sim_bind bs = record { logs = s.logs; exts = s.exts; binds = ap (λ (l : List Binding). l ++ bs) s.binds; diags = s.diags }

  sim_unbind : (p : List ℕ) → Sim new t (unbind p a) (unbind p b)
  unfolding unbind
  sim_unbind p =
      record {
        logs = s.logs;
        exts = s.exts;
        binds = ap (λ (l : List Def). without l a.binds) (like_live s.logs p)
            ∙ ap (λ (l : List Binding). without (live p b.defs) l) s.binds;
        diags = s.diags;
      }

  sim_apart : Sim new false (apart a) (apart b)
  unfolding apart
  sim_apart = record { logs = equal; exts = refl; binds = s.binds; diags = s.diags }

  -- the rest of the run after a body with a log of its own
  sim_dropped : {u v : State} → Sim new false u v → Sim new t (dropped a u) (dropped b v)
  unfolding dropped
  sim_dropped r = record { logs = s.logs; exts = s.exts; binds = r.binds; diags = r.diags }

  sim_extended : {u v : State} (target : Target) (span name_span : Span) → Sim new false u v
      → Sim new t (extended (record { target = target; body = u.defs; span = span; name_span = name_span }) a u)
      (extended (record { target = target; body = v.defs; span = span; name_span = name_span }) b v)
  unfolding extended
  sim_extended {u} {v} target span name_span r =
      record {
        logs = s.logs;
        exts = cc (s.exts, r.exts, like_equal r.logs);
        binds = r.binds;
        diags = r.diags;
      }

  -- references lead to the same place
  same_live_at : (p : List ℕ) → live_at p a.defs ≡ live_at p b.defs
  same_live_at p = ap (by_lookup p) (lookup_same p a.defs b.defs (like_live s.logs))

  same_below : (l p : List ℕ) (o : Option (List ℕ)) → below_label l p o a.defs ≡ below_label l p o b.defs
  same_below l p (some base) = same_live_at (join base p)
  same_below l p none = refl

  pub same_resolve : (x : Target) → resolve x a.binds a.defs ≡ resolve x b.binds b.defs
  unfolding resolve
  same_resolve (label l) = rw s.binds refl
  same_resolve (label_path l p) = rw s.binds (same_below l p (first_binding l b.binds))
  same_resolve (path p) = same_live_at p
  same_resolve unreadable = refl

  same_unresolved : (r : Tree) (code : ℕ) (text : List ℕ) → unresolved r code text a.defs ≡ unresolved r code text b.defs
  same_unresolved r code text = rw (like_overlay s.logs) refl

  same_resolution : (r : Tree) (x : Target) (o : Resolution) → by_resolution r x a.defs o ≡ by_resolution r x b.defs o
  same_resolution r x (reaches p) = refl
  same_resolution r x (missing code text) = rw (same_unresolved r code text) refl

  same_target : (r : Tree) (ds : List Diag) (o : Option Target) → by_target r ds o a ≡ by_target r ds o b
  same_target r ds (some x) = rw (same_resolve x) (same_resolution r x (resolve x b.binds b.defs))
  same_target r ds none = refl

  same_parts : (parent : List ℕ) (parts : Trees) (span : Span) (o : Option Tree)
      → by_parts parent parts span a o ≡ by_parts parent parts span b o
  same_parts parent parts span (some r) = same_target r (lower_phandle r).reports (lower_phandle r).result
  same_parts parent parts span none = refl

  -- and nodes go to the same place
  pub same_place : (parent : List ℕ) (parts : Trees) (span : Span) → place_of parent parts span a ≡ place_of parent parts span b
  unfolding place_of
  same_place parent parts span = same_parts parent parts (node_name_span parts span) (first_of reference_kind parts)

-- a choice by the same test
sim_cond : {new : List ℕ} {t : Bool} {a b c d : State} (q : Bool) → Sim new t a b → Sim new t c d → Sim new t (cond q a c) (cond q b d)
sim_cond true x y = x
sim_cond false x y = y

-- a way to lower a body that keeps two such states so
abbrev pub Keeps : List ℕ → (List ℕ → State → State) → Type 0
Keeps new body = (p : List ℕ) (t : Bool) (a b : State) → Sim new t a b → Sim new t (body p a) (body p b)

-- a node's definition and bindings
pub sim_opened : {new : List ℕ} {t : Bool} {a b : State} → Sim new t a b → (p : List ℕ) (parts : Trees) (span : Span)
    → Sim new t (opened p parts span a) (opened p parts span b)
unfolding opened
sim_opened s p parts span =
    sim_define (sim_bind (sim_emit s (labels_of p parts).reports) (labels_of p parts).made) (node_def p parts span)

module _ {new : List ℕ} {t : Bool} {a b : State} (s : Sim new t a b) where
  -- a body with a log of its own, kept or not
  sim_settled : {u v : State} (x : Target) (ref_span span : Span) → Sim new false u v
      → Sim new t (settled x ref_span span a u) (settled x ref_span span b v)
  sim_settled x ref_span span r =
      rw (like_overlay s.logs) (sim_cond (sets_overlay b.defs) (sim_extended s x span ref_span r) (sim_dropped s r))

  -- a node that goes to a place
  sim_placed : (body : List ℕ → State → State) → Keeps new body → (place : Place) (parts : Trees) (span : Span)
      → Sim new t (lower_placed place parts span body a) (lower_placed place parts span body b)
  sim_placed body k (at p) parts span = k p t _ _ (sim_opened s p parts span)
  sim_placed body k (aside x ref_span) parts span = sim_settled x ref_span span (k root false _ _ (sim_apart s))
  sim_placed body k discarded parts span = sim_dropped s (k root false _ _ (sim_apart s))
  sim_placed body k nowhere parts span = s

  -- a deletion
  sim_delete : (p : List ℕ) (span : Span) → Sim new t (delete_node p span a) (delete_node p span b)
  unfolding delete_node
  sim_delete p span = sim_define (sim_unbind s p) (bare p deleted_node span)

  sim_delete_resolved : (r : Tree) (span : Span) (o : Resolution) → Sim new t (delete_resolved r span o a) (delete_resolved r span o b)
  sim_delete_resolved r span (reaches p) = sim_delete p span
  sim_delete_resolved r span (missing code text) = rw (same_unresolved s r code text) (sim_emit s (unresolved r code text b.defs))

  sim_delete_target : (r : Tree) (span : Span) (ds : List Diag) (o : Option Target)
      → Sim new t (delete_target r span ds o a) (delete_target r span ds o b)
  sim_delete_target r span ds (some x) = rw (same_resolve s x) (sim_delete_resolved r span (resolve x b.binds b.defs))
  sim_delete_target r span ds none = sim_emit s ds

  sim_delete_referenced : (span : Span) (o : Option Tree) → Sim new t (delete_referenced span o a) (delete_referenced span o b)
  sim_delete_referenced span (some r) = sim_delete_target r span (lower_phandle r).reports (lower_phandle r).result
  sim_delete_referenced span none = s

  sim_delete_named : (parent : List ℕ) (parts : Trees) (span : Span) (o : Option (List ℕ))
      → Sim new t (delete_named parent parts span o a) (delete_named parent parts span o b)
  sim_delete_named parent parts span (some name) = sim_delete (join parent name) span
  sim_delete_named parent parts span none = sim_delete_referenced span (first_of reference_kind parts)

  sim_delete_property : (parent : List ℕ) (span : Span) (o : Option Tree)
      → Sim new t (delete_property_named parent span o a) (delete_property_named parent span o b)
  sim_delete_property parent span (some n) = sim_define s _
  sim_delete_property parent span none = s

  -- a property
  sim_named : (level : ℕ) (parent : List ℕ) (parts values : Trees) (span : Span) (o : Option (List ℕ))
      → Sim new t (named_property level parent parts values span o a) (named_property level parent parts values span o b)
  sim_named level parent parts values span (some name) = sim_define s _
  sim_named level parent parts values span none = s

module _ {new : List ℕ} {t : Bool} {a b : State} (s : Sim new t a b) where
  pub sim_node : (body : List ℕ → State → State) → Keeps new body → (parent : List ℕ) (parts : Trees) (span : Span)
      → Sim new t (lower_node parent parts span body a) (lower_node parent parts span body b)
  unfolding lower_node
  sim_node body k parent parts span =
      rw (same_place s parent parts span)
      (sim_placed (sim_emit s (place_of parent parts span b).reports) body k (place_of parent parts span b).place parts span)

  sim_property : (level : ℕ) (parent : List ℕ) (parts values : Trees) (span : Span)
      → Sim new t (lower_property level parent parts values span a) (lower_property level parent parts values span b)
  unfolding lower_property
  sim_property level parent parts values span =
      sim_cond (is_empty parent) (sim_emit s (report 7 [] span ∷ []))
      (sim_named (sim_emit s ((lower_values level values).reports ++ (full_name parts).reports)) level parent parts values span
      (full_name parts).result)

  sim_directive : (w : ℕ) (parent : List ℕ) (parts : Trees) (span : Span)
      → Sim new t (lower_directive w parent parts span a) (lower_directive w parent parts span b)
  unfolding lower_directive lower_delete_node
  sim_directive w parent parts span =
      sim_cond (eqb w 1) (sim_define s (bare parent version span))
      (sim_cond (eqb w 2) (sim_define s (bare parent plugin span))
      (sim_cond (eqb w 3) (sim_emit s (report 2 [] span ∷ []))
      (sim_cond (eqb w 4) (sim_delete_named (sim_emit s (full_name parts).reports) parent parts span (full_name parts).result)
      (sim_cond (eqb w 5) (sim_delete_property s parent span (first_of name_kind parts))
      s))))

  sim_as : (level k w : ℕ) (span : Span) (parts second : Trees) (body : List ℕ → State → State) → Keeps new body → (parent : List ℕ)
      → Sim new t (lower_as level k w span parts second body parent a) (lower_as level k w span parts second body parent b)
  sim_as level k w span parts second body h parent =
      sim_cond (eqb k node_kind) (sim_node body h parent parts span)
      (sim_cond (eqb k property_kind) (sim_property level parent parts second span)
      (sim_cond (eqb k directive_kind) (sim_directive w parent parts span)
      (sim_cond (eqb k preprocessor_kind) (sim_emit s (report 1 [] span ∷ []))
      s)))

-- lowering an item, and the items of a chain
mutual
  unfolding lower_item lower_items

  pub keep : (level : ℕ) (i : Tree) (new parent : List ℕ) (t : Bool) (a b : State) → Sim new t a b
      → Sim new t (lower_item level i parent a) (lower_item level i parent b)
  keep level (tree k text w span parts second) new parent t a b s =
      sim_as s level k w span parts second (λ p u. lower_items level second p u) (λ p t' x y r. keeps level second new p t' x y r) parent

  pub keeps : (level : ℕ) (is : Trees) (new parent : List ℕ) (t : Bool) (a b : State) → Sim new t a b
      → Sim new t (lower_items level is parent a) (lower_items level is parent b)
  keeps level empty new parent t a b s = s
  keeps level (more i is) new parent t a b s = keeps level is new parent t _ _ (keep level i new parent t a b s)
