-- Lowering never makes less: the counts of records and bytes made do not fall, whatever is lowered.
use Prim.Native.Nat.{ℕ, ◌≤◌}
use mathlib.Core.Bool.{Bool, true, false, cond}
use mathlib.Core.List.{List}
use mathlib.Core.Option.{Option, some, none}
use native.Mathlib.Omega.{arith}
use lib.Dec.{eqb}
use Rattle.paths_numbers.specs.meaning.Text.{is_empty}
use Rattle.paths_numbers.specs.meaning.Path.{root, join}
use Rattle.paths_numbers.specs.meaning.Reference.{Target}
use Rattle.definition_log.specs.meaning.Contents.{Span, Ext, Diag}
use Rattle.making.specs.meaning.State.{State, define, emit, apart, dropped, extended}
use Rattle.queries.specs.meaning.Kind.{sets_overlay}
use Rattle.input.specs.meaning.Tree.{Tree, Trees, tree, empty, more, first_of, node_kind, property_kind, directive_kind, preprocessor_kind}
use Rattle.input.specs.meaning.Tree.{name_kind, reference_kind}
use Rattle.input.specs.meaning.Name.{full_name, labels_of}
use Rattle.input.specs.meaning.Phandle.{lower_phandle}
use Rattle.resolving.specs.meaning.Resolve.{Resolution, reaches, missing, resolve}
use Rattle.items.specs.meaning.Unbind.{unbind}
use Rattle.items.specs.meaning.Lower.{Place, at, aside, discarded, nowhere, place_of, node_def, opened, lower_placed, lower_node}
use Rattle.items.specs.meaning.Lower.{named_property, lower_property, delete_node, delete_resolved, delete_target, delete_referenced}
use Rattle.items.specs.meaning.Lower.{delete_named, lower_delete_node, delete_property_named, lower_directive, lower_as, lower_item}
use Rattle.items.specs.meaning.Lower.{lower_items}
use Rattle.resolving.proofs.Lowers.{Grows, define_grows, bind_grows, emit_grows}

-- from one state to another neither count falls
pub record Above (s t : State) : Type 0 where
  pub records : s.records ≤ t.records
  pub bytes : s.bytes ≤ t.bytes

same_counts : (s : State) → Above s s
same_counts s = record { records = omega arith; bytes = omega arith }

then_above : {s t u : State} → Above s t → Above t u → Above s u
then_above a b = record { records = omega (arith, a.records, b.records); bytes = omega (arith, a.bytes, b.bytes) }

above_if : (t : Bool) {s x y : State} → Above s x → Above s y → Above s (cond t x y)
above_if true a b = a
above_if false a b = b

by_growth : {f : State → State} → Grows f → (s : State) → Above s (f s)
by_growth g s = record { records = g.records s; bytes = g.bytes s }

pub emit_above : (ds : List Diag) (s : State) → Above s (emit ds s)
emit_above ds s = by_growth (emit_grows ds) s

-- bodies with a log of their own
pub dropped_above : {s t : State} → Above (apart s) t → Above s (dropped s t)
unfolding apart dropped
dropped_above a = record { records = a.records; bytes = a.bytes }

pub extended_above : (e : Ext) {s t : State} → Above (apart s) t → Above s (extended e s t)
unfolding apart extended
extended_above e a = record { records = omega (arith, a.records); bytes = omega (arith, a.bytes) }

pub opened_above : (p : List ℕ) (parts : Trees) (span : Span) (s : State) → Above s (opened p parts span s)
unfolding opened
opened_above p parts span s =
    then_above (emit_above (labels_of p parts).reports s)
    (then_above (by_growth (bind_grows (labels_of p parts).made) _) (by_growth (define_grows (node_def p parts span)) _))

-- a node whose body makes no less
module _ (parts : Trees) (span : Span) (body : List ℕ → State → State) (b : (p : List ℕ) (s : State) → Above s (body p s)) where
  pub placed_above : (l : Place) (s : State) → Above s (lower_placed l parts span body s)
  placed_above (at p) s = then_above (opened_above p parts span s) (b p _)
  placed_above (aside t ref_span) s =
      above_if (sets_overlay s.defs) (extended_above _ (b root (apart s))) (dropped_above (b root (apart s)))
  placed_above discarded s = dropped_above (b root (apart s))
  placed_above nowhere s = same_counts s

  pub node_above : (parent : List ℕ) (s : State) → Above s (lower_node parent parts span body s)
  unfolding lower_node
  node_above parent s = then_above (emit_above _ s) (placed_above (place_of parent parts span s).place _)

-- properties and directives
named_above : (level : ℕ) (parent : List ℕ) (parts values : Trees) (span : Span) (n : Option (List ℕ)) (s : State)
    → Above s (named_property level parent parts values span n s)
named_above level parent parts values span (some n) s = by_growth (define_grows _) s
named_above level parent parts values span none s = same_counts s

pub property_above : (level : ℕ) (parent : List ℕ) (parts values : Trees) (span : Span) (s : State)
    → Above s (lower_property level parent parts values span s)
unfolding lower_property
property_above level parent parts values span s =
    above_if (is_empty parent) (emit_above _ s) (then_above (emit_above _ s)
    (named_above level parent parts values span (full_name parts).result _))

delete_above : (p : List ℕ) (span : Span) (s : State) → Above s (delete_node p span s)
unfolding delete_node unbind define
delete_above p span s = record { records = omega arith; bytes = omega arith }

resolved_above : (r : Tree) (span : Span) (l : Resolution) (s : State) → Above s (delete_resolved r span l s)
resolved_above r span (reaches p) s = delete_above p span s
resolved_above r span (missing code text) s = emit_above _ s

target_above : (r : Tree) (span : Span) (ds : List Diag) (t : Option Target) (s : State) → Above s (delete_target r span ds t s)
target_above r span ds (some t) s = resolved_above r span (resolve t s.binds s.defs) s
target_above r span ds none s = emit_above ds s

referenced_above : (span : Span) (r : Option Tree) (s : State) → Above s (delete_referenced span r s)
referenced_above span (some r) s = target_above r span (lower_phandle r).reports (lower_phandle r).result s
referenced_above span none s = same_counts s

deletion_above : (parent : List ℕ) (parts : Trees) (span : Span) (n : Option (List ℕ)) (s : State)
    → Above s (delete_named parent parts span n s)
deletion_above parent parts span (some n) s = delete_above (join parent n) span s
deletion_above parent parts span none s = referenced_above span (first_of reference_kind parts) s

property_deletion_above : (parent : List ℕ) (span : Span) (n : Option Tree) (s : State) → Above s (delete_property_named parent span n s)
property_deletion_above parent span (some n) s = by_growth (define_grows _) s
property_deletion_above parent span none s = same_counts s

pub directive_above : (w : ℕ) (parent : List ℕ) (parts : Trees) (span : Span) (s : State) → Above s (lower_directive w parent parts span s)
unfolding lower_directive lower_delete_node
directive_above w parent parts span s =
    above_if (eqb w 1) (by_growth (define_grows _) s)
    (above_if (eqb w 2) (by_growth (define_grows _) s)
    (above_if (eqb w 3) (emit_above _ s)
    (above_if (eqb w 4) (then_above (emit_above _ s) (deletion_above parent parts span (full_name parts).result _))
    (above_if (eqb w 5) (property_deletion_above parent span (first_of name_kind parts) s)
    (same_counts s)))))

pub as_above : (level k w : ℕ) (span : Span) (parts second : Trees) (body : List ℕ → State → State)
    → ((p : List ℕ) (s : State) → Above s (body p s)) → (parent : List ℕ) (s : State)
    → Above s (lower_as level k w span parts second body parent s)
as_above level k w span parts second body b parent s =
    above_if (eqb k node_kind) (node_above parts span body b parent s)
    (above_if (eqb k property_kind) (property_above level parent parts second span s)
    (above_if (eqb k directive_kind) (directive_above w parent parts span s)
    (above_if (eqb k preprocessor_kind) (emit_above _ s)
    (same_counts s))))

-- items
mutual
  unfolding lower_item lower_items

  item_above : (level : ℕ) (t : Tree) (p : List ℕ) (s : State) → Above s (lower_item level t p s)
  item_above level (tree k text w span parts second) p s = as_above level k w span parts second (λ q u. lower_items level second q u)
      (λ q u. items_above level second q u) p s

  items_above : (level : ℕ) (ts : Trees) (p : List ℕ) (s : State) → Above s (lower_items level ts p s)
  items_above level empty p s = same_counts s
  items_above level (more t ts) p s = then_above (item_above level t p s) (items_above level ts p (lower_item level t p s))

pub item_grows : (level : ℕ) (t : Tree) (p : List ℕ) → Grows (lower_item level t p)
item_grows level t p = record { records = λ s. (item_above level t p s).records; bytes = λ s. (item_above level t p s).bytes }

pub items_grow : (level : ℕ) (ts : Trees) (p : List ℕ) → Grows (lower_items level ts p)
items_grow level ts p = record { records = λ s. (items_above level ts p s).records; bytes = λ s. (items_above level ts p s).bytes }

pub node_grows : (level : ℕ) (parts second : Trees) (span : Span) (p : List ℕ)
    → Grows (λ (s : State). lower_node p parts span (λ (q : List ℕ) (u : State). lower_items level second q u) s)
node_grows level parts second span p =
    record {
      records = λ s. (node_above parts span (λ q u. lower_items level second q u) (λ q u. items_above level second q u) p s).records;
      bytes = λ s. (node_above parts span (λ q u. lower_items level second q u) (λ q u. items_above level second q u) p s).bytes;
    }
