-- What a state holds is counted: lowering never holds more records or bytes than it counts more. Dropped bodies and removed bindings are
-- counted and not held.
use Prim.Native.Nat.{ℕ, ◌+◌, ◌≤◌}
use mathlib.Core.Path.{◌≡◌}
use mathlib.Core.Bool.{Bool, true, false, cond}
use mathlib.Core.List.{List, [], ◌∷◌, ◌++◌}
use mathlib.Core.Option.{Option, some, none}
use native.Mathlib.Omega.{arith}
use lib.Dec.{eqb}
use lib.ListN.{length, length-append}
use Rattle.paths_numbers.specs.meaning.Text.{is_empty}
use Rattle.paths_numbers.specs.meaning.Path.{root, join}
use Rattle.paths_numbers.specs.meaning.Reference.{Target}
use Rattle.paths_numbers.proofs.Texts.{by_test}
use Rattle.definition_log.specs.meaning.Contents.{Span, Def, Ext, Binding, Diag}
use Rattle.making.specs.meaning.State.{State, start, part_records, part_bytes, bindings_bytes, diags_bytes, define, bind, emit, apart}
use Rattle.making.specs.meaning.State.{dropped}
use Rattle.making.specs.meaning.State.{extended}
use Rattle.queries.specs.meaning.Kind.{sets_overlay}
use Rattle.paths_numbers.specs.meaning.Lists.{any}
use Rattle.queries.specs.meaning.Live.{live}
use Rattle.input.specs.meaning.Tree.{Tree, Trees, tree, empty, more, first_of, node_kind, property_kind, directive_kind, preprocessor_kind}
use Rattle.input.specs.meaning.Tree.{name_kind, reference_kind}
use Rattle.input.specs.meaning.Name.{full_name, labels_of}
use Rattle.input.specs.meaning.Phandle.{lower_phandle}
use Rattle.resolving.specs.meaning.Resolve.{Resolution, reaches, missing, resolve}
use Rattle.items.specs.meaning.Unbind.{binds_label_of, without, unbind}
use Rattle.items.specs.meaning.Lower.{Place, at, aside, discarded, nowhere, place_of, node_def, opened, lower_placed, lower_node}
use Rattle.items.specs.meaning.Lower.{named_property}
use Rattle.items.specs.meaning.Lower.{lower_property, delete_node, delete_resolved, delete_target, delete_referenced, delete_named}
use Rattle.items.specs.meaning.Lower.{lower_delete_node, delete_property_named, lower_directive, lower_as, lower_item, lower_items, lowered}
use Rattle.items.proofs.Labelled.{diags_append}

-- the records and bytes of definitions and their parts
unfoldable pub defs_records : List Def → ℕ
defs_records [] = 0
defs_records (d ∷ ds) = 1 + part_records d.value + defs_records ds

unfoldable pub defs_bytes : List Def → ℕ
defs_bytes [] = 0
defs_bytes (d ∷ ds) = length d.path + part_bytes d.value + defs_bytes ds

-- those that are printed of a state
abbrev pub held_records : State → ℕ
held_records s = defs_records s.defs + length s.binds + length s.diags

abbrev pub held_bytes : State → ℕ
held_bytes s = defs_bytes s.defs + bindings_bytes s.binds + diags_bytes s.diags

-- from one state to another no more is held than counted
record Counted (s t : State) : Type 0 where
  records : s.records + held_records t ≤ t.records + held_records s
  bytes : s.bytes + held_bytes t ≤ t.bytes + held_bytes s

nothing_more : (s : State) → Counted s s
nothing_more s = record { records = omega arith; bytes = omega arith }

then_counted : {s t u : State} → Counted s t → Counted t u → Counted s u
then_counted a b = record { records = omega (arith, a.records, b.records); bytes = omega (arith, a.bytes, b.bytes) }

counted_if : (t : Bool) {s x y : State} → Counted s x → Counted s y → Counted s (cond t x y)
counted_if true a b = a
counted_if false a b = b

-- what one step adds
defs_records_lem : (a b : List Def) → defs_records (a ++ b) ≡ defs_records a + defs_records b
unfolding defs_records
defs_records_lem [] b = omega arith
defs_records_lem (d ∷ a) b = omega (arith, defs_records_lem a b)

defs_bytes_lem : (a b : List Def) → defs_bytes (a ++ b) ≡ defs_bytes a + defs_bytes b
unfolding defs_bytes
defs_bytes_lem [] b = omega arith
defs_bytes_lem (d ∷ a) b = omega (arith, defs_bytes_lem a b)

bindings_bytes_lem : (a b : List Binding) → bindings_bytes (a ++ b) ≡ bindings_bytes a + bindings_bytes b
unfolding bindings_bytes
bindings_bytes_lem [] b = omega arith
bindings_bytes_lem (x ∷ a) b = omega (arith, bindings_bytes_lem a b)

define_counted : (d : Def) (s : State) → Counted s (define d s)
unfolding define defs_records defs_bytes
define_counted d s =
    record { records = omega (arith, defs_records_lem s.defs (d ∷ [])); bytes = omega (arith, defs_bytes_lem s.defs (d ∷ [])) }

bind_counted : (bs : List Binding) (s : State) → Counted s (bind bs s)
unfolding bind
bind_counted bs s =
    record { records = omega (arith, length-append s.binds bs); bytes = omega (arith, bindings_bytes_lem s.binds bs) }

emit_counted : (ds : List Diag) (s : State) → Counted s (emit ds s)
unfolding emit
emit_counted ds s =
    record { records = omega (arith, length-append s.diags ds); bytes = omega (arith, diags_append s.diags ds) }

-- bindings removed
without_records : (ds : List Def) (bs : List Binding) → length (without ds bs) ≤ length bs
unfolding without
without_records ds [] = omega arith
without_records ds (b ∷ bs) =
    by_test (any (binds_label_of b) ds)
    (λ t. rw t (omega (arith, without_records ds bs)))
    (λ t. rw t (omega (arith, without_records ds bs)))

without_bytes : (ds : List Def) (bs : List Binding) → bindings_bytes (without ds bs) ≤ bindings_bytes bs
unfolding without bindings_bytes
without_bytes ds [] = omega arith
without_bytes ds (b ∷ bs) =
    by_test (any (binds_label_of b) ds)
    (λ t. rw t (omega (arith, without_bytes ds bs)))
    (λ t. rw t (omega (arith, without_bytes ds bs)))

unbind_counted : (p : List ℕ) (s : State) → Counted s (unbind p s)
unfolding unbind
unbind_counted p s =
    record {
      records = omega (arith, without_records (live p s.defs) s.binds);
      bytes = omega (arith, without_bytes (live p s.defs) s.binds);
    }

-- bodies with a log of their own
dropped_counted : {s t : State} → Counted (apart s) t → Counted s (dropped s t)
unfolding apart dropped defs_records defs_bytes
dropped_counted a = record { records = omega (arith, a.records); bytes = omega (arith, a.bytes) }

extended_counted : (e : Ext) {s t : State} → Counted (apart s) t → Counted s (extended e s t)
unfolding apart extended defs_records defs_bytes
extended_counted e a = record { records = omega (arith, a.records); bytes = omega (arith, a.bytes) }

opened_counted : (p : List ℕ) (parts : Trees) (span : Span) (s : State) → Counted s (opened p parts span s)
unfolding opened
opened_counted p parts span s =
    then_counted (emit_counted (labels_of p parts).reports s)
    (then_counted (bind_counted (labels_of p parts).made _) (define_counted (node_def p parts span) _))

-- a node whose body holds no more than it counts
module _ (parts : Trees) (span : Span) (body : List ℕ → State → State) (b : (p : List ℕ) (s : State) → Counted s (body p s)) where
  placed_counted : (l : Place) (s : State) → Counted s (lower_placed l parts span body s)
  placed_counted (at p) s = then_counted (opened_counted p parts span s) (b p _)
  placed_counted (aside t ref_span) s =
      counted_if (sets_overlay s.defs) (extended_counted _ (b root (apart s))) (dropped_counted (b root (apart s)))
  placed_counted discarded s = dropped_counted (b root (apart s))
  placed_counted nowhere s = nothing_more s

  node_counted : (parent : List ℕ) (s : State) → Counted s (lower_node parent parts span body s)
  unfolding lower_node
  node_counted parent s = then_counted (emit_counted _ s) (placed_counted (place_of parent parts span s).place _)

-- properties and directives
named_counted : (level : ℕ) (parent : List ℕ) (parts values : Trees) (span : Span) (n : Option (List ℕ)) (s : State)
    → Counted s (named_property level parent parts values span n s)
named_counted level parent parts values span (some n) s = define_counted _ s
named_counted level parent parts values span none s = nothing_more s

property_counted : (level : ℕ) (parent : List ℕ) (parts values : Trees) (span : Span) (s : State)
    → Counted s (lower_property level parent parts values span s)
unfolding lower_property
property_counted level parent parts values span s =
    counted_if (is_empty parent) (emit_counted _ s) (then_counted (emit_counted _ s)
    (named_counted level parent parts values span (full_name parts).result _))

delete_counted : (p : List ℕ) (span : Span) (s : State) → Counted s (delete_node p span s)
unfolding delete_node
delete_counted p span s = then_counted (unbind_counted p s) (define_counted _ (unbind p s))

resolved_counted : (r : Tree) (span : Span) (l : Resolution) (s : State) → Counted s (delete_resolved r span l s)
resolved_counted r span (reaches p) s = delete_counted p span s
resolved_counted r span (missing code text) s = emit_counted _ s

target_counted : (r : Tree) (span : Span) (ds : List Diag) (t : Option Target) (s : State) → Counted s (delete_target r span ds t s)
target_counted r span ds (some t) s = resolved_counted r span (resolve t s.binds s.defs) s
target_counted r span ds none s = emit_counted ds s

referenced_counted : (span : Span) (r : Option Tree) (s : State) → Counted s (delete_referenced span r s)
referenced_counted span (some r) s = target_counted r span (lower_phandle r).reports (lower_phandle r).result s
referenced_counted span none s = nothing_more s

deletion_counted : (parent : List ℕ) (parts : Trees) (span : Span) (n : Option (List ℕ)) (s : State)
    → Counted s (delete_named parent parts span n s)
deletion_counted parent parts span (some n) s = delete_counted (join parent n) span s
deletion_counted parent parts span none s = referenced_counted span (first_of reference_kind parts) s

property_deletion_counted : (parent : List ℕ) (span : Span) (n : Option Tree) (s : State) → Counted s (delete_property_named parent span n s)
property_deletion_counted parent span (some n) s = define_counted _ s
property_deletion_counted parent span none s = nothing_more s

directive_counted : (w : ℕ) (parent : List ℕ) (parts : Trees) (span : Span) (s : State) → Counted s (lower_directive w parent parts span s)
unfolding lower_directive lower_delete_node
directive_counted w parent parts span s =
    counted_if (eqb w 1) (define_counted _ s)
    (counted_if (eqb w 2) (define_counted _ s)
    (counted_if (eqb w 3) (emit_counted _ s)
    (counted_if (eqb w 4) (then_counted (emit_counted _ s) (deletion_counted parent parts span (full_name parts).result _))
    (counted_if (eqb w 5) (property_deletion_counted parent span (first_of name_kind parts) s)
    (nothing_more s)))))

as_counted : (level k w : ℕ) (span : Span) (parts second : Trees) (body : List ℕ → State → State)
    → ((p : List ℕ) (s : State) → Counted s (body p s)) → (parent : List ℕ) (s : State)
    → Counted s (lower_as level k w span parts second body parent s)
as_counted level k w span parts second body b parent s =
    counted_if (eqb k node_kind) (node_counted parts span body b parent s)
    (counted_if (eqb k property_kind) (property_counted level parent parts second span s)
    (counted_if (eqb k directive_kind) (directive_counted w parent parts span s)
    (counted_if (eqb k preprocessor_kind) (emit_counted _ s)
    (nothing_more s))))

-- items
mutual
  unfolding lower_item lower_items

  item_counted : (level : ℕ) (t : Tree) (p : List ℕ) (s : State) → Counted s (lower_item level t p s)
  item_counted level (tree k text w span parts second) p s = as_counted level k w span parts second (λ q u. lower_items level second q u)
      (λ q u. items_counted level second q u) p s

  items_counted : (level : ℕ) (ts : Trees) (p : List ℕ) (s : State) → Counted s (lower_items level ts p s)
  items_counted level empty p s = nothing_more s
  items_counted level (more t ts) p s = then_counted (item_counted level t p s) (items_counted level ts p (lower_item level t p s))

-- a whole description: record 0 is counted and not held
pub lowered_records : (level : ℕ) (items : Trees) → 1 + held_records (lowered level items) ≤ (lowered level items).records
unfolding lowered defs_records
lowered_records level items = omega (arith, (items_counted level items [] start).records)

pub lowered_bytes : (level : ℕ) (items : Trees) → held_bytes (lowered level items) ≤ (lowered level items).bytes
unfolding lowered defs_bytes bindings_bytes diags_bytes
lowered_bytes level items = omega (arith, (items_counted level items [] start).bytes)
