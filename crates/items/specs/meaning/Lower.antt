-- 01, "Nodes and items": lowering the items of a description (lower_item, lower_dt_node, handle_dts_directive, emit_delete_directive), at
-- the level of the description (02, request 10), which only the values of properties ask for.
use Rattle.std.specs.Prelude.{ℕ, cond, List, [], ◌∷◌, ◌++◌, eqb}
use Rattle.std.proofs.Math.Option.{Option, some, none}
use Rattle.paths_numbers.specs.meaning.Code.{preprocessor, include, subnode_outside, root_inside, property_outside}
use Rattle.paths_numbers.specs.meaning.Text.{same, is_empty}
use Rattle.paths_numbers.specs.meaning.Path.{root, join}
use Rattle.paths_numbers.specs.meaning.Reference.{Target}
use Rattle.definition_log.specs.meaning.Contents.{Span, Def, DefValue, node, property, deleted_node, deleted_property, version, plugin}
use Rattle.definition_log.specs.meaning.Contents.{Binding}
use Rattle.definition_log.specs.meaning.Contents.{Diag}
use Rattle.queries.specs.meaning.Kind.{sets_overlay}
use Rattle.input.specs.meaning.Tree.{Tree, Trees, tree, empty, more, text_of, span_of, first_of, has, node_kind, property_kind}
use Rattle.input.specs.meaning.Tree.{directive_kind}
use Rattle.input.specs.meaning.Tree.{preprocessor_kind, name_kind, reference_kind, slash_kind, omit_kind}
use Rattle.input.specs.meaning.Report.{report}
use Rattle.input.specs.meaning.Name.{full_name, node_name_span, property_name_span, labels_of}
use Rattle.input.specs.meaning.Phandle.{lower_phandle}
use Rattle.resolving.specs.meaning.Resolve.{Resolution, reaches, missing, resolve, unresolved}
use Rattle.input.specs.meaning.Property.{lower_values}
use Rattle.making.specs.meaning.State.{State, start, define, bind, emit, apart, dropped, extended}
use Rattle.items.specs.meaning.Unbind.{unbind}

-- where a node goes: to a path of the log in hand, to a log of its own as what its reference names, to a log of its own that is dropped, or
-- nowhere, and then "nothing below is lowered"
pub data Place : Type 0 where
  at : List ℕ → Place
  aside : Target → Span → Place
  discarded : Place
  nowhere : Place

pub record Placed : Type 0 where
  pub place : Place
  pub reports : List Diag

-- by a reference: where it leads, or aside
abbrev pub by_resolution : Tree → Target → List Def → Resolution → Placed
by_resolution r t defs (reaches p) = record { place = at p; reports = [] }
by_resolution r t defs (missing code text) = record { place = aside t (span_of r); reports = unresolved r code text defs }

abbrev pub by_target : Tree → List Diag → Option Target → State → Placed
by_target r ds (some t) s = by_resolution r t s.defs (resolve t s.binds s.defs)
by_target r ds none s = record { place = nowhere; reports = ds }

-- by a name, which is "/" of a root node: codes 5, "subnode outside a node", and 6, "root inside one"
abbrev pub placed_as : List ℕ → List ℕ → Span → List Diag → Placed
placed_as parent name span ds =
    cond (same name root)
    (cond (is_empty parent) (record { place = at (join parent name); reports = ds })
    (record { place = nowhere; reports = ds ++ report root_inside [] span ∷ [] }))
    (cond (is_empty parent) (record { place = nowhere; reports = ds ++ report subnode_outside [] span ∷ [] })
    (record { place = at (join parent name); reports = ds }))

-- "A node without a name or slash drops its body"
abbrev pub by_name : List ℕ → Trees → Span → List Diag → Option (List ℕ) → Placed
by_name parent parts span ds (some name) = placed_as parent name span ds
by_name parent parts span ds none =
    cond (has slash_kind parts) (placed_as parent root span ds) (record { place = discarded; reports = ds })

-- a reference among the parts decides alone
abbrev pub by_parts : List ℕ → Trees → Span → State → Option Tree → Placed
by_parts parent parts span s (some r) = by_target r (lower_phandle r).reports (lower_phandle r).result s
by_parts parent parts span s none = by_name parent parts span (full_name parts).reports (full_name parts).result

unfoldable pub place_of : List ℕ → Trees → Span → State → Placed
place_of parent parts span s = by_parts parent parts (node_name_span parts span) s (first_of reference_kind parts)

-- the labels of bindings
unfoldable pub label_texts : List Binding → List (List ℕ)
label_texts [] = []
label_texts (b ∷ bs) = b.label ∷ label_texts bs

-- a node's definition at a path
abbrev pub node_def : List ℕ → Trees → Span → Def
node_def p parts span =
    record {
      path = p;
      value = node (label_texts (labels_of p parts).made) (has omit_kind parts);
      span = span;
      name_span = node_name_span parts span;
    }

-- a node at its path, before its body: its labels reported and bound, then its definition
unfoldable pub opened : List ℕ → Trees → Span → State → State
opened p parts span s =
    define (node_def p parts span) (bind (labels_of p parts).made (emit (labels_of p parts).reports s))

-- "kept as an extension only if the log in hand already has a plugin directive, else dropped"
abbrev pub settled : Target → Span → Span → State → State → State
settled t name_span span s u =
    cond (sets_overlay s.defs)
    (extended (record { target = t; body = u.defs; span = span; name_span = name_span }) s u)
    (dropped s u)

-- a node with a way to lower its body under a path
abbrev pub lower_placed : Place → Trees → Span → (List ℕ → State → State) → State → State
lower_placed (at p) parts span body s = body p (opened p parts span s)
lower_placed (aside t ref_span) parts span body s = settled t ref_span span s (body root (apart s))
lower_placed discarded parts span body s = dropped s (body root (apart s))
lower_placed nowhere parts span body s = s

unfoldable pub lower_node : List ℕ → Trees → Span → (List ℕ → State → State) → State → State
lower_node parent parts span body s =
    lower_placed (place_of parent parts span s).place parts span body (emit (place_of parent parts span s).reports s)

-- a property: its values first, then its name; without a name it is dropped
abbrev pub named_property : ℕ → List ℕ → Trees → Trees → Span → Option (List ℕ) → State → State
named_property level parent parts values span (some name) s =
    define
    (record {
      path = join parent name;
      value = property (lower_values level values).made;
      span = span;
      name_span = property_name_span parts span;
    })
    s
named_property level parent parts values span none s = s

unfoldable pub lower_property : ℕ → List ℕ → Trees → Trees → Span → State → State
lower_property level parent parts values span s =
    cond (is_empty parent) (emit (report property_outside [] span ∷ []) s)
    (named_property level parent parts values span (full_name parts).result
    (emit ((lower_values level values).reports ++ (full_name parts).reports) s))

-- a definition that is a directive or a deletion: its name span is its span
abbrev pub bare : List ℕ → DefValue → Span → Def
bare p v span = record { path = p; value = v; span = span; name_span = span }

-- a node deleted: its labels' bindings go, and the deletion is recorded
unfoldable pub delete_node : List ℕ → Span → State → State
delete_node p span s = define (bare p deleted_node span) (unbind p s)

abbrev pub delete_resolved : Tree → Span → Resolution → State → State
delete_resolved r span (reaches p) s = delete_node p span s
delete_resolved r span (missing code text) s = emit (unresolved r code text s.defs) s

abbrev pub delete_target : Tree → Span → List Diag → Option Target → State → State
delete_target r span ds (some t) s = delete_resolved r span (resolve t s.binds s.defs) s
delete_target r span ds none s = emit ds s

abbrev pub delete_referenced : Span → Option Tree → State → State
delete_referenced span (some r) s = delete_target r span (lower_phandle r).reports (lower_phandle r).result s
delete_referenced span none s = s

-- by the name with its unit address, else by the reference
abbrev pub delete_named : List ℕ → Trees → Span → Option (List ℕ) → State → State
delete_named parent parts span (some name) s = delete_node (join parent name) span s
delete_named parent parts span none s = delete_referenced span (first_of reference_kind parts) s

unfoldable pub lower_delete_node : List ℕ → Trees → Span → State → State
lower_delete_node parent parts span s =
    delete_named parent parts span (full_name parts).result (emit (full_name parts).reports s)

-- a property deleted: by the first name
abbrev pub delete_property_named : List ℕ → Span → Option Tree → State → State
delete_property_named parent span (some n) s = define (bare (join parent (text_of n)) deleted_property span) s
delete_property_named parent span none s = s

-- directives by 01's numbers, their W
abbrev pub version_directive : ℕ
version_directive = 1

abbrev pub plugin_directive : ℕ
plugin_directive = 2

abbrev pub include_directive : ℕ
include_directive = 3

abbrev pub delete_node_directive : ℕ
delete_node_directive = 4

abbrev pub delete_property_directive : ℕ
delete_property_directive = 5

-- a directive by its W: an include has code 2, any other but these five does nothing
unfoldable pub lower_directive : ℕ → List ℕ → Trees → Span → State → State
lower_directive w parent parts span s =
    cond (eqb w version_directive) (define (bare parent version span) s)
    (cond (eqb w plugin_directive) (define (bare parent plugin span) s)
    (cond (eqb w include_directive) (emit (report include [] span ∷ []) s)
    (cond (eqb w delete_node_directive) (lower_delete_node parent parts span s)
    (cond (eqb w delete_property_directive) (delete_property_named parent span (first_of name_kind parts) s)
    s))))

-- an item of this kind, W, span, parts and second chain at a level, with a way to lower the second chain as a body
abbrev pub lower_as : ℕ → ℕ → ℕ → Span → Trees → Trees → (List ℕ → State → State) → List ℕ → State → State
lower_as level k w span parts second body parent s =
    cond (eqb k node_kind) (lower_node parent parts span body s)
    (cond (eqb k property_kind) (lower_property level parent parts second span s)
    (cond (eqb k directive_kind) (lower_directive w parent parts span s)
    (cond (eqb k preprocessor_kind) (emit (report preprocessor [] span ∷ []) s)
    s)))

unfoldable mutual
  pub lower_item : ℕ → Tree → List ℕ → State → State
  lower_item level (tree k text w span parts second) parent s =
      lower_as level k w span parts second (λ p u. lower_items level second p u) parent s

  pub lower_items : ℕ → Trees → List ℕ → State → State
  lower_items level empty parent s = s
  lower_items level (more t ts) parent s = lower_items level ts parent (lower_item level t parent s)

-- a whole description: its top items, parent path empty
unfoldable pub lowered : ℕ → Trees → State
lowered level items = lower_items level items [] start
