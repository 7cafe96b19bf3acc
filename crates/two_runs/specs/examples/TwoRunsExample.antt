-- An instance of demand 3's premises that is not the easy one: the two stand in a node that a reference without its unit address reopened,
-- before a node of the same path is made, the new subnode has a labelled node and a property in it, a later deletion and re-creation
-- follow, and so does a reference without addresses to what was made again. And one where the two stand in a body that is not lowered.
use Rattle.std.specs.Prelude.{ℕ, true, ◌≡◌, refl, List, [], ◌∷◌}
use Rattle.levels.specs.meaning.Rules.{signed_level}
use Rattle.paths_numbers.specs.meaning.Text.{same, is_empty, begins, starts_with}
use Rattle.paths_numbers.specs.meaning.Path.{join, with_unit, joined, at_or_under, strip, good_path, components}
use Rattle.paths_numbers.specs.meaning.Reference.{target, is_braced, inner_text, in_braces, has_slash, before_slash, behind_slash}
use Rattle.short_paths.specs.meaning.Short.{has_components, may_mean, all_match, split, component_matches, before_at}
use Rattle.queries.specs.meaning.Kind.{sets_overlay}
use Rattle.paths_numbers.specs.meaning.Lists.{any}
use Rattle.queries.specs.meaning.Live.{live, is_live, gone, contains_node}
use Rattle.queries.specs.meaning.Lookup.{lookup, node_paths, distinct}
use Rattle.input.specs.meaning.Tree.{Tree, Trees, tree, empty, more, first_of, has}
use Rattle.input.specs.meaning.Name.{name_or_macro, full_name, node_name_span, property_name_span, labels_of}
use Rattle.input.specs.meaning.Phandle.{lower_phandle}
use Rattle.resolving.specs.meaning.Resolve.{resolve, first_binding}
use Rattle.input.specs.meaning.Property.{lower_values}
use Rattle.making.specs.meaning.State.{State, start, define, bind, emit}
use Rattle.items.specs.meaning.Unbind.{without, unbind}
use Rattle.items.specs.meaning.Lower.{lowered, lower_item, lower_items, lower_node, lower_property, lower_directive, lower_delete_node}
use Rattle.items.specs.meaning.Lower.{delete_node}
use Rattle.items.specs.meaning.Lower.{place_of, opened, label_texts}
use Rattle.two_runs.specs.meaning.TwoRuns.{plain_name, quiet_directive, quiet, quiet_in, Pair, Inserted, here, after, within}
use Rattle.two_runs.specs.meaning.TwoRuns.{unlowered}
use Rattle.input.specs.meaning.GoodName.{good_names, good_names_in}
use Rattle.lowering.specs.examples.Example.{span, part}

-- what lowering makes of a description, with all that it computes through: the examples unfold this one
unfoldable pub computed_state : ℕ → Trees → State
unfolding lowered lower_item lower_items lower_node lower_property lower_directive lower_delete_node delete_node place_of opened label_texts
    define
    bind emit unbind without labels_of name_or_macro full_name node_name_span property_name_span first_of has join same is_empty lower_phandle resolve
    first_binding lower_values live is_live gone contains_node at_or_under strip begins starts_with any sets_overlay with_unit joined target is_braced
    inner_text in_braces has_slash before_slash behind_slash lookup node_paths distinct has_components good_path components may_mean all_match split
    component_matches before_at
computed_state level items = lowered level items

-- a node of this name and label with these items
abbrev pub node_named : ℕ → Trees → Trees → Tree
node_named name labels items = tree 1 [] 0 (span 20 30) (part 5 (name ∷ []) 20 21 empty labels) items

-- the deletion of a node by name
abbrev pub deletion_of : ℕ → Tree
deletion_of name = tree 3 [] 4 (span 40 50) (part 5 (name ∷ []) 45 46 empty empty) empty

-- l: c { p; } in a new node b, with a deletion of p in it that has a reference beside the name; and the deletion of b
abbrev pub subnode : Tree
subnode =
    node_named 98 empty
    (more
    (node_named 99 (part 7 [] 20 21 (part 5 (108 ∷ []) 20 21 empty empty) empty)
    (more (tree 2 [] 0 (span 24 26) (part 5 (112 ∷ []) 24 25 empty empty) empty)
    (more (tree 3 [] 5 (span 26 28) (part 5 (112 ∷ []) 26 27 empty (part 8 (108 ∷ []) 27 28 empty empty)) empty) empty)))
    empty)

abbrev pub deletion : Tree
deletion = deletion_of 98

-- b made, deleted and made again, after the two
abbrev pub rest : Trees
rest = more (node_named 98 empty empty) (more (deletion_of 98) (more (node_named 98 empty empty) empty))

-- / { x@1 { }; };
abbrev root : Tree
root =
    tree 1 [] 0 (span 0 9) (part 10 [] 0 1 empty empty)
    (more (node_named 120 (part 6 [] 3 5 (part 5 (49 ∷ []) 4 5 empty empty) empty) empty) empty)

-- &{/x} and &{/x/b}
abbrev reference : List ℕ → Trees
reference text = more (tree 8 text 1 (span 10 12) empty empty) empty

abbrev pub short : Trees
short = reference (38 ∷ 123 ∷ 47 ∷ 120 ∷ 125 ∷ [])

abbrev pub short_below : Trees
short_below = reference (38 ∷ 123 ∷ 47 ∷ 120 ∷ 47 ∷ 98 ∷ 125 ∷ [])

-- / { x@1 { }; }; &{/x} { body }; &{/x/b} { }; of which the body is the rest, or the two and the rest
abbrev pub whole : Trees → Trees
whole body = more root (more (tree 1 [] 0 (span 10 60) short body) (more (tree 1 [] 0 (span 70 80) short_below empty) empty))

-- "/x@1/b"
abbrev pub new_path : List ℕ
new_path = 47 ∷ 120 ∷ 64 ∷ 49 ∷ 47 ∷ 98 ∷ []

-- the state in which run B comes to the two
abbrev pub before : State
before = opened (47 ∷ 120 ∷ 64 ∷ 49 ∷ []) short (span 10 60) (emit [] (lower_item signed_level root [] start))

pair : Pair signed_level new_path (47 ∷ 120 ∷ 64 ∷ 49 ∷ []) before subnode deletion
unfolding computed_state quiet quiet_in plain_name quiet_directive
pair =
    record {
      in_body = refl;
      subnode = refl;
      new_path = record { name = 98 ∷ []; named = refl; path = refl };
      deletion = refl;
      deletes_node = refl;
      same_path = record { name = 98 ∷ []; named = refl; path = refl };
      quiet_node = refl;
      quiet_deletion = refl;
      silent = refl;
      nothing_live = refl;
      nothing_bound = refl;
    }

pub inserted : Inserted signed_level new_path [] start (whole rest) (whole (more subnode (more deletion rest)))
unfolding computed_state
inserted = after (within {p = 47 ∷ 120 ∷ 64 ∷ 49 ∷ []} refl (here pair))

-- both references lead somewhere: nothing is reported
pub taken : (lowered signed_level (whole rest)).diags ≡ []
unfolding computed_state
taken = refl

pub good : good_names_in (whole (more subnode (more deletion rest))) ≡ true
unfolding good_names good_names_in any
good = refl

-- the two in a body that is not lowered: a node with a name at the top, code 5
pub inserted_nowhere : Inserted signed_level new_path [] start (more (node_named 120 empty empty) empty)
    (more (node_named 120 empty (more subnode (more deletion empty))) empty)
unfolding computed_state
inserted_nowhere = unlowered refl
