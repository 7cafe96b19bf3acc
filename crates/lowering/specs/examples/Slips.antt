-- One example for each slip that 01 names and that the crates below have not: computed by the checker.
use Rattle.std.specs.Prelude.{ℕ, false, ◌≡◌, refl, List, [], ◌∷◌}
use Rattle.paths_numbers.specs.meaning.Text.{same, is_empty, begins, starts_with}
use Rattle.paths_numbers.specs.meaning.Path.{join, at_or_under, strip}
use Rattle.levels.specs.meaning.Rules.{signed_level}
use Rattle.definition_log.specs.meaning.Contents.{Def, node, deleted_node}
use Rattle.queries.specs.meaning.Kind.{sets_overlay}
use Rattle.paths_numbers.specs.meaning.Lists.{any}
use Rattle.queries.specs.meaning.Live.{live, is_live, gone}
use Rattle.queries.specs.meaning.History.{history, history_from}
use Rattle.input.specs.meaning.Tree.{Tree, Trees, tree, empty, more, first_of, has}
use Rattle.input.specs.meaning.Report.{report}
use Rattle.input.specs.meaning.Name.{name_or_macro, full_name, node_name_span, labels_of}
use Rattle.input.specs.meaning.Phandle.{lower_phandle}
use Rattle.resolving.specs.meaning.Resolve.{resolve, first_binding}
use Rattle.making.specs.meaning.State.{define, bind, emit, apart, dropped, extended}
use Rattle.items.specs.meaning.Unbind.{unbind, without}
use Rattle.items.specs.meaning.Lower.{lowered, lower_item, lower_items, lower_node, lower_directive, lower_delete_node, delete_node}
use Rattle.items.specs.meaning.Lower.{place_of}
use Rattle.items.specs.meaning.Lower.{opened, label_texts}
use Rattle.lowering.specs.examples.Example.{span, part}

-- a node of this name with the label l and these items
abbrev labelled : ℕ → Trees → Tree
labelled name items =
    tree 1 [] 0 (span 1 2) (part 7 [] 1 2 (part 5 (108 ∷ []) 1 2 empty empty) (part 5 (name ∷ []) 1 2 empty empty)) items

-- "removing a label's every binding": / { l: a { }; l: b { }; /delete-node/ a; }; leaves the binding of l to /b
abbrev two_labels : Trees
two_labels =
    more
    (tree 1 [] 0 (span 0 9) (part 10 [] 0 1 empty empty)
    (more (labelled 97 empty) (more (labelled 98 empty) (more (tree 3 [] 4 (span 5 6) (part 5 (97 ∷ []) 5 6 empty empty) empty) empty))))
    empty

pub other_binding_stays : (lowered signed_level two_labels).binds ≡ record { label = 108 ∷ []; path = 47 ∷ 98 ∷ []; span = span 1 2 } ∷ []
unfolding lowered lower_item lower_items lower_node lower_directive lower_delete_node delete_node place_of opened label_texts define bind
    emit unbind
    without labels_of name_or_macro full_name node_name_span first_of has join same is_empty live is_live gone at_or_under strip begins starts_with any
other_binding_stays = refl

-- "treating an extension body as an overlay": /plugin/; &x { &y { }; }; is an overlay, where &x reports nothing, but in its body &y reports
-- code 3
abbrev nested : Trees
nested =
    more (tree 3 [] 2 (span 0 1) empty empty)
    (more
    (tree 1 [] 0 (span 2 9) (part 8 (120 ∷ []) 2 3 empty empty)
    (more (tree 1 [] 0 (span 4 8) (part 8 (121 ∷ []) 4 5 empty empty) empty) empty))
    empty)

pub body_is_no_overlay : (lowered signed_level nested).diags ≡ report 3 (121 ∷ []) (span 4 5) ∷ []
unfolding lowered lower_item lower_items lower_node lower_directive place_of opened label_texts define bind emit apart dropped extended
    labels_of
    name_or_macro full_name node_name_span first_of has join same is_empty lower_phandle resolve first_binding any sets_overlay
body_is_no_overlay = refl

-- a history lists the deletion above that ends it, and not the next
abbrev node_at : List ℕ → Def
node_at p = record { path = p; value = node [] false; span = span 0 0; name_span = span 0 0 }

abbrev gone_at : List ℕ → Def
gone_at p = record { path = p; value = deleted_node; span = span 0 0; name_span = span 0 0 }

pub deletion_above :
    history (47 ∷ 97 ∷ 47 ∷ 98 ∷ []) (node_at (47 ∷ 97 ∷ 47 ∷ 98 ∷ []) ∷ gone_at (47 ∷ 97 ∷ []) ∷ gone_at (47 ∷ []) ∷ [])
    ≡ node_at (47 ∷ 97 ∷ 47 ∷ 98 ∷ []) ∷ gone_at (47 ∷ 97 ∷ []) ∷ []
unfolding history history_from same at_or_under strip begins starts_with
deletion_above = refl
