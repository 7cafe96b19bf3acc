-- 01's worked listing, computed by the checker: a version directive, and a root node with the node b, labelled a, in it.
use Rattle.std.specs.Prelude.{ℕ, false, ◌≡◌, refl, List, [], ◌∷◌}
use Rattle.paths_numbers.specs.meaning.Text.{same, is_empty, begins, starts_with}
use Rattle.paths_numbers.specs.meaning.Path.{join, at_or_under, strip}
use Rattle.levels.specs.meaning.Rules.{signed_level}
use Rattle.definition_log.specs.meaning.Contents.{Span, node, version}
use Rattle.queries.specs.meaning.Kind.{sets_overlay}
use Rattle.paths_numbers.specs.meaning.Lists.{any}
use Rattle.queries.specs.meaning.Live.{live, is_live, gone}
use Rattle.input.specs.meaning.Tree.{Trees, tree, empty, more, first_of, has}
use Rattle.input.specs.meaning.Name.{name_or_macro, full_name, node_name_span, labels_of}
use Rattle.making.specs.meaning.State.{define, bind, emit}
use Rattle.items.specs.meaning.Lower.{lowered, lower_item, lower_items, lower_node, lower_directive, place_of, opened, label_texts}
use Rattle.post_checks.specs.meaning.Post.{post_checks, check_directives, directives_from, check_references, check_defs, duplicate_labels}
use Rattle.post_checks.specs.meaning.Post.{duplicates_of}

abbrev pub span : ℕ → ℕ → Span
span a b = record { from = a; to = b }

abbrev pub part : ℕ → List ℕ → ℕ → ℕ → Trees → Trees → Trees
part k text a b children rest = more (tree k text 0 (span a b) children empty) rest

abbrev pub items : Trees
items =
    more (tree 3 [] 1 (span 0 9) empty empty)
    (more
    (tree 1 [] 0 (span 10 26) (part 10 [] 10 11 empty empty)
    (more
    (tree 1 [] 0 (span 14 23)
    (part 7 [] 14 16 (part 5 (97 ∷ []) 14 15 empty empty) (part 5 (98 ∷ []) 17 18 empty empty))
    empty)
    empty))
    empty)

pub listed : (lowered signed_level items).defs ≡
    record { path = []; value = version; span = span 0 9; name_span = span 0 9 }
    ∷ record { path = 47 ∷ []; value = node [] false; span = span 10 26; name_span = span 10 11 }
    ∷ record { path = 47 ∷ 98 ∷ []; value = node ((97 ∷ []) ∷ []) false; span = span 14 23; name_span = span 17 18 }
    ∷ []
unfolding lowered lower_item lower_items lower_node lower_directive place_of opened label_texts define bind emit labels_of name_or_macro
    full_name
    node_name_span first_of has join same is_empty
listed = refl

pub bound : (lowered signed_level items).binds ≡ record { label = 97 ∷ []; path = 47 ∷ 98 ∷ []; span = span 14 16 } ∷ []
unfolding lowered lower_item lower_items lower_node lower_directive place_of opened label_texts define bind emit labels_of name_or_macro
    full_name
    node_name_span first_of has join same is_empty
bound = refl

pub checked : post_checks (lowered signed_level items) ≡ []
unfolding lowered lower_item lower_items lower_node lower_directive place_of opened label_texts define bind emit labels_of name_or_macro
    full_name
    node_name_span first_of has join same is_empty post_checks check_directives directives_from check_references check_defs duplicate_labels
    duplicates_of any sets_overlay live is_live gone at_or_under strip begins starts_with
checked = refl
