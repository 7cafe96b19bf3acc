-- 02, request 5, in its smallest cases: the checker computes which node a path finds.
use Rattle.std.specs.Prelude.{ℕ, ◌≡◌, refl, false, List, [], ◌∷◌, ◌++◌}
use Rattle.paths_numbers.specs.meaning.Text.{same, is_empty, begins, starts_with}
use Rattle.paths_numbers.specs.meaning.Lists.{any}
use Rattle.paths_numbers.specs.meaning.Path.{at_or_under, strip, good_path, components}
use Rattle.short_paths.specs.meaning.Short.{before_at, component_matches, split, all_match, may_mean, has_components}
use Rattle.definition_log.specs.meaning.Contents.{Span, DefValue, node, property, deleted_node, Def}
use Rattle.queries.specs.meaning.Live.{live, is_live, gone, contains_node}
use Rattle.queries.specs.meaning.Lookup.{LookedUp, found, no_node, several, node_paths, distinct, lookup}

-- a look-up, with all that it computes through
unfoldable computed : List ℕ → List Def → LookedUp
unfolding lookup node_paths distinct contains_node live is_live gone at_or_under strip begins starts_with any same is_empty has_components
    good_path
    components may_mean all_match split component_matches before_at
computed p defs = lookup p defs

-- definitions, of which only kind and path matter
abbrev no : Span
no = record { from = 0; to = 0 }

abbrev of : DefValue → List ℕ → Def
of value path = record { path = path; value = value; span = no; name_span = no }

abbrev made : List ℕ → Def
made path = of (node [] false) path

abbrev deleted : List ℕ → Def
deleted path = of deleted_node path

-- "/a", "/a@1", "/a@2", "/a@1/b", "/a/b"
abbrev a : List ℕ
a = 47 ∷ 97 ∷ []

abbrev a1 : List ℕ
a1 = a ++ 64 ∷ 49 ∷ []

abbrev a2 : List ℕ
a2 = a ++ 64 ∷ 50 ∷ []

abbrev below : List ℕ → List ℕ
below p = p ++ 47 ∷ 98 ∷ []

-- one path is taken, however often it is defined; of two none is
pub one_path : (lookup a (made a1 ∷ []) ≡ found a1) × (lookup a (made a1 ∷ made a1 ∷ []) ≡ found a1)
    × (lookup a (made a1 ∷ made a2 ∷ []) ≡ several) × (lookup a [] ≡ no_node)
unfolding computed
one_path = (refl, refl, refl, refl)

-- the exact node first
pub exact_first : (lookup a (made a1 ∷ made a2 ∷ made a ∷ []) ≡ found a) × (lookup a2 (made a1 ∷ made a2 ∷ []) ≡ found a2)
unfolding computed
exact_first = (refl, refl)

-- live nodes alone
pub live_alone : (lookup a (made a1 ∷ made a2 ∷ deleted a1 ∷ []) ≡ found a2) × (lookup a (made a1 ∷ deleted a1 ∷ []) ≡ no_node)
    × (lookup a (of (property []) a1 ∷ []) ≡ no_node)
unfolding computed
live_alone = (refl, refl, refl)

-- whole paths are counted: with /a and /a@1/b, /a/b is /a@1/b; with /a@1/b and /a@2, so it is, while /a may mean two
pub whole_counted : (lookup (below a) (made a ∷ made (below a1) ∷ []) ≡ found (below a1))
    × (lookup (below a) (made a1 ∷ made (below a1) ∷ made a2 ∷ []) ≡ found (below a1))
    × (lookup a (made a1 ∷ made (below a1) ∷ made a2 ∷ []) ≡ several)
unfolding computed
whole_counted = (refl, refl, refl)
