-- 02, request 5: "A path looks up its exact live node first. Failing that, in a nonempty path of row 9's form, a component without @
-- matches one equal to it before the first @, if any, and exactly one distinct live node path with as many components is taken."
use Rattle.std.specs.Prelude.{ℕ, Bool, not, cond, List, [], ◌∷◌}
use Rattle.paths_numbers.specs.meaning.Text.{same}
use Rattle.paths_numbers.specs.meaning.Lists.{any}
use Rattle.short_paths.specs.meaning.Short.{may_mean, has_components}
use Rattle.definition_log.specs.meaning.Contents.{Def}
use Rattle.queries.specs.meaning.Kind.{is_node}
use Rattle.queries.specs.meaning.Live.{live, contains_node}

-- "Lookup now returns the full path"; "More than one match counts as not found"
pub data LookedUp : Type 0 where
  found : List ℕ → LookedUp
  no_node : LookedUp
  several : LookedUp

-- the paths of the nodes among definitions, where a path passes a test
unfoldable pub node_paths : (List ℕ → Bool) → List Def → List (List ℕ)
node_paths test [] = []
node_paths test (d ∷ ds) = cond (is_node d.value) (cond (test d.path) (d.path ∷ node_paths test ds) (node_paths test ds))
    (node_paths test ds)

-- "exactly one distinct"
unfoldable pub distinct : List (List ℕ) → LookedUp
distinct [] = no_node
distinct (q ∷ qs) = cond (any (λ (r : List ℕ). not (same r q)) qs) several (found q)

unfoldable pub lookup : List ℕ → List Def → LookedUp
lookup p defs =
    cond (contains_node p defs) (found p) (cond (has_components p) (distinct (node_paths (may_mean p) (live [] defs))) no_node)
