-- 01, "Liveness": what of a log is live under a base. A log is the list of its definitions in the order in which they were made.
use Rattle.std.specs.Prelude.{ℕ, Bool, true, false, not, cond, List, [], ◌∷◌, ◌++◌}
use Rattle.paths_numbers.specs.meaning.Text.{same}
use Rattle.paths_numbers.specs.meaning.Path.{at_or_under}
use Rattle.definition_log.specs.meaning.Contents.{Def}
use Rattle.queries.specs.meaning.Kind.{is_node, is_property, is_deleted_node, is_deletion, is_of_property}
use Rattle.paths_numbers.specs.meaning.Lists.{any}

-- a deleted node at or above a path
abbrev pub deletes : List ℕ → Def → Bool
deletes path d = cond (is_deleted_node d.value) (at_or_under path d.path) false

-- a property or deleted property with a path
abbrev pub overwrites : List ℕ → Def → Bool
overwrites path d = cond (is_of_property d.value) (same d.path path) false

-- "no later deleted node at or above its path and, if a property, no later property or deleted property with its path"
unfoldable pub gone : Def → List Def → Bool
gone d later = cond (any (deletes d.path) later) true (cond (is_property d.value) (any (overwrites d.path) later) false)

-- "a definition that isn't a deletion, lies at or under B", and is not gone by what comes later
unfoldable pub is_live : List ℕ → Def → List Def → Bool
is_live base d later = cond (is_deletion d.value) false (cond (at_or_under d.path base) (not (gone d later)) false)

-- "Under base B, latest first"
unfoldable pub live : List ℕ → List Def → List Def
live base [] = []
live base (d ∷ later) = live base later ++ cond (is_live base d later) (d ∷ []) []

-- a node at a path
abbrev pub node_at : List ℕ → Def → Bool
node_at path d = cond (is_node d.value) (same d.path path) false

-- "a live node at the path" (contains_node)
unfoldable pub contains_node : List ℕ → List Def → Bool
contains_node path defs = any (node_at path) (live path defs)
