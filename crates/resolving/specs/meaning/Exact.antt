-- 02, request 5: what stayed. Without unit addresses a path leads where 01's rule led it.
use Rattle.std.specs.Prelude.{ℕ, ◌≡◌, Bool, false, cond, List, []}
use Rattle.paths_numbers.specs.meaning.Code.{node_not_found}
use Rattle.paths_numbers.specs.meaning.Lists.{any}
use Rattle.short_paths.specs.meaning.Short.{has_at}
use Rattle.definition_log.specs.meaning.Contents.{Def}
use Rattle.queries.specs.meaning.Kind.{is_node}
use Rattle.queries.specs.meaning.Live.{live, contains_node}
use Rattle.resolving.specs.meaning.Resolve.{Resolution, reaches, missing, live_at}

-- 01, "by a live node at the path", as it was
abbrev pub exactly_at : List ℕ → List Def → Resolution
exactly_at p defs = cond (contains_node p defs) (reaches p) (missing node_not_found p)

-- a node with an @ in its path
abbrev pub has_address : Def → Bool
has_address d = cond (is_node d.value) (has_at d.path) false

abbrev pub StaysExact : Type 0
StaysExact = (p : List ℕ) (defs : List Def) → any has_address (live [] defs) ≡ false → live_at p defs ≡ exactly_at p defs
