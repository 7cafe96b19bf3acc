-- Steps of the look-up with unit addresses left out: one pass over a chain, which keeps the first node found.
use Rattle.std.specs.Prelude.{ℕ, ◌≡◌, Bool, true, false, not, cond, List, [], eqb, Option, Some, None}
use Rattle.paths_numbers.specs.meaning.Text.{same}
use Rattle.paths_numbers.specs.meaning.Lists.{any}
use Rattle.paths_numbers.specs.meaning.Path.{at_or_under}
use Rattle.short_paths.specs.meaning.Short.{may_mean}
use Rattle.definition_log.specs.meaning.Contents.{Def}
use Rattle.definition_log.specs.meaning.Record.{first_text}
use Rattle.definition_log.specs.meaning.ReadBack.{chain_of, read_defs}
use Rattle.queries.specs.meaning.Kind.{is_node}
use Rattle.queries.specs.meaning.Live.{live, contains_node}
use Rattle.queries.specs.meaning.Lookup.{LookedUp, found, no_node, several, node_paths, distinct, lookup}
use Rattle.queries.specs.declared.lookup.Lookup.{Lookup}
use Rattle.queries.specs.declared.lookup.Lookup.TheVariants as L

-- the paths that the code takes: among those that a path may mean, of nodes that the log has live
abbrev pub candidate : List ℕ → List Def → List ℕ → Bool
candidate p defs q = cond (may_mean p q) (cond (at_or_under q []) (contains_node q defs) false) false

-- whether a path is not that of the node found before, if any
abbrev pub elsewhere : (ℕ → List ℕ) → Option ℕ → List ℕ → Bool
elsewhere path_of None path = true
elsewhere path_of (Some r) path = not (same (path_of r) path)

-- a node at another path than the one found before, if any
unfoldable pub another : (ℕ → Def) → List Def → List ℕ → Option ℕ → ℕ → Bool
another def defs p before r =
    cond (is_node (def r).value)
    (cond (candidate p defs (def r).path) (elsewhere (λ q. (def q).path) before (def r).path) false)
    false

-- what a look-up answers, as the look-up that it stands for
abbrev pub looked_up : List ℕ → List ℕ → List ℕ → Lookup → LookedUp
looked_up words bytes p L.Exact = found p
looked_up words bytes p L.NoNode = no_node
looked_up words bytes p (L.Node r) = found (first_text words bytes r)
looked_up words bytes p L.Several = several

-- a node that it names is one of the chain's
abbrev pub node_in : List ℕ → ℕ → Lookup → Bool
node_in words first L.Exact = true
node_in words first L.NoNode = true
node_in words first (L.Node r) = any (eqb r) (chain_of words first)
node_in words first L.Several = true

abbrev pub AnswersShort : List ℕ → List ℕ → ℕ → List ℕ → Lookup → Type 0
AnswersShort words bytes first p v =
    (looked_up words bytes p v ≡ distinct (node_paths (may_mean p) (live [] (read_defs words bytes first)))) × (node_in words first v ≡ true)

abbrev pub AnswersLookup : List ℕ → List ℕ → ℕ → List ℕ → Lookup → Type 0
AnswersLookup words bytes first p v =
    (looked_up words bytes p v ≡ lookup p (read_defs words bytes first)) × (node_in words first v ≡ true)
