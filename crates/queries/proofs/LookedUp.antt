-- The look-up of a path, by the exact node first.
use Prim.Native.Nat.{ℕ}
use mathlib.Core.Path.{◌≡◌, refl, sym, ap, ◌∙◌}
use mathlib.Core.Bool.{Bool, true, false, not}
use mathlib.Core.List.{List, [], ◌∷◌}
use Rattle.paths_numbers.specs.meaning.Text.{same}
use Rattle.paths_numbers.specs.meaning.Path.{at_or_under}
use Rattle.paths_numbers.specs.meaning.Lists.{any}
use Rattle.paths_numbers.proofs.Texts.{by_test, both, not_both, same_refl}
use Rattle.short_paths.specs.meaning.Short.{may_mean, has_components}
use Rattle.definition_log.specs.meaning.Contents.{Def}
use Rattle.definition_log.specs.meaning.ReadBack.{read_defs}
use Rattle.queries.specs.meaning.Live.{live, node_at, contains_node}
use Rattle.queries.specs.meaning.Lookup.{LookedUp, found, no_node, several, node_paths, distinct, lookup}
use Rattle.queries.specs.machine.Looked.{looked_up, AnswersLookup, AnswersShort}
use Rattle.queries.specs.declared.lookup.Lookup.{Lookup}
use Rattle.queries.proofs.Fold.{nodes_at, live_base}
use Rattle.queries.proofs.Distinct.{has}
use Rattle.queries.proofs.Meant.{has_node}

-- "A path looks up its exact live node first"
pub exact : (p : List ℕ) (defs : List Def) → contains_node p defs ≡ true → found p ≡ lookup p defs
unfolding lookup
exact p defs h = sym (rw h refl)

pub no_form : (p : List ℕ) (defs : List Def) → contains_node p defs ≡ false → has_components p ≡ false → no_node ≡ lookup p defs
unfolding lookup
no_form p defs h f = sym (rw (h, f) refl)

by_short : (p : List ℕ) (defs : List Def) → contains_node p defs ≡ false → has_components p ≡ true
    → distinct (node_paths (may_mean p) (live [] defs)) ≡ lookup p defs
unfolding lookup
by_short p defs h f = sym (rw (h, f) refl)

-- what the second rule answers of the same path
pub short : (words bytes : List ℕ) (first : ℕ) (p q : List ℕ) (v : Lookup) → p ≡ q → contains_node p (read_defs words bytes first) ≡ false
    → has_components p ≡ true → AnswersShort words bytes first q v → AnswersLookup words bytes first p v
short words bytes first p q v e h f a = (
  ap (λ (x : List ℕ). looked_up words bytes x v) e ∙ a.0
      ∙ ap (λ (x : List ℕ). distinct (node_paths (may_mean x) (live [] (read_defs words bytes first)))) (sym e)
      ∙ by_short p (read_defs words bytes first) h f,
  a.1,
)

-- where live lists are the same, look-ups are
pub lookup_same : (p : List ℕ) (x y : List Def) → ((base : List ℕ) → live base x ≡ live base y) → lookup p x ≡ lookup p y
unfolding lookup contains_node
lookup_same p x y e = rw (e p, e []) refl

-- whether a look-up found a path, and which
abbrev is_found : LookedUp → Bool
is_found (found q) = true
is_found no_node = false
is_found several = false

abbrev path_in : LookedUp → List ℕ
path_in (found q) = q
path_in no_node = []
path_in several = []

-- one distinct path is one of the list
distinct_has : (l : List (List ℕ)) (q : List ℕ) → distinct l ≡ found q → has q l ≡ true
unfolding distinct any
distinct_has [] q h = absurd (not_both (ap is_found h) refl)
distinct_has (a ∷ l) q h =
    by_test (any (λ (r : List ℕ). not (same r a)) l)
    (λ t. absurd (not_both (ap is_found (rw t at h)) refl))
    (λ t. let e : a ≡ q = ap path_in (rw t at h) in rw (e, same_refl q) refl)

-- what is found is the path of a live node
pub found_live : (p : List ℕ) (defs : List Def) (q : List ℕ) → lookup p defs ≡ found q → contains_node q defs ≡ true
unfolding lookup contains_node
found_live p defs q h =
    by_test (contains_node p defs)
    (λ t. let e : p ≡ q = ap path_in (rw t at h) in rw (← e) t)
    (λ t. by_test (has_components p)
    (λ f. let m = sym (has_node (may_mean p) q (live [] defs)) ∙ distinct_has _ q (rw (t, f) at h) in
    let n = (both (may_mean p q) (any (node_at q) (live [] defs)) m).1 in
    (both (at_or_under q []) (any (node_at q) (live q defs)) (sym (live_base (nodes_at q) [] defs) ∙ n)).1)
    (λ f. absurd (not_both (ap is_found (rw (t, f) at h)) refl)))
