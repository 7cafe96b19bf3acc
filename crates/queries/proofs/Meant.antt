-- The paths that a look-up finds among the live definitions are those that the code finds among all.
use Prim.Native.Nat.{ℕ}
use mathlib.Core.Path.{◌≡◌, refl, sym, ap, ◌∙◌}
use mathlib.Core.Bool.{Bool, true, false, cond}
use mathlib.Core.List.{List, [], ◌∷◌, ◌++◌}
use Rattle.paths_numbers.specs.meaning.Text.{same}
use Rattle.paths_numbers.specs.meaning.Path.{at_or_under}
use Rattle.paths_numbers.specs.meaning.Lists.{any}
use Rattle.paths_numbers.proofs.Texts.{by_test, not_both, both, same_true, same_refl, same_ne, same_false}
use Rattle.paths_numbers.proofs.Lists.{any_append}
use Rattle.short_paths.specs.meaning.Short.{may_mean}
use Rattle.definition_log.specs.meaning.Contents.{Def}
use Rattle.queries.specs.meaning.Kind.{is_node}
use Rattle.queries.specs.meaning.Live.{is_live, live, node_at, contains_node}
use Rattle.queries.specs.meaning.Lookup.{node_paths}
use Rattle.queries.specs.machine.Looked.{candidate}
use Rattle.queries.proofs.Fold.{nodes_at, live_base}
use Rattle.queries.proofs.Distinct.{has, SameMembers}

-- two texts compared either way
pub same_turned : (s t : List ℕ) → same s t ≡ same t s
same_turned s t =
    by_test (same s t)
    (λ e. e ∙ sym (rw (same_true s t e) (same_refl t)))
    (λ e. e ∙ sym (same_ne t s (λ q. same_false s t e (sym q))))

-- which paths are among those of nodes that pass a test
pub has_node : (test : List ℕ → Bool) (q : List ℕ) (ds : List Def)
    → has q (node_paths test ds) ≡ cond (test q) (any (node_at q) ds) false
unfolding node_paths any
has_node test q [] = by_test (test q) (λ t. rw t refl) (λ t. rw t refl)
has_node test q (d ∷ ds) =
    by_test (is_node d.value)
    (λ n. by_test (same d.path q)
    (λ e. let w = same_true d.path q e in
    by_test (test d.path)
    (λ t. rw (n, t, same_turned q d.path, e, ← ap test w) (rw t refl))
    (λ t. rw (n, t) (has_node test q ds ∙ rw (← ap test w) (rw t refl))))
    (λ e. by_test (test d.path)
    (λ t. rw (n, t, same_turned q d.path, e) (has_node test q ds))
    (λ t. rw (n, t, e) (has_node test q ds))))
    (λ n. rw n (has_node test q ds))

-- behind a list, a definition that does not pass
any_left : (test : Def → Bool) (l : List Def) (d : Def) (chosen : Bool) → test d ≡ false → any test (l ++ cond chosen (d ∷ []) []) ≡ true
    → any test l ≡ true
unfolding any
any_left test l d chosen n h =
    let one : any test (cond chosen (d ∷ []) []) ≡ false =
    by_test chosen (λ t. rw (t, n) refl) (λ t. rw t refl) in
    by_test (any test l) (λ t. t)
    (λ t. absurd (not_both h (any_append test l (cond chosen (d ∷ []) []) ∙ rw (t, one) refl)))

-- a live definition that passes a test is one of the log's
live_any : (test : Def → Bool) (base : List ℕ) (l : List Def) → any test (live base l) ≡ true → any test l ≡ true
unfolding live any
live_any test base [] h = h
live_any test base (d ∷ l) h =
    by_test (test d)
    (λ t. rw t refl)
    (λ t. rw t (live_any test base l (any_left test (live base l) d (is_live base d l) t h)))

pub candidates_same : (p : List ℕ) (defs : List Def)
    → SameMembers (node_paths (candidate p defs) defs) (node_paths (may_mean p) (live [] defs))
unfolding contains_node
candidates_same p defs q =
    let w : any (node_at q) (live [] defs) ≡ cond (at_or_under q []) (contains_node q defs) false = live_base (nodes_at q) [] defs in
    has_node (candidate p defs) q defs
    ∙ by_test (candidate p defs q)
    (λ t. let k = both (may_mean p q) (cond (at_or_under q []) (contains_node q defs) false) t in
    rw (t, live_any (node_at q) q defs (both (at_or_under q []) (contains_node q defs) k.1).1)
    (sym (has_node (may_mean p) q (live [] defs) ∙ rw (k.0, w) k.1)))
    (λ t. rw t (sym (has_node (may_mean p) q (live [] defs) ∙ rw w t)))
