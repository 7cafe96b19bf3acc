-- Where no live node's path has a unit address, a path leads where 01's rule led it: to a live node exactly there, or nowhere.
use Prim.Native.Nat.{ℕ}
use mathlib.Core.Path.{◌≡◌, refl, ap, ◌∙◌}
use mathlib.Core.Bool.{false, cond}
use mathlib.Core.List.{List, [], ◌∷◌}
use Rattle.paths_numbers.specs.meaning.Path.{at_or_under}
use Rattle.paths_numbers.specs.meaning.Lists.{any}
use Rattle.paths_numbers.proofs.Texts.{by_test, not_both, same_refl}
use Rattle.short_paths.specs.meaning.Short.{may_mean, has_components}
use Rattle.short_paths.proofs.Plain.{means_itself}
use Rattle.definition_log.specs.meaning.Contents.{Def}
use Rattle.queries.specs.meaning.Kind.{is_node}
use Rattle.queries.specs.meaning.Live.{live, node_at, contains_node}
use Rattle.queries.specs.meaning.Lookup.{found, no_node, node_paths, distinct, lookup}
use Rattle.queries.proofs.Fold.{nodes_at, live_base}
use Rattle.resolving.specs.meaning.Resolve.{by_lookup}
use Rattle.resolving.specs.meaning.Exact.{has_address, StaysExact}

-- a node that may be meant is the path's own
none_meant : (p : List ℕ) (l : List Def) → any has_address l ≡ false → any (node_at p) l ≡ false → node_paths (may_mean p) l ≡ []
unfolding any node_paths
none_meant p [] h n = refl
none_meant p (d ∷ ds) h n =
    by_test (has_address d) (λ t. absurd (not_both (rw t refl) h))
    (λ a. by_test (node_at p d) (λ t. absurd (not_both (rw t refl) n))
    (λ b.
    let i = none_meant p ds (rw a at h) (rw b at n) in
    by_test (is_node d.value)
    (λ t. by_test (may_mean p d.path)
    (λ m.
    let e : p ≡ d.path = means_itself p d.path (rw t at a) m in
    absurd (not_both (rw (t, e, same_refl d.path) refl) b))
    (λ m. rw (t, m) i))
    (λ t. rw t i)))

as_before_lem : (p : List ℕ) (defs : List Def) → any has_address (live [] defs) ≡ false
    → lookup p defs ≡ cond (contains_node p defs) (found p) no_node
unfolding lookup distinct contains_node
as_before_lem p defs h =
    by_test (any (node_at p) (live p defs))
    (λ t. rw t refl)
    (λ t.
    let n : any (node_at p) (live [] defs) ≡ false = live_base (nodes_at p) [] defs ∙ both_false t in
    rw (t, none_meant p (live [] defs) h n) (by_test (has_components p) (λ u. rw u refl) (λ u. rw u refl)))
  where
    both_false : any (node_at p) (live p defs) ≡ false → cond (at_or_under p []) (any (node_at p) (live p defs)) false ≡ false
    both_false t = by_test (at_or_under p []) (λ u. rw (u, t) refl) (λ u. rw u refl)

pub stays_exact : StaysExact
stays_exact p defs h =
    ap (by_lookup p) (as_before_lem p defs h)
    ∙ by_test (contains_node p defs) (λ t. rw t refl) (λ t. rw t refl)
