-- The chain behind the first binding is walked (Checks), with the paths seen (Duplicates).
use Prim.Native.Nat.{ℕ}
use mathlib.Core.Path.{◌≡◌}
use mathlib.Core.List.{List, [], ◌∷◌, map}
use lib.ListN.{length}
use Rattle.definition_log.specs.meaning.ReadBack.{binding_at}
use Rattle.definition_log.specs.machine.ChainLeft.{walk_left}
use Rattle.post_checks.specs.meaning.Post.{duplicates_of}
use Rattle.post_checks.proofs.Checks.{Walks}
use Rattle.post_checks.proofs.Duplicates.{paths_seen}
use Rattle.post_checks.proofs.check_mir_post.check_bindings.Given as goal

abbrev pub invariant-loop-r : goal.invariant-loop-r
invariant-loop-r l =
    (length l.out ≡ length l.initial.out)
    × (length l.bytes ≡ length l.initial.bytes)
    × Walks l.initial.made l.made l.initial.out l.initial.bytes l.out l.bytes (l.first ∷ walk_left l.initial.out l.rest)
    l.rest.next l.rest.left l.walk.next l.walk.left
    (duplicates_of (binding_at l.initial.out l.initial.bytes l.first) ((binding_at l.initial.out l.initial.bytes l.first).path ∷ [])
    (map (binding_at l.initial.out l.initial.bytes) (walk_left l.initial.out l.rest)))
    (λ (passed later : List ℕ). duplicates_of (binding_at l.initial.out l.initial.bytes l.first)
    (paths_seen (binding_at l.initial.out l.initial.bytes l.first) (map (binding_at l.initial.out l.initial.bytes) passed))
    (map (binding_at l.initial.out l.initial.bytes) later))

abbrev pub decreases-loop-r : goal.decreases-loop-r
decreases-loop-r l = l.walk.left
