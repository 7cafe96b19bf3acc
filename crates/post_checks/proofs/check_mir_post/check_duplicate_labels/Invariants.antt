-- The chain of bindings is walked (Checks), with the labels seen (Duplicates).
use Prim.Native.Nat.{ℕ}
use mathlib.Core.Path.{◌≡◌}
use mathlib.Core.List.{List, [], map}
use lib.ListN.{length}
use Rattle.definition_log.specs.meaning.ReadBack.{binding_at}
use Rattle.definition_log.specs.machine.ChainLeft.{walk_left}
use Rattle.post_checks.specs.meaning.Post.{duplicate_labels}
use Rattle.post_checks.proofs.Checks.{Walks}
use Rattle.post_checks.proofs.Duplicates.{labels_seen}
use Rattle.post_checks.proofs.check_mir_post.check_duplicate_labels.Given as goal

abbrev pub invariant-loop-r : goal.invariant-loop-r
invariant-loop-r l =
    (length l.out ≡ length l.initial.out)
    × (length l.bytes ≡ length l.initial.bytes)
    × Walks l.initial.made l.made l.initial.out l.initial.bytes l.out l.bytes
    (walk_left l.initial.out l.whole) l.whole.next l.whole.left l.walk.next l.walk.left
    (duplicate_labels [] (map (binding_at l.initial.out l.initial.bytes) (walk_left l.initial.out l.whole)))
    (λ (passed later : List ℕ). duplicate_labels (labels_seen (map (binding_at l.initial.out l.initial.bytes) passed))
    (map (binding_at l.initial.out l.initial.bytes) later))

abbrev pub decreases-loop-r : goal.decreases-loop-r
decreases-loop-r l = l.walk.left
