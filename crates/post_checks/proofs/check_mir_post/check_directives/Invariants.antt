-- The chain of definitions is walked, and what is reported on the way keeps it (Checks).
use Prim.Native.Nat.{ℕ}
use mathlib.Core.Path.{◌≡◌}
use mathlib.Core.List.{List, map}
use lib.ListN.{length}
use Rattle.definition_log.specs.meaning.Record.{log_count}
use Rattle.definition_log.specs.meaning.ReadBack.{chain_from, def_at}
use Rattle.post_checks.specs.meaning.Post.{at_first, directives_from}
use Rattle.post_checks.specs.machine.Checks.{headers_of}
use Rattle.post_checks.proofs.Checks.{Walks}
use Rattle.post_checks.proofs.check_mir_post.check_directives.Given as goal

abbrev pub invariant-loop-r : goal.invariant-loop-r
invariant-loop-r l =
    (length l.out ≡ length l.initial.out)
    × (length l.bytes ≡ length l.initial.bytes)
    × Walks l.initial.made l.made l.initial.out l.initial.bytes l.out l.bytes
    (chain_from (log_count l.initial.out) l.initial.out l.initial.made.defs.first) l.initial.made.defs.first (log_count l.initial.out)
    l.walk.next l.walk.left
    (directives_from at_first (map (def_at l.initial.out l.initial.bytes)
    (chain_from (log_count l.initial.out) l.initial.out l.initial.made.defs.first)))
    (λ (passed later : List ℕ). directives_from (headers_of l.headers) (map (def_at l.initial.out l.initial.bytes) later))

abbrev pub decreases-loop-r : goal.decreases-loop-r
decreases-loop-r l = l.walk.left
