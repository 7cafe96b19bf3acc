-- Loop invariant: what is matched so far does not decide, and what is left of both paths does.
use Rattle.std.proofs.Common.{◌≡◌, ℕ, List, ◌++◌, length}
use Rattle.short_paths.specs.meaning.Short.{split, all_match}
use Rattle.short_paths.proofs.short.match_front.Given as goal

abbrev pub invariant-components : goal.invariant-components
invariant-components l = (cs : List (List ℕ)) → all_match (split l.path ++ cs) (split l.full) ≡ all_match (split l.left ++ cs) (split l.other)

abbrev pub decreases-components : goal.decreases-components
decreases-components l = length l.left
