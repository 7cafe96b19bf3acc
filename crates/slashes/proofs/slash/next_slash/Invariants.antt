-- Loop invariant: the search from the start gives what the search from the rest's place gives.
use Rattle.std.proofs.Common.{◌≡◌, ◌-◌, ◌≤◌, drop, length}
use Rattle.slashes.specs.meaning.Slash.{next_slash}
use Rattle.slashes.proofs.slash.next_slash.Given as goal

abbrev pub invariant-loop-word : goal.invariant-loop-word
invariant-loop-word l = record {
  within : length l.rest ≤ length l.path;
  behind : l.rest ≡ drop (length l.path - length l.rest) l.path;
  same : next_slash l.path l.from ≡ next_slash l.path (length l.path - length l.rest);
}

abbrev pub decreases-loop-word : goal.decreases-loop-word
decreases-loop-word l = length l.rest
