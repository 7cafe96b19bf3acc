-- What is left of the text gives what the whole text gives.
use Rattle.std.proofs.Common.{◌≡◌, length}
use Rattle.paths_numbers.specs.meaning.Number.{trimmed}
use Rattle.paths_numbers.proofs.expr_eval.trim_suffixes.Given as goal

abbrev pub invariant-loop-s : goal.invariant-loop-s
invariant-loop-s l = trimmed l.text ≡ trimmed l.s

abbrev pub decreases-loop-s : goal.decreases-loop-s
decreases-loop-s l = length l.s
