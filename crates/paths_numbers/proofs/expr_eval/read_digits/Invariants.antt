-- The digit reader: the rest gives what the whole text gives, and what was read is within the limit.
use Rattle.std.proofs.Common.{◌≡◌, ◌≤◌, drop}
use Rattle.paths_numbers.specs.meaning.Number.{digits, int_code}
use Rattle.paths_numbers.proofs.expr_eval.read_digits.Given as goal

abbrev pub invariant-loop-b : goal.invariant-loop-b
invariant-loop-b l =
    (l.acc ≤ l.most) × (digits l.base.radix l.most (int_code l.over) 0 l.s ≡ digits l.base.radix l.most (int_code l.over) l.acc (drop l.b-index l.s))
