-- The base of a text, and the part behind its prefix: the first two bytes decide.
use Rattle.std.proofs.Common.{◌≡◌, ℕ, ◌≤◌, List, length, get_or}
use Rattle.std.proofs.lemmas.Bool.Decides.{nat_tests}
use Rattle.std.proofs.lemmas.List.{get_or_past}
use Rattle.paths_numbers.proofs.Texts.{rest}

-- a byte that is not there reads as 0
pub zero_past : (s : List ℕ) (i : ℕ) → length s ≤ i → get_or s i 0 ≡ 0
zero_past s i h = get_or_past s i 0 h

pub ruleset first_bytes = (nat_tests, zero_past, rest)
