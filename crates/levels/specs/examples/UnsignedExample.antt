-- 02, request 10, in its smallest cases: the checker computes them.
use Rattle.std.specs.Prelude.{◌≡◌, ℕ, ◌-◌, [], ◌∷◌, refl}
use Rattle.paths_numbers.specs.meaning.Byte.{digit_of}
use Rattle.paths_numbers.specs.meaning.Number.{trimmed, is_prefix_letter, base_of, has_prefix, behind_prefix, digits, behind_sign, unsigned}
use Rattle.paths_numbers.specs.meaning.Number.{is_suffix, unsigned_number}
use Rattle.paths_numbers.specs.meaning.Reading.{value, fails}
use Rattle.levels.specs.meaning.Unsigned.{unsigned_prefix, unsigned_infix, unsigned_relation, unsigned_cell}
use Rattle.levels.specs.meaning.Rules.{unsigned_rules}

-- -1, and the numbers below it
abbrev minus : ℕ → ℕ
minus n = 18446744073709551616 - n

pub negated : unsigned_prefix 2 1 ≡ value (minus 1)
unfolding unsigned_prefix
negated = refl

-- "comparison, division, >> … unsigned": -1 < 0 is 0, -1 / 2 is 2^63 - 1, -7 % 3 is 0, -1 >> 63 is 1
pub compared : unsigned_infix 13 (minus 1) 0 ≡ value 0
unfolding unsigned_infix unsigned_relation
compared = refl

pub divided : unsigned_infix 4 (minus 1) 2 ≡ value 9223372036854775807
unfolding unsigned_infix
divided = refl

pub remaining : unsigned_infix 5 (minus 7) 3 ≡ value 0
unfolding unsigned_infix
remaining = refl

pub shifted : unsigned_infix 10 (minus 1) 63 ≡ value 1
unfolding unsigned_infix
shifted = refl

-- what wraps: -1 + 1, 0 - 1, -1 * -1
pub added : unsigned_infix 1 (minus 1) 1 ≡ value 0
unfolding unsigned_infix
added = refl

pub subtracted : unsigned_infix 2 0 1 ≡ value (minus 1)
unfolding unsigned_infix
subtracted = refl

pub multiplied : unsigned_infix 3 (minus 1) (minus 1) ≡ value 1
unfolding unsigned_infix
multiplied = refl

-- "codes 25 and 26 as before": 1 / 0, 1 << 64 and 1 << -1
pub by_zero : unsigned_infix 4 1 0 ≡ fails 25
unfolding unsigned_infix
by_zero = refl

pub by_64 : unsigned_infix 9 1 64 ≡ fails 26
unfolding unsigned_infix
by_64 = refl

pub by_minus_one : unsigned_infix 9 1 (minus 1) ≡ fails 26
unfolding unsigned_infix
by_minus_one = refl

-- a cell of 8 bits: -128 is 128, -129 gives 15, 255 is 255, 256 gives 15; of 64 bits every result
pub kept_signed : unsigned_cell 8 (minus 128) ≡ value 128
unfolding unsigned_cell
kept_signed = refl

pub too_low : unsigned_cell 8 (minus 129) ≡ fails 15
unfolding unsigned_cell
too_low = refl

pub kept_unsigned : unsigned_cell 8 255 ≡ value 255
unfolding unsigned_cell
kept_unsigned = refl

pub too_high : unsigned_cell 8 256 ≡ fails 15
unfolding unsigned_cell
too_high = refl

pub kept_in_64 : unsigned_cell 64 (minus 1) ≡ value (minus 1)
unfolding unsigned_cell
kept_in_64 = refl

-- literals: "-1" and "0x-1" give 17, a minus being of the signed reading
pub no_minus : unsigned_rules.literal (45 ∷ 49 ∷ []) ≡ fails 17
unfolding unsigned_number unsigned digits behind_sign behind_prefix base_of has_prefix is_prefix_letter trimmed is_suffix digit_of
no_minus = refl

pub no_minus_behind : unsigned_rules.literal (48 ∷ 120 ∷ 45 ∷ 49 ∷ []) ≡ fails 17
unfolding unsigned_number unsigned digits behind_sign behind_prefix base_of has_prefix is_prefix_letter trimmed is_suffix digit_of
no_minus_behind = refl
