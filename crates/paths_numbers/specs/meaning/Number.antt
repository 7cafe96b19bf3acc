-- 01, "Numbers": what a number's text reads as, at an unsigned limit and signed in 64 bits.
use Rattle.std.specs.Prelude.{ℕ, ◌+◌, ◌-◌, ◌*◌, ◌^◌, Bool, true, false, cond, List, [], ◌∷◌, drop, ℤ, pos, neg_ℤ, ◌==◌, nat_le, nat_lt}
use Rattle.std.specs.Prelude.{slice_index, Result}
use Rattle.paths_numbers.specs.meaning.Code.{number_empty, not_a_digit, number_too_large, number_too_small}
use Rattle.paths_numbers.specs.meaning.Reading.{Reading, value, fails, told}
use Rattle.paths_numbers.specs.meaning.Byte.{digit_of, plus, minus}
use Rattle.paths_numbers.specs.declared.expr_eval.IntErrorKind.{IntErrorKind}
use Rattle.paths_numbers.specs.declared.expr_eval.IntErrorKind.TheVariants.{Empty, InvalidDigit, PosOverflow, NegOverflow}

-- the diagnostic code of each way to fail, and what a result tells
abbrev pub int_code : IntErrorKind → ℕ
int_code Empty = number_empty
int_code InvalidDigit = not_a_digit
int_code PosOverflow = number_too_large
int_code NegOverflow = number_too_small

abbrev pub int_told : Result ℕ IntErrorKind → Reading ℕ
int_told = told int_code

abbrev pub i64_told : Result ℤ IntErrorKind → Reading ℤ
i64_told = told int_code

-- u, U, l and L
unfoldable pub is_suffix : ℕ → Bool
is_suffix b = cond (b == 117) true (cond (b == 85) true (cond (b == 108) true (b == 76)))

-- b in front of what is left of the text behind it: gone where it is a suffix and nothing is left
abbrev pub kept : ℕ → List ℕ → List ℕ
kept b [] = cond (is_suffix b) [] (b ∷ [])
kept b (c ∷ s) = b ∷ c ∷ s

-- "Strip all trailing u, U, l, L."
unfoldable pub trimmed : List ℕ → List ℕ
trimmed [] = []
trimmed (b ∷ s) = kept b (trimmed s)

-- the base that the letter behind a leading 0 gives; 02, request 2: with "anything else than the known prefixes" it is 8
abbrev pub base_of_letter : ℕ → ℕ
base_of_letter c =
    cond (c == 120) 16
    (cond (c == 88) 16
    (cond (c == 98) 2
    (cond (c == 66) 2
    8)))

-- "After 0x/0X … base 16, after 0b/0B base 2, after 0o/0O base 8"; 02, request 2: "Text … that starts with 0 and goes on with anything else
-- … is base 8"; else base 10
unfoldable pub base_of : List ℕ → ℕ
base_of s = cond (slice_index s 0 == 48) (base_of_letter (slice_index s 1)) 10

-- x, X, b, B, o and O
unfoldable pub is_prefix_letter : ℕ → Bool
is_prefix_letter c =
    cond (c == 120) true (cond (c == 88) true (cond (c == 98) true (cond (c == 66) true (cond (c == 111) true (c == 79)))))

-- whether a text starts with one of the known prefixes
unfoldable pub has_prefix : List ℕ → Bool
has_prefix s = cond (slice_index s 0 == 48) (is_prefix_letter (slice_index s 1)) false

-- the part behind the prefix, all of it where there is none
unfoldable pub behind_prefix : List ℕ → List ℕ
behind_prefix s = cond (has_prefix s) (drop 2 s) s

-- the digits s behind those that gave acc: "the first digit that fails decides", not a digit before too large
unfoldable pub digits : ℕ → ℕ → ℕ → ℕ → List ℕ → Reading ℕ
digits base most over acc [] = value acc
digits base most over acc (b ∷ s) =
    cond (nat_lt (digit_of b) base)
    (cond (nat_le (acc * base + digit_of b) most) (digits base most over (acc * base + digit_of b) s) (fails over))
    (fails not_a_digit)

-- what stands behind a sign: a lone sign is no digit
unfoldable pub behind_sign : ℕ → ℕ → ℕ → List ℕ → Reading ℕ
behind_sign base most over [] = fails not_a_digit
behind_sign base most over (b ∷ s) = digits base most over 0 (b ∷ s)

-- an unsigned reading up to most: "One leading + is allowed … Empty: code 16."
unfoldable pub unsigned : ℕ → ℕ → List ℕ → Reading ℕ
unsigned base most [] = fails number_empty
unsigned base most (b ∷ s) =
    cond (b == plus) (behind_sign base most number_too_large s) (digits base most number_too_large 0 (b ∷ s))

-- an unsigned number's text, at the largest value most
unfoldable pub unsigned_number : ℕ → List ℕ → Reading ℕ
unsigned_number most text = unsigned (base_of (trimmed text)) most (behind_prefix (trimmed text))

-- a reading as a positive and as a negative number
abbrev pub positive : Reading ℕ → Reading ℤ
positive (value n) = value (pos n)
positive (fails e) = fails e

abbrev pub negative : Reading ℕ → Reading ℤ
negative (value n) = value (neg_ℤ (pos n))
negative (fails e) = fails e

-- the signed 64-bit reading: "One leading + is allowed, and - for the signed 64-bit reading."
unfoldable pub signed : ℕ → List ℕ → Reading ℤ
signed base [] = fails number_empty
signed base (b ∷ s) =
    cond (b == plus) (positive (behind_sign base (2 ^ 63 - 1) number_too_large s))
    (cond (b == minus) (negative (behind_sign base (2 ^ 63) number_too_small s))
    (positive (digits base (2 ^ 63 - 1) number_too_large 0 (b ∷ s))))

-- a signed number's text
unfoldable pub signed_number : List ℕ → Reading ℤ
signed_number text = signed (base_of (trimmed text)) (behind_prefix (trimmed text))
