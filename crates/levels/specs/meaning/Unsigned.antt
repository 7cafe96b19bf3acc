-- 02, request 10: "unsigned 64-bit numbers that wrap": the operators and the cell rule on numbers below 2^64, as dtc reckons.
use Rattle.std.specs.Prelude.{ℕ, ◌+◌, ◌-◌, ◌*◌, ◌/◌, ◌%◌, ◌^◌, Bool, cond, not, ◌&&◌, ◌||◌, ◌==◌, bit_and, bit_or, bit_xor, nat_le, nat_lt}
use Rattle.paths_numbers.specs.meaning.Code.{cell_outside, zero_divisor, shift_amount}
use Rattle.paths_numbers.specs.meaning.Reading.{Reading, value, fails, no_code}
use Rattle.paths_numbers.specs.meaning.Expression.{and_op, or_op}

-- how many numbers 64 bits hold
abbrev pub numbers64 : ℕ
numbers64 = 2 ^ 64

-- a result that wraps
abbrev pub wrapped : ℕ → Reading ℕ
wrapped n = value (n % numbers64)

-- a value holds as a condition where it is not 0, and a truth is 1 or 0
abbrev pub holds : ℕ → Bool
holds a = not (a == 0)

abbrev pub truth_of : Bool → ℕ
truth_of t = cond t 1 0

-- the prefix operators by 01's numbers: + - ~ !
unfoldable pub unsigned_prefix : ℕ → ℕ → Reading ℕ
unsigned_prefix op a =
    cond (op == 1) (value a)
    (cond (op == 2) (wrapped (numbers64 - a))
    (cond (op == 3) (value (numbers64 - 1 - a))
    (cond (op == 4) (value (truth_of (not (holds a))))
    (fails no_code))))

-- "codes 25 and 26 as before": a zero divisor, and a shift amount outside 0 to 63
abbrev pub divided_by : ℕ → ℕ → Reading ℕ
divided_by b n = cond (holds b) (value n) (fails zero_divisor)

abbrev pub shifted_by : ℕ → Reading ℕ → Reading ℕ
shifted_by b r = cond (nat_lt b 64) r (fails shift_amount)

-- the infix operators whose result is a truth: && || < > <= >= == !=, "comparison … unsigned"
unfoldable pub unsigned_relation : ℕ → ℕ → ℕ → Reading ℕ
unsigned_relation op a b =
    cond (op == and_op) (value (truth_of (holds a && holds b)))
    (cond (op == or_op) (value (truth_of (holds a || holds b)))
    (cond (op == 13) (value (truth_of (nat_lt a b)))
    (cond (op == 14) (value (truth_of (nat_lt b a)))
    (cond (op == 15) (value (truth_of (nat_le a b)))
    (cond (op == 16) (value (truth_of (nat_le b a)))
    (cond (op == 17) (value (truth_of (a == b)))
    (cond (op == 18) (value (truth_of (not (a == b))))
    (fails no_code))))))))

-- the infix operators by 01's numbers: + - * / % & | ^ << >>, then those above; "division, >> … unsigned"
unfoldable pub unsigned_infix : ℕ → ℕ → ℕ → Reading ℕ
unsigned_infix op a b =
    cond (op == 1) (wrapped (a + b))
    (cond (op == 2) (wrapped (a + (numbers64 - b)))
    (cond (op == 3) (wrapped (a * b))
    (cond (op == 4) (divided_by b (a / b))
    (cond (op == 5) (divided_by b (a % b))
    (cond (op == 6) (value (bit_and a b))
    (cond (op == 7) (value (bit_or a b))
    (cond (op == 8) (value (bit_xor a b))
    (cond (op == 9) (shifted_by b (wrapped (a * 2 ^ b)))
    (cond (op == 10) (shifted_by b (value (a / 2 ^ b)))
    (unsigned_relation op a b))))))))))

-- "For a cell of 32 bits or less, level 2 takes a result that fits unsigned, or whose upper bits are all ones and which fits signed": the
-- bits above the cell's; and where these are ones, a negative number read as signed, of at least -2^(bits - 1). It is stored modulo 2^bits;
-- 64 bits take every result.
abbrev pub fits_below : ℕ → ℕ → Bool
fits_below bits n = nat_lt n (2 ^ bits)

abbrev pub upper_ones : ℕ → ℕ → Bool
upper_ones bits n = n / 2 ^ bits == 2 ^ (64 - bits) - 1

abbrev pub fits_negative : ℕ → ℕ → Bool
fits_negative bits n = nat_le (numbers64 - 2 ^ (bits - 1)) n

unfoldable pub unsigned_cell : ℕ → ℕ → Reading ℕ
unsigned_cell bits n =
    cond (fits_below bits n) (value n)
    (cond (upper_ones bits n && fits_negative bits n) (value (n % 2 ^ bits))
    (fails cell_outside))
