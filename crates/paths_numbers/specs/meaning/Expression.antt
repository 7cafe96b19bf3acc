-- 01, "Numbers", from "Expressions are signed 64-bit" on: the operators, on integers, and where they have no result.
use Rattle.std.specs.Prelude.{ℕ, zero, suc, ◌*◌, ◌%◌, ◌^◌, Bool, true, false, cond, not, ℤ, pos, negsuc, ◌+ℤ◌, ◌-ℤ◌, ◌*ℤ◌, neg_ℤ, ◌==◌}
use Rattle.std.specs.Prelude.{bit_and, bit_or, bit_xor, int_div, int_le, int_lt, int_rem, nat_lt, Result}
use Rattle.std.specs.Int.Signed.{mag, shr_z}
use Rattle.std.specs.Int.{w64}
use Rattle.std.proofs.Common.{to_z, of_z}
use Rattle.paths_numbers.specs.meaning.Code.{outside64_bits, zero_divisor, shift_amount}
use Rattle.paths_numbers.specs.meaning.Reading.{Reading, value, fails, no_code, told}
use Rattle.paths_numbers.specs.declared.operators.EvalError.{EvalError}
use Rattle.paths_numbers.specs.declared.operators.EvalError.TheVariants.{Outside, ZeroDivisor, ShiftAmount, Missing}

-- the diagnostic code of each way to fail; "a missing operand or operator fails without a code"
abbrev pub eval_code : EvalError → ℕ
eval_code Outside = outside64_bits
eval_code ZeroDivisor = zero_divisor
eval_code ShiftAmount = shift_amount
eval_code Missing = no_code

-- what a result tells
abbrev pub eval_told : Result ℤ EvalError → Reading ℤ
eval_told = told eval_code

-- whether a number is within 64 bits: n and -(n + 1) are where n is below 2 ^ 63
abbrev pub is_within : ℤ → Bool
is_within z = nat_lt (mag z) (2 ^ 63)

-- a result, where it is within 64 bits
abbrev pub within : ℤ → Reading ℤ
within z = cond (is_within z) (value z) (fails outside64_bits)

-- a value holds as a condition where it is not 0
abbrev pub is_true : ℤ → Bool
is_true (pos zero) = false
is_true (pos (suc n)) = true
is_true (negsuc n) = true

-- "truth is 1 or 0"
abbrev pub of_truth : Bool → ℤ
of_truth true = pos 1
of_truth false = pos 0

-- whether two values are equal
abbrev pub eq_z : ℤ → ℤ → Bool
eq_z (pos a) (pos b) = a == b
eq_z (pos a) (negsuc b) = false
eq_z (negsuc a) (pos b) = false
eq_z (negsuc a) (negsuc b) = a == b

-- each bit turned: -1 - z
abbrev pub turned : ℤ → ℤ
turned (pos n) = negsuc n
turned (negsuc n) = pos n

-- an operation on the 64 bits of two values
abbrev pub on_bits : (ℕ → ℕ → ℕ) → ℤ → ℤ → ℤ
on_bits f a b = to_z w64 (f (of_z w64 a) (of_z w64 b))

-- division and remainder, "zero divisor (25)", and "(our code 24, also −2^63 / −1 and % −1)"
unfoldable pub quotient : ℤ → ℤ → Reading ℤ
quotient a b = cond (is_true b) (within (int_div a b)) (fails zero_divisor)

unfoldable pub remainder : ℤ → ℤ → Reading ℤ
remainder a b = cond (is_true b) (cond (is_within (int_div a b)) (value (int_rem a b)) (fails outside64_bits)) (fails zero_divisor)

-- a shift by an amount from 0 to 63
abbrev pub shift_by : (ℕ → ℤ) → ℤ → Reading ℤ
shift_by f (pos n) = cond (nat_lt n 64) (value (f n)) (fails shift_amount)
shift_by f (negsuc n) = fails shift_amount

-- "<< drops what passes bit 63 (never 24)"
unfoldable pub shift_left : ℤ → ℤ → Reading ℤ
shift_left a b = shift_by (λ n. to_z w64 (of_z w64 a * 2 ^ n % 2 ^ 64)) b

-- ">> keeps the sign"
unfoldable pub shift_right : ℤ → ℤ → Reading ℤ
shift_right a b = shift_by (λ n. shr_z a (2 ^ n)) b

-- the prefix operators by 01's numbers: + - ~ !
unfoldable pub eval_prefix : ℕ → ℤ → Reading ℤ
eval_prefix op a =
    cond (op == 1) (value a)
    (cond (op == 2) (within (neg_ℤ a))
    (cond (op == 3) (value (turned a))
    (cond (op == 4) (value (of_truth (not (is_true a))))
    (fails no_code))))

-- the numbers of the infix operators that "evaluate only what they need": && || ?:
abbrev pub and_op : ℕ
and_op = 11

abbrev pub or_op : ℕ
or_op = 12

abbrev pub conditional_op : ℕ
conditional_op = 19

-- the infix operators by 01's numbers whose result is a truth: && || < > <= >= == !=
unfoldable pub eval_relation : ℕ → ℤ → ℤ → Reading ℤ
eval_relation op a b =
    cond (op == and_op) (value (of_truth (cond (is_true a) (is_true b) false)))
    (cond (op == or_op) (value (of_truth (cond (is_true a) true (is_true b))))
    (cond (op == 13) (value (of_truth (int_lt a b)))
    (cond (op == 14) (value (of_truth (int_lt b a)))
    (cond (op == 15) (value (of_truth (int_le a b)))
    (cond (op == 16) (value (of_truth (int_le b a)))
    (cond (op == 17) (value (of_truth (eq_z a b)))
    (cond (op == 18) (value (of_truth (not (eq_z a b))))
    (fails no_code))))))))

-- the infix operators by 01's numbers: + - * / % & | ^ << >>, then those above
unfoldable pub eval_infix : ℕ → ℤ → ℤ → Reading ℤ
eval_infix op a b =
    cond (op == 1) (within (a +ℤ b))
    (cond (op == 2) (within (a -ℤ b))
    (cond (op == 3) (within (a *ℤ b))
    (cond (op == 4) (quotient a b)
    (cond (op == 5) (remainder a b)
    (cond (op == 6) (value (on_bits bit_and a b))
    (cond (op == 7) (value (on_bits bit_or a b))
    (cond (op == 8) (value (on_bits bit_xor a b))
    (cond (op == 9) (shift_left a b)
    (cond (op == 10) (shift_right a b)
    (eval_relation op a b))))))))))

-- the last infix operator, ?:, on the values of a condition and of both choices
unfoldable pub eval_conditional : ℤ → ℤ → ℤ → ℤ
eval_conditional a b c = cond (is_true a) b c
