-- 02, request 1: "Depots store box numbers as packed decimal, two digits a byte, high digit first."
use Rattle.std.specs.Prelude.{ℕ, zero, suc, ◌+◌, ◌*◌, ◌/◌, ◌%◌, ◌≡◌, Bool, false, cond, List, [], ◌∷◌, ◌++◌, eqb, leb, ltb, length}
use Rattle.std.specs.Prelude.{Option, Some, None, Result, Ok, Err}
use Rattle.definition_log.specs.declared.answer.Refusal.{Refusal}
use Rattle.definition_log.specs.meaning.Answer.{Answered, success, refused_digit, refused_length, refused_number, refused}

-- a byte's high digit and its low one, both at most 9; what they stand for; and two digits as a byte
unfoldable pub is_packed : ℕ → Bool
is_packed b = cond (leb (b / 16) 9) (leb (b % 16) 9) false

unfoldable pub two_digits : ℕ → ℕ
two_digits b = b / 16 * 10 + b % 16

unfoldable pub pack : ℕ → ℕ
pack d = d / 10 * 16 + d % 10

-- what bytes stand for, none where a digit is above 9; n is what the bytes before them stand for
unfoldable pub value_behind : ℕ → List ℕ → Option ℕ
value_behind n [] = Some n
value_behind n (b ∷ s) = cond (is_packed b) (value_behind (n * 100 + two_digits b) s) None

unfoldable pub packed_value : List ℕ → Option ℕ
packed_value s = value_behind 0 s

-- a number in k bytes, with leading zeros
unfoldable pub packed_bytes : ℕ → ℕ → List ℕ
packed_bytes zero n = []
packed_bytes (suc k) n = packed_bytes k (n / 100) ++ pack (n % 100) ∷ []

-- 100 to the k: k bytes hold what is below it
unfoldable pub hundreds : ℕ → ℕ
hundreds zero = 1
hundreds (suc k) = hundreds k * 100

-- "1 to 8 bytes"
abbrev pub most_bytes : ℕ
most_bytes = 8

unfoldable pub is_length : ℕ → Bool
is_length k = cond (eqb k 0) false (leb k most_bytes)

-- a box number with number 0, or why there is none, with value 0
pub record BoxRead : Type 0 where
  pub number : ℕ
  pub value : ℕ

-- reading: 12, then 11, each with value 0; or success with the number
abbrev pub no_box : ℕ → BoxRead
no_box number = record { number = number; value = 0 }

abbrev pub read_told : Option ℕ → BoxRead
read_told (Some n) = record { number = success; value = n }
read_told None = no_box refused_digit

-- what an answer of the reader tells
abbrev pub box_told : Result ℕ Refusal → BoxRead
box_told (Ok n) = record { number = success; value = n }
box_told (Err e) = no_box (refused e).number

unfoldable pub read_answer : List ℕ → BoxRead
read_answer s = cond (is_length (length s)) (read_told (packed_value s)) (no_box refused_length)

-- writing: 12, then 13; each answer returns 0, success too
unfoldable pub write_number : ℕ → ℕ → ℕ
write_number k n = cond (is_length k) (cond (ltb n (hundreds k)) success refused_number) refused_length

abbrev pub returns0 : ℕ → Answered
returns0 number = record { number = number; returned = 0 }

unfoldable pub write_answer : ℕ → ℕ → Answered
write_answer k n = returns0 (write_number k n)

-- success sets every byte, and a refusal writes nothing
unfoldable pub write_out : List ℕ → ℕ → List ℕ
write_out out n = cond (eqb (write_number (length out) n) success) (packed_bytes (length out) n) out

-- "Reading then writing at the same length returns the bytes", and what is written is read back
unfoldable pub ReadThenWrite : Type 0
ReadThenWrite = (s out : List ℕ) (n : ℕ) → read_answer s ≡ record { number = success; value = n } → length out ≡ length s
    → (write_answer (length out) n ≡ returns0 success) × (write_out out n ≡ s)

unfoldable pub WriteThenRead : Type 0
WriteThenRead = (out : List ℕ) (n : ℕ) → write_answer (length out) n ≡ returns0 success
    → read_answer (write_out out n) ≡ record { number = success; value = n }
