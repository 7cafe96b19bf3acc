-- 01, "Values": "Bytestring: hex digits up to the first ], all else skipped; an odd count gives 11 and drops the value."
use Rattle.std.specs.Prelude.{ℕ, ◌+◌, ◌*◌, ◌%◌, Bool, cond, List, [], ◌∷◌, length, ◌==◌, nat_le, nat_lt, Result, Ok, Err}
use Rattle.std.proofs.Math.Option.{Option, some, none}
use Rattle.paths_numbers.specs.meaning.Code.{odd_digits}
use Rattle.paths_numbers.specs.meaning.Reading.{Reading, value, fails, told}
use Rattle.paths_numbers.specs.meaning.Byte.{digit_of, closing_bracket}
use Rattle.paths_numbers.specs.meaning.Text.{written}
use Rattle.paths_numbers.specs.declared.dt_property.MissingDigit.{MissingDigit}
use Rattle.paths_numbers.specs.declared.dt_property.BytesError.{BytesError}
use Rattle.paths_numbers.specs.declared.dt_property.BytesError.TheVariants as B

-- the hex digits up to the first "]"
unfoldable pub nibbles : List ℕ → List ℕ
nibbles [] = []
nibbles (b ∷ s) =
    cond (b == closing_bracket) [] (cond (nat_lt (digit_of b) 16) (digit_of b ∷ nibbles s) (nibbles s))

-- a byte for each two digits, high digit first
unfoldable pub pairs : List ℕ → List ℕ
pairs [] = []
pairs (h ∷ []) = []
pairs (h ∷ l ∷ s) = (h * 16 + l) ∷ pairs s

-- the bytes of a bytestring's text, where its digits are an even count
abbrev pub bytes_of : List ℕ → List ℕ
bytes_of text = pairs (nibbles text)

-- whether a digit is missing
abbrev pub is_odd : List ℕ → Bool
is_odd text = length (nibbles text) % 2 == 1

-- the diagnostic code of a bytestring that is none, and what a result tells
abbrev pub count_code : MissingDigit → ℕ
count_code e = odd_digits

abbrev pub count_told : Result ℕ MissingDigit → Reading ℕ
count_told = told count_code

-- how many bytes
unfoldable pub count_of : List ℕ → Reading ℕ
count_of text = cond (is_odd text) (fails odd_digits) (value (length (bytes_of text)))

-- what a result of the writing of them tells: none where there is no room, which has no number
abbrev pub written_told : Result ℕ BytesError → Option (Reading ℕ)
written_told (Ok n) = some (value n)
written_told (Err B.MissingDigit) = some (fails odd_digits)
written_told (Err B.NoRoom) = none

-- what writing the bytes at a place answers
unfoldable pub bytes_answer : List ℕ → ℕ → ℕ → Option (Reading ℕ)
bytes_answer text room at =
    cond (is_odd text) (some (fails odd_digits))
    (cond (nat_le (at + length (bytes_of text)) room) (some (value (length (bytes_of text)))) none)

-- and what the buffer then holds: a refusal leaves it
unfoldable pub bytes_out : List ℕ → List ℕ → ℕ → List ℕ
bytes_out text out at =
    cond (is_odd text) out (cond (nat_le (at + length (bytes_of text)) (length out)) (written out at (bytes_of text)) out)
