-- What C is told: the answers of paths_numbers in numbers. The codes are 01's, from paths_numbers's definitions.
use Rattle.std.specs.Prelude.{ℕ, Bool, true, false, cond, List, eqb, ℤ, pos, length, Option, Some, None}
use Rattle.std.proofs.Math.Option as Math
use Rattle.paths_numbers.specs.meaning.Reading.{Reading, value, fails, no_code}
use Rattle.paths_numbers.specs.meaning.Number.{unsigned_number}
use Rattle.paths_numbers.specs.meaning.Cell.{bits_of, largest, sized, expr_cell, char_cell}
use Rattle.paths_numbers.specs.meaning.Reference.{Target, number_of, label_of, path_of}
use Rattle.paths_numbers.specs.declared.dt_property.BitsSize.{BitsSize}
use Rattle.paths_numbers_c.specs.declared.PnNumber.{PnNumber}
use Rattle.paths_numbers_c.specs.declared.PnInteger.{PnInteger}
use Rattle.paths_numbers_c.specs.declared.PnWritten.{PnWritten}
use Rattle.paths_numbers_c.specs.declared.PnReference.{PnReference}
use Rattle.paths_numbers_c.specs.declared.PnPlace.{PnPlace}

-- a truth is 1 or 0
abbrev pub truth : Bool → ℕ
truth true = 1
truth false = 0

-- a number with code 0, or a code with 0 for the number
abbrev pub number_told : Reading ℕ → PnNumber
number_told (value n) = record { code = 0; value = n }
number_told (fails c) = record { code = c; value = 0 }

-- the same of an integer
abbrev pub integer_told : Reading ℤ → PnInteger
integer_told (value z) = record { code = 0; value = z }
integer_told (fails c) = record { code = c; value = pos 0 }

-- an operator's result; 1 stands for "fails without a code", where the operator is missing
abbrev pub result_told : Reading ℤ → PnInteger
result_told (value z) = record { code = 0; value = z }
result_told (fails c) = record { code = cond (eqb c no_code) 1 c; value = pos 0 }

-- number 0 and how many bytes, or a code and 0 bytes
abbrev pub length_told : Reading ℕ → PnWritten
length_told (value n) = record { number = 0; len = n }
length_told (fails c) = record { number = c; len = 0 }

-- a text written; 1 stands for "no room", which has no code
abbrev pub no_room : PnWritten
no_room = record { number = 1; len = 0 }

abbrev pub bytes_told : Math.Option (Reading ℕ) → PnWritten
bytes_told (Math.some r) = length_told r
bytes_told Math.none = no_room

abbrev pub path_told : Option ℕ → PnWritten
path_told (Some n) = length_told (value n)
path_told None = no_room

-- what f tells at a width, or the code of a width that is none
unfoldable pub at_width : (BitsSize → PnNumber) → Reading BitsSize → PnNumber
at_width f (value s) = f s
at_width f (fails c) = number_told (fails c)

-- a width read, in bits
abbrev pub width_told : Reading BitsSize → PnNumber
width_told = at_width (λ s. number_told (value (bits_of s)))

-- the width of this many bits: 8, 16, 32 or 64, and any other is told as code 12 with value 0
abbrev pub width_of : ℕ → Reading BitsSize
width_of bits = sized (value bits)

-- an unsigned number's text, an expression's result and a character, at a width given in bits
abbrev pub int_at : ℕ → List ℕ → PnNumber
int_at bits text = at_width (λ s. number_told (unsigned_number (largest s) text)) (width_of bits)

abbrev pub expr_at : ℕ → ℤ → PnNumber
expr_at bits z = at_width (λ s. number_told (expr_cell (bits_of s) z)) (width_of bits)

abbrev pub char_at : ℕ → ℕ → PnNumber
char_at bits ch = at_width (λ s. number_told (char_cell (bits_of s) ch)) (width_of bits)

-- what a reference names: its kind by 01's N, 0 where it cannot be read, and the lengths of its label and its path
abbrev pub target_told : Target → PnReference
target_told t = record { kind = number_of t; label_len = length (label_of t); path_len = length (path_of t) }

-- a place: 1 and where it is, or 0 and 0
abbrev pub place_told : Option ℕ → PnPlace
place_told (Some k) = record { found = 1; place = k }
place_told None = record { found = 0; place = 0 }
