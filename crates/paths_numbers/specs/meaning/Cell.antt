-- 01, "Values": a cell list's width, and what an expression's result and a character are as cells of it.
use Rattle.std.specs.Prelude.{ℕ, ◌-◌, ◌%◌, ◌^◌, Bool, false, cond, List, ℤ, pos, negsuc, ◌==◌, nat_lt, Result}
use Rattle.paths_numbers.specs.meaning.Code.{width_unsupported, character_too_large, cell_outside}
use Rattle.paths_numbers.specs.meaning.Text.{is_empty}
use Rattle.paths_numbers.specs.meaning.Reading.{Reading, value, fails, told}
use Rattle.paths_numbers.specs.meaning.Number.{unsigned_number, int_code}
use Rattle.paths_numbers.specs.declared.dt_property.BitsSize.{BitsSize}
use Rattle.paths_numbers.specs.declared.dt_property.BitsSize.TheVariants.{Bits8, Bits16, Bits32, Bits64}
use Rattle.paths_numbers.specs.declared.dt_property.SizeError.{SizeError}
use Rattle.paths_numbers.specs.declared.dt_property.SizeError.TheVariants.{Unsupported, Int}
use Rattle.paths_numbers.specs.declared.dt_property.CellError.{CellError}
use Rattle.paths_numbers.specs.declared.dt_property.CellError.TheVariants.{CharTooLarge, ExprOutside}

-- "Cell width: 8, 16, 32, 64"
abbrev pub bits_of : BitsSize → ℕ
bits_of Bits8 = 8
bits_of Bits16 = 16
bits_of Bits32 = 32
bits_of Bits64 = 64

-- the largest unsigned number of a width
abbrev pub largest : BitsSize → ℕ
largest s = 2 ^ bits_of s - 1

-- the diagnostic code of a width that is none, and what a result tells
abbrev pub size_code : SizeError → ℕ
size_code Unsupported = width_unsupported
size_code (Int e) = int_code e

abbrev pub size_told : Result BitsSize SizeError → Reading BitsSize
size_told = told size_code

-- the width that a number names, "another gives 12"
abbrev pub sized : Reading ℕ → Reading BitsSize
sized (value n) =
    cond (n == 8) (value Bits8)
    (cond (n == 16) (value Bits16)
    (cond (n == 32) (value Bits32)
    (cond (n == 64) (value Bits64)
    (fails width_unsupported))))
sized (fails c) = fails c

-- a width's text, "none means 32"; it is read as a 32-bit number
unfoldable pub size_of : List ℕ → Reading BitsSize
size_of text = cond (is_empty text) (value Bits32) (sized (unsigned_number (largest Bits32) text))

-- the diagnostic code of a cell that has no number, and what a result tells
abbrev pub cell_code : CellError → ℕ
cell_code CharTooLarge = character_too_large
cell_code ExprOutside = cell_outside

abbrev pub cell_told : Result ℕ CellError → Reading ℕ
cell_told = told cell_code

-- whether z is a number of this many bits, unsigned, and signed
abbrev pub fits_unsigned : ℕ → ℤ → Bool
fits_unsigned bits (pos n) = nat_lt n (2 ^ bits)
fits_unsigned bits (negsuc n) = false

abbrev pub fits_signed : ℕ → ℤ → Bool
fits_signed bits (pos n) = nat_lt n (2 ^ (bits - 1))
fits_signed bits (negsuc n) = nat_lt n (2 ^ (bits - 1))

-- z modulo m
abbrev pub modulo : ℤ → ℕ → ℕ
modulo (pos n) m = n % m
modulo (negsuc n) m = m - 1 - n % m

-- "An expression cell is kept if it fits the unsigned or the signed width (stored modulo 2^width), else 15."
unfoldable pub expr_cell : ℕ → ℤ → Reading ℕ
expr_cell bits z =
    cond (fits_unsigned bits z) (value (modulo z (2 ^ bits)))
    (cond (fits_signed bits z) (value (modulo z (2 ^ bits)))
    (fails cell_outside))

-- "Character too large: 13."
unfoldable pub char_cell : ℕ → ℕ → Reading ℕ
char_cell bits ch = cond (nat_lt ch (2 ^ bits)) (value ch) (fails character_too_large)
