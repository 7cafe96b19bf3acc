-- 02, request 1, in its smallest cases: the checker computes them.
use Rattle.std.specs.Prelude.{ℕ, ◌-◌, ◌^◌, ◌≡◌, refl, List, [], ◌∷◌, Some}
use Rattle.boxes.specs.meaning.Box.{is_packed, two_digits, pack, value_behind, packed_value, packed_bytes, hundreds, is_length}
use Rattle.boxes.specs.meaning.Box.{no_box, read_answer, returns0, write_number, write_answer, write_out}

-- high digit first, in a byte and along the bytes
pub digits : (packed_value (0x12 ∷ 0x34 ∷ []) ≡ Some 1234)
    × (packed_value (0x00 ∷ 0x07 ∷ []) ≡ Some 7) × (packed_value (0x99 ∷ []) ≡ Some 99)
unfolding packed_value value_behind is_packed two_digits
digits = (refl, refl, refl)

-- 12 before 11
abbrev nine_bytes : List ℕ
nine_bytes = 0xff ∷ 0xff ∷ 0xff ∷ 0xff ∷ 0xff ∷ 0xff ∷ 0xff ∷ 0xff ∷ 0xff ∷ []

pub refused : (read_answer [] ≡ no_box 12) × (read_answer nine_bytes ≡ no_box 12) × (read_answer (0xa0 ∷ []) ≡ no_box 11)
    × (read_answer (0x0a ∷ []) ≡ no_box 11) × (read_answer (0x99 ∷ 0x9a ∷ []) ≡ no_box 11)
unfolding read_answer is_length packed_value value_behind is_packed two_digits
refused = (refl, refl, refl, refl, refl)

-- leading zeros; 13 for what does not fit, also in the most bytes; 12 before it
pub written : (write_out (1 ∷ []) 99 ≡ 0x99 ∷ []) × (write_answer 1 100 ≡ returns0 13) × (write_out (1 ∷ []) 100 ≡ 1 ∷ [])
    × (write_out (1 ∷ 2 ∷ 3 ∷ []) 7 ≡ 0x00 ∷ 0x00 ∷ 0x07 ∷ []) × (write_answer 9 0 ≡ returns0 12) × (write_answer 0 0 ≡ returns0 12)
unfolding write_out write_answer write_number is_length hundreds packed_bytes pack
written = (refl, refl, refl, refl, refl, refl)

pub largest : (write_answer 8 9999999999999999 ≡ returns0 0) × (write_answer 8 10000000000000000 ≡ returns0 13)
    × (write_answer 8 (2 ^ 64 - 1) ≡ returns0 13)
unfolding write_answer write_number is_length hundreds
largest = (refl, refl, refl)
