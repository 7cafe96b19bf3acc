-- Which numbers a width holds, with its largest unsigned number in place of its power of two.
use Rattle.std.proofs.Common.{◌≡◌, ℕ, suc, ◌+◌, ◌-◌, ◌/◌, ◌^◌, ◌<◌, ◌≤◌, pos, negsuc, refl, ap, ◌∙◌, mod-eq_of_lt, arith, pow_pos, le-ltb}
use Rattle.std.proofs.Common.{lt-ltb}
use native.Mathlib.Nat.{two-pow-succ}
use Rattle.paths_numbers.specs.meaning.Cell.{bits_of, largest, expr_cell, char_cell}
use Rattle.paths_numbers.specs.meaning.Code.{character_too_large, cell_outside}
use Rattle.paths_numbers.specs.meaning.Reading.{value, fails}
use Rattle.paths_numbers.specs.declared.dt_property.BitsSize.{BitsSize}
use Rattle.paths_numbers.specs.declared.dt_property.BitsSize.TheVariants.{Bits8, Bits16, Bits32, Bits64}

-- no width has less than a byte's bits
wide : (s : BitsSize) → 8 ≤ bits_of s
wide Bits8 = omega arith
wide Bits16 = omega arith
wide Bits32 = omega arith
wide Bits64 = omega arith

-- every width has a bit
pub some_bit : (s : BitsSize) → 1 ≤ bits_of s
some_bit s = omega (arith, wide s)

-- a width's numbers are twice those of one bit less
pub half : (bits : ℕ) → 1 ≤ bits → 2 ^ bits ≡ 2 ^ (bits - 1) + 2 ^ (bits - 1)
half bits h =
    let e : bits ≡ suc (bits - 1) = omega arith in
    ap (λ (k : ℕ). 2 ^ k) e ∙ two-pow-succ (bits - 1)

-- most is the largest unsigned number of the width
module _ (bits most n : ℕ) (some : 1 ≤ bits) (e : most ≡ 2 ^ bits - 1) where
  -- a number up to most is below the power
  inside : n ≤ most → n < 2 ^ bits
  inside h = omega (arith, pow_pos bits)

  -- a number from 0 on: kept up to most, and refused above
  pub positive_in : n ≤ most → value n ≡ expr_cell bits (pos n)
  unfolding expr_cell
  positive_in h = simp (lt-ltb _ _ (inside h), mod-eq_of_lt (inside h))

  pub positive_out : most < n → fails cell_outside ≡ expr_cell bits (pos n)
  unfolding expr_cell
  positive_out h =
      simp (le-ltb n (2 ^ bits) (omega arith), le-ltb n (2 ^ (bits - 1)) (omega (arith, half bits some)))

  -- -(n + 1): kept where n is in the lower half, and refused above
  pub negative_in : n ≤ most / 2 → value (most - n) ≡ expr_cell bits (negsuc n)
  unfolding expr_cell
  negative_in h =
      let p = half bits some in
      let q = pow_pos (bits - 1) in
      simp (lt-ltb n (2 ^ (bits - 1)) (omega arith), mod-eq_of_lt (inside (omega arith)), e)

  pub negative_out : most / 2 < n → fails cell_outside ≡ expr_cell bits (negsuc n)
  unfolding expr_cell
  negative_out h =
      let p = half bits some in
      let q = pow_pos (bits - 1) in
      simp (le-ltb n (2 ^ (bits - 1)) (omega arith))

-- a character that fits a width, and one that is too large
pub char_in : (s : BitsSize) (n : ℕ) → n ≤ largest s → char_cell (bits_of s) n ≡ value n
unfolding char_cell
char_in s n h = simp (lt-ltb _ _ (inside (bits_of s) (largest s) n (some_bit s) refl h))

pub char_out : (s : BitsSize) (n : ℕ) → largest s < n → char_cell (bits_of s) n ≡ fails character_too_large
unfolding char_cell
char_out s n h = simp (le-ltb n (2 ^ bits_of s) (omega arith))

pub ruleset char_steps = (char_in, char_out)
