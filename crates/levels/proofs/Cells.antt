-- The cell rule of level 2 is 01's of the result read as a signed number.
use Rattle.std.proofs.Common.{◌≡◌, ℕ, suc, ◌+◌, ◌-◌, ◌*◌, ◌/◌, ◌%◌, ◌^◌, ◌<◌, ◌≤◌, true, ltb, leb, ℤ, pos, negsuc, refl, ap, ◌∙◌, add-zero}
use Rattle.std.proofs.Common.{mod-eq_of_lt, arith, pow_pos, w64, to_z, ltb-false, ltb-true, le-ltb, lt-ltb, eq-eqb, leb-false, leb-true}
use mathlib.Core.Bool.{and-false}
use native.Mathlib.Nat.{mul-add-mod_self_right, mul-add-div_right, div-eq_of_lt}
use borrow.Author.Tests.{lt-leb}
use mir.ValLaws.{to_z_pos, to_z-neg}
use Rattle.paths_numbers.specs.meaning.Reading.{value}
use Rattle.paths_numbers.specs.meaning.Cell.{bits_of, expr_cell}
use Rattle.paths_numbers.specs.declared.dt_property.BitsSize.{BitsSize}
use Rattle.paths_numbers.specs.declared.dt_property.BitsSize.TheVariants.{Bits8, Bits16, Bits32, Bits64}
use Rattle.paths_numbers.proofs.Texts.{by_test}
use Rattle.paths_numbers.proofs.Cells.{half, positive_in, positive_out, negative_in, negative_out}
use Rattle.levels.specs.meaning.Unsigned.{upper_ones, unsigned_cell}

-- what a number from 2 ^ 63 on lacks
abbrev lack : ℕ → ℕ
lack n = 2 ^ 64 - suc n

-- a number below 2 ^ 64, read as a signed one
signed_read : (P : ℤ → Type 0) (n : ℕ) → n < 2 ^ 64 → (n < 2 ^ 63 → P (pos n))
    → (2 ^ 63 ≤ n → P (negsuc (lack n))) → P (to_z w64 n)
signed_read P n h f g =
    by_test (ltb n (2 ^ 63))
    (λ t. let k : n < 2 ^ 63 = ltb-true n (2 ^ 63) t in rw (to_z_pos w64 n k) (f k))
    (λ t.
    let k : 2 ^ 63 ≤ n = ltb-false n (2 ^ 63) t in
    let e : n ≡ 2 ^ 64 - suc (lack n) = omega arith in
    let z : to_z w64 n ≡ negsuc (lack n) = ap (to_z w64) e ∙ to_z-neg w64 (lack n) (omega arith) in
    rw z (g k))

-- 64 bits hold every result
whole_cell : (n : ℕ) → n < 2 ^ 64 → unsigned_cell 64 n ≡ expr_cell 64 (to_z w64 n)
unfolding unsigned_cell
whole_cell n h =
    let most : ℕ = 2 ^ 64 - 1 in
    simp (lt-ltb n (2 ^ 64) h)
    (signed_read (λ z. value n ≡ expr_cell 64 z) n h
    (λ k. positive_in 64 most n (omega arith) refl (omega arith))
    (λ k. let e : n ≡ most - lack n = omega arith in ap value e ∙ negative_in 64 most (lack n) (omega arith) refl (omega arith)))

-- a width of fewer bits, of whose numbers 64 bits hold d + 1 times as many
module _ (bits d : ℕ) (some : 1 ≤ bits) (ones : 2 ^ (64 - bits) - 1 ≡ d) (whole : 2 ^ 64 ≡ d * 2 ^ bits + 2 ^ bits)
    (narrow : 2 ^ bits ≤ 2 ^ 63) (n : ℕ) (small : n < 2 ^ 64) where
  -- below 2 ^ 63 the result is the same number
  low_cell : n < 2 ^ 63 → unsigned_cell bits n ≡ expr_cell bits (pos n)
  unfolding unsigned_cell
  low_cell h =
      by_test (ltb n (2 ^ bits))
      (λ t. rw t (positive_in bits (2 ^ bits - 1) n some refl (omega (arith, ltb-true n (2 ^ bits) t))))
      (λ t.
      let a : 2 ^ bits ≤ n = ltb-false n (2 ^ bits) t in
      let b : n < 2 ^ 64 - 2 ^ (bits - 1) = omega (arith, half bits some) in
      simp (t, lt-leb (2 ^ 64 - 2 ^ (bits - 1)) n b, and-false (upper_ones bits n))
      (positive_out bits (2 ^ bits - 1) n some refl (omega (arith, pow_pos bits))))

  -- from there on it is -(k + 1), where k is what it lacks
  parted : lack n < 2 ^ bits → n ≡ d * 2 ^ bits + (2 ^ bits - 1 - lack n)
  parted h = omega arith

  remains : lack n < 2 ^ bits → n % 2 ^ bits ≡ 2 ^ bits - 1 - lack n
  remains h =
      let l : 2 ^ bits - 1 - lack n < 2 ^ bits = omega arith in
      ap (λ (k : ℕ). k % 2 ^ bits) (parted h) ∙ mul-add-mod_self_right d (2 ^ bits) (2 ^ bits - 1 - lack n) ∙ mod-eq_of_lt l

  upper : lack n < 2 ^ bits → upper_ones bits n ≡ true
  upper h =
      let l : 2 ^ bits - 1 - lack n < 2 ^ bits = omega arith in
      let q : n / 2 ^ bits ≡ d =
      ap (λ (k : ℕ). k / 2 ^ bits) (parted h) ∙ mul-add-div_right (pow_pos bits) d (2 ^ bits - 1 - lack n)
      ∙ ap (λ (k : ℕ). d + k) (div-eq_of_lt l) ∙ add-zero d in
      eq-eqb (n / 2 ^ bits) (2 ^ (64 - bits) - 1) (rw ones q)

  high_cell : 2 ^ 63 ≤ n → unsigned_cell bits n ≡ expr_cell bits (negsuc (lack n))
  unfolding unsigned_cell
  high_cell h =
      let p = half bits some in
      by_test (leb (2 ^ 64 - 2 ^ (bits - 1)) n)
      (λ t.
      let a : 2 ^ 64 - 2 ^ (bits - 1) ≤ n = leb-true (2 ^ 64 - 2 ^ (bits - 1)) n t in
      simp (le-ltb n (2 ^ bits) (omega arith), upper (omega arith), t)
      (ap value (remains (omega arith)) ∙ negative_in bits (2 ^ bits - 1) (lack n) some refl (omega arith)))
      (λ t.
      let a : n < 2 ^ 64 - 2 ^ (bits - 1) = leb-false (2 ^ 64 - 2 ^ (bits - 1)) n t in
      simp (le-ltb n (2 ^ bits) (omega arith), t, and-false (upper_ones bits n))
      (negative_out bits (2 ^ bits - 1) (lack n) some refl (omega (arith, pow_pos bits))))

  narrow_cell : unsigned_cell bits n ≡ expr_cell bits (to_z w64 n)
  narrow_cell = signed_read (λ z. unsigned_cell bits n ≡ expr_cell bits z) n small low_cell high_cell

-- every width
pub cell_same : (s : BitsSize) (n : ℕ) → n < 2 ^ 64 → unsigned_cell (bits_of s) n ≡ expr_cell (bits_of s) (to_z w64 n)
cell_same Bits8 n h = narrow_cell 8 (2 ^ 56 - 1) (omega arith) refl refl (omega arith) n h
cell_same Bits16 n h = narrow_cell 16 (2 ^ 48 - 1) (omega arith) refl refl (omega arith) n h
cell_same Bits32 n h = narrow_cell 32 (2 ^ 32 - 1) (omega arith) refl refl (omega arith) n h
cell_same Bits64 n h = whole_cell n h
