-- What one turn of the digit reader does to `digits` of what is left.
use Rattle.std.proofs.Common.{◌≡◌, ℕ, ◌+◌, ◌*◌, ◌<◌, ◌≤◌, List, length, get_or, drop, sym, ◌∙◌, add-one, arith, drop_of_length-le}
use Rattle.std.proofs.Common.{drop-cons, le-ltb, lt-ltb, le-leb}
use borrow.Author.Tests.{lt-leb}
use Rattle.std.proofs.lemmas.Bool.Decides.{nat_tests}
use Rattle.std.specs.Char.{digit_value, is_digit, is_ascii_hexdigit}
use Rattle.paths_numbers.specs.meaning.Byte.{digit_of}
use Rattle.paths_numbers.specs.meaning.Code.{not_a_digit}
use Rattle.paths_numbers.specs.meaning.Reading.{Reading, value, fails}
use Rattle.paths_numbers.specs.meaning.Number.{digits}

-- a digit's value is the library's
pub digit_same : (b : ℕ) → digit_of b ≡ digit_value b
unfolding digit_of
digit_same b = grind (arith, nat_tests)

-- and so is what it takes for a hex digit
pub hex_same : (b : ℕ) → is_ascii_hexdigit b ≡ is_digit b 16
hex_same b = grind (arith, nat_tests)

-- w is what the whole text gives, and the invariant says that the rest gives it too
module _ (base most over acc : ℕ) (s : List ℕ) (i : ℕ) (w : Reading ℕ)
    (inv : w ≡ digits base most over acc (drop i s)) where
  -- the next byte is no digit of the base
  pub bad : i < length s → base ≤ digit_value (get_or s i 0) → fails not_a_digit ≡ w
  unfolding digits
  bad h k = sym (inv ∙ rw (drop-cons s i 0 h, digit_same) (simp (le-ltb _ _ k)))

  module _ (d : ℕ) (h : i < length s) (e : d ≡ digit_value (get_or s i 0)) (k : d < base) where
    -- the next digit, d, makes the number too large
    pub large : most < acc * base + d → fails over ≡ w
    unfolding digits
    large l = sym (inv ∙ rw (drop-cons s i 0 h, digit_same, ← e) (simp (lt-ltb _ _ k, lt-leb _ _ l)))

    -- it is taken
    pub good : acc * base + d ≤ most → w ≡ digits base most over (acc * base + d) (drop (i + 1) s)
    unfolding digits
    good l = inv ∙ rw (drop-cons s i 0 h, add-one, digit_same, ← e) (simp (lt-ltb _ _ k, le-leb _ _ l))

  -- no digit is left
  pub done : length s ≤ i → value acc ≡ w
  unfolding digits
  done h = sym (inv ∙ rw (drop_of_length-le s h))
