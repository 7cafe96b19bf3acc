-- At level 2 every value is a number of 64 bits, and what fails has one of six codes, or none: 19 and 24 never arise.
use Rattle.std.proofs.Common.{◌≡◌, ℕ, ◌+◌, ◌-◌, ◌*◌, ◌%◌, ◌^◌, ◌<◌, ◌≤◌, Bool, true, false, cond, not, ◌&&◌, ◌||◌, eqb, ltb, leb, List, []}
use Rattle.std.proofs.Common.{◌∷◌, refl, div-le_self, arith, leb-true}
use native.Mathlib.Nat.{mod-le}
use lib.Bits.{and_le_l, or_lt, xor_lt}
use Rattle.paths_numbers.specs.meaning.Reading.{Reading, value, fails, no_code}
use Rattle.paths_numbers.specs.meaning.Code.{number_empty, not_a_digit, number_too_large, zero_divisor, shift_amount}
use Rattle.paths_numbers.specs.meaning.Byte.{digit_of, plus}
use Rattle.paths_numbers.specs.meaning.Expression.{and_op, or_op}
use Rattle.paths_numbers.specs.meaning.Number.{trimmed, base_of, behind_prefix, digits, behind_sign, unsigned, unsigned_number}
use Rattle.paths_numbers.proofs.Texts.{by_test, cond_in}
use Rattle.levels.specs.meaning.Unsigned.{holds, truth_of, unsigned_prefix, unsigned_relation, unsigned_infix}

-- the largest number of 64 bits
abbrev pub most : ℕ
most = 18446744073709551615

-- the codes that level 2 gives: of a literal, of an operator, and none
abbrev pub given : ℕ → Bool
given c =
    cond (eqb c no_code) true
    (cond (eqb c number_empty) true
    (cond (eqb c not_a_digit) true
    (cond (eqb c number_too_large) true
    (cond (eqb c zero_divisor) true
    (eqb c shift_amount)))))

-- a reading that is at most a limit, or fails with one of these
abbrev pub Within : ℕ → Reading ℕ → Type 0
Within limit (value n) = n ≤ limit
Within limit (fails c) = given c ≡ true

abbrev pub Below : Reading ℕ → Type 0
Below r = Within most r

truth_below : (t : Bool) → truth_of t ≤ most
truth_below true = omega arith
truth_below false = omega arith

wrapped_below : (n : ℕ) → n % 2 ^ 64 ≤ most
wrapped_below n = omega arith

-- a number's text up to a limit: its digits, behind those that gave acc
module _ (base limit : ℕ) where
  digits_within : (acc : ℕ) (s : List ℕ) → acc ≤ limit → Within limit (digits base limit number_too_large acc s)
  unfolding digits
  digits_within acc [] h = h
  digits_within acc (b ∷ s) h =
      cond_in (Within limit) (ltb (digit_of b) base)
      (by_test (leb (acc * base + digit_of b) limit)
      (λ t. rw t (digits_within (acc * base + digit_of b) s (leb-true (acc * base + digit_of b) limit t)))
      (λ t. rw t refl))
      refl

  sign_within : (s : List ℕ) → Within limit (behind_sign base limit number_too_large s)
  unfolding behind_sign
  sign_within [] = refl
  sign_within (b ∷ s) = digits_within 0 (b ∷ s) (omega arith)

  unsigned_within : (s : List ℕ) → Within limit (unsigned base limit s)
  unfolding unsigned
  unsigned_within [] = refl
  unsigned_within (b ∷ s) = cond_in (Within limit) (eqb b plus) (sign_within s) (digits_within 0 (b ∷ s) (omega arith))

pub number_within : (limit : ℕ) (text : List ℕ) → Within limit (unsigned_number limit text)
unfolding unsigned_number
number_within limit text = unsigned_within (base_of (trimmed text)) limit (behind_prefix (trimmed text))

-- the prefix operators
pub prefix_below : (op a : ℕ) → a ≤ most → Below (unsigned_prefix op a)
unfolding unsigned_prefix
prefix_below op a h =
    cond_in Below (eqb op 1) h
    (cond_in Below (eqb op 2) (wrapped_below (2 ^ 64 - a))
    (cond_in Below (eqb op 3) (omega arith)
    (cond_in Below (eqb op 4) (truth_below (not (holds a)))
    refl)))

-- the infix operators whose result is a truth, and all others
relation_below : (op a b : ℕ) → Below (unsigned_relation op a b)
unfolding unsigned_relation
relation_below op a b =
    cond_in Below (eqb op and_op) (truth_below (holds a && holds b))
    (cond_in Below (eqb op or_op) (truth_below (holds a || holds b))
    (cond_in Below (eqb op 13) (truth_below (ltb a b))
    (cond_in Below (eqb op 14) (truth_below (ltb b a))
    (cond_in Below (eqb op 15) (truth_below (leb a b))
    (cond_in Below (eqb op 16) (truth_below (leb b a))
    (cond_in Below (eqb op 17) (truth_below (eqb a b))
    (cond_in Below (eqb op 18) (truth_below (not (eqb a b)))
    refl)))))))

pub infix_below : (op a b : ℕ) → a ≤ most → b ≤ most → Below (unsigned_infix op a b)
unfolding unsigned_infix
infix_below op a b h k =
    let p : a < 2 ^ 64 = omega arith in
    let q : b < 2 ^ 64 = omega arith in
    cond_in Below (eqb op 1) (wrapped_below (a + b))
    (cond_in Below (eqb op 2) (wrapped_below (a + (2 ^ 64 - b)))
    (cond_in Below (eqb op 3) (wrapped_below (a * b))
    (cond_in Below (eqb op 4) (cond_in Below (holds b) (omega (arith, div-le_self a b)) refl)
    (cond_in Below (eqb op 5) (cond_in Below (holds b) (omega (arith, mod-le a b)) refl)
    (cond_in Below (eqb op 6) (omega (arith, and_le_l a b))
    (cond_in Below (eqb op 7) (omega (arith, or_lt 64 a b p q))
    (cond_in Below (eqb op 8) (omega (arith, xor_lt 64 a b p q))
    (cond_in Below (eqb op 9) (cond_in Below (ltb b 64) (wrapped_below (a * 2 ^ b)) refl)
    (cond_in Below (eqb op 10) (cond_in Below (ltb b 64) (omega (arith, div-le_self a (2 ^ b))) refl)
    (relation_below op a b))))))))))
