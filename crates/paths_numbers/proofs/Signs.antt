-- What a text's first byte does to its reading: nothing there, a sign, or a digit.
use Rattle.std.proofs.Common.{◌≡◌, ℕ, ◌-◌, ◌<◌, ◌≤◌, ◌^◌, Bool, true, false, cond, ◌==◌, List, [], ◌∷◌, length, get_or, drop, refl, arith}
use Rattle.std.proofs.Common.{eq-eqb, ne_eqb}
use Rattle.paths_numbers.specs.meaning.Byte.{plus, minus}
use Rattle.paths_numbers.specs.meaning.Number.{digits, behind_sign, unsigned, signed, positive, negative}
use Rattle.paths_numbers.specs.meaning.Code.{number_empty, not_a_digit, number_too_large, number_too_small}
use Rattle.paths_numbers.specs.meaning.Reading.{Reading, fails}
use Rattle.paths_numbers.proofs.Texts.{rest}

module _ (base most : ℕ) where
  -- behind a sign: nothing, and digits
  pub behind_none : (over : ℕ) (s : List ℕ) → length s ≡ 0 → behind_sign base most over s ≡ fails not_a_digit
  unfolding behind_sign
  behind_none over [] h = refl
  behind_none over (b ∷ s) h = absurd (omega arith)

  pub behind_some : (over : ℕ) (s : List ℕ) → 1 ≤ length s → behind_sign base most over s ≡ digits base most over 0 s
  unfolding behind_sign
  behind_some over [] h = absurd (omega arith)
  behind_some over (b ∷ s) h = refl

  -- unsigned: nothing, a plus, and another byte
  pub unsigned_none : (s : List ℕ) → length s < 1 → unsigned base most s ≡ fails number_empty
  unfolding unsigned
  unsigned_none [] h = refl
  unsigned_none (b ∷ s) h = absurd (omega arith)

  pub unsigned_plus : (s : List ℕ) → 1 ≤ length s → get_or s 0 0 ≡ plus
      → unsigned base most s ≡ behind_sign base most number_too_large (drop 1 s)
  unfolding unsigned
  unsigned_plus [] h e = absurd (omega arith)
  unsigned_plus (b ∷ s) h e = simp (eq-eqb _ _ e)

  pub unsigned_plain : (s : List ℕ) → 1 ≤ length s → (get_or s 0 0 ≡ plus → ⊥)
      → unsigned base most s ≡ digits base most number_too_large 0 s
  unfolding unsigned
  unsigned_plain [] h n = absurd (omega arith)
  unsigned_plain (b ∷ s) h n = simp (ne_eqb _ _ n)

-- a choice of readings as positive numbers
pushed : (t : Bool) (p q : Reading ℕ) → cond t (positive p) (positive q) ≡ positive (cond t p q)
pushed true p q = refl
pushed false p q = refl

module _ (base : ℕ) where
  -- signed: a minus, and the unsigned reading of another text
  pub signed_minus : (s : List ℕ) → 1 ≤ length s → get_or s 0 0 ≡ minus
      → signed base s ≡ negative (behind_sign base (2 ^ 63) number_too_small (drop 1 s))
  unfolding signed
  signed_minus [] h e = absurd (omega arith)
  signed_minus (b ∷ s) h e = simp (ne_eqb b plus (λ p. omega arith), eq-eqb _ _ e)

  pub signed_plain : (s : List ℕ) → (get_or s 0 0 ≡ minus → ⊥) → signed base s ≡ positive (unsigned base (2 ^ 63 - 1) s)
  unfolding signed unsigned
  signed_plain [] n = refl
  signed_plain (b ∷ s) n = simp (ne_eqb b minus n) (pushed (b == plus) _ _)

-- the steps of an unsigned reading
pub ruleset sign_steps = (behind_none, behind_some, unsigned_none, unsigned_plus, unsigned_plain, rest)
