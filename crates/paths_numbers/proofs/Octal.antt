-- Request 2 of 02 changes the reading of octal texts alone.
use Rattle.std.proofs.Common.{◌≡◌, ℕ, true, false, eqb, List, [], ◌∷◌, get_or, refl}
use Rattle.paths_numbers.proofs.Texts.{by_test, not_both}
use Rattle.paths_numbers.specs.meaning.Number.{trimmed, base_of, is_prefix_letter, has_prefix, behind_prefix, unsigned, signed}
use Rattle.paths_numbers.specs.meaning.Number.{unsigned_number, signed_number}
use Rattle.paths_numbers.specs.meaning.Octal.{base_of01, behind_prefix01, unsigned_number01, signed_number01, is_octal, as_before}
use Rattle.paths_numbers.specs.meaning.Octal.{OctalAlone}

-- of a trimmed text t, and any reading f of a text in a base
module _ {A : Type 0} (f : ℕ → List ℕ → A) (t : List ℕ) where
  -- it does not start with 0
  plain_same : eqb (get_or t 0 0) 48 ≡ false → f (base_of t) (behind_prefix t) ≡ f (base_of01 t) (behind_prefix01 t)
  unfolding base_of has_prefix behind_prefix base_of01 behind_prefix01
  plain_same z = rw z refl

  -- it starts with a known prefix
  prefix_same : eqb (get_or t 0 0) 48 ≡ true → is_prefix_letter (get_or t 1 0) ≡ true
      → f (base_of t) (behind_prefix t) ≡ f (base_of01 t) (behind_prefix01 t)
  unfolding base_of is_prefix_letter has_prefix behind_prefix base_of01 behind_prefix01
  prefix_same z h =
      by_test (eqb (get_or t 1 0) 120)
      (λ x. rw (z, x) refl)
      (λ x.
      by_test (eqb (get_or t 1 0) 88)
      (λ X. rw (z, x, X) refl)
      (λ X.
      by_test (eqb (get_or t 1 0) 98)
      (λ b. rw (z, x, X, b) refl)
      (λ b.
      by_test (eqb (get_or t 1 0) 66)
      (λ B. rw (z, x, X, b, B) refl)
      (λ B.
      by_test (eqb (get_or t 1 0) 111)
      (λ o. rw (z, x, X, b, B, o) refl)
      (λ o. rw (z, x, X, b, B, o, rw (x, X, b, B, o) at h) refl)))))

  -- it starts with 0 and no known prefix: 0o in front of it names the same base, and is the prefix
  octal_same : eqb (get_or t 0 0) 48 ≡ true → is_prefix_letter (get_or t 1 0) ≡ false
      → f (base_of t) (behind_prefix t) ≡ f (base_of01 (48 ∷ 111 ∷ t)) (behind_prefix01 (48 ∷ 111 ∷ t))
  unfolding base_of is_prefix_letter has_prefix behind_prefix base_of01 behind_prefix01
  octal_same z h =
      by_test (eqb (get_or t 1 0) 120)
      (λ x. absurd (not_both refl (rw x at h)))
      (λ x.
      by_test (eqb (get_or t 1 0) 88)
      (λ X. absurd (not_both refl (rw (x, X) at h)))
      (λ X.
      by_test (eqb (get_or t 1 0) 98)
      (λ b. absurd (not_both refl (rw (x, X, b) at h)))
      (λ b.
      by_test (eqb (get_or t 1 0) 66)
      (λ B. absurd (not_both refl (rw (x, X, b, B) at h)))
      (λ B.
      by_test (eqb (get_or t 1 0) 111)
      (λ o. absurd (not_both refl (rw (x, X, b, B, o) at h)))
      (λ o. rw (z, x, X, b, B, o, rw (x, X, b, B, o) at h) refl)))))

-- a text that starts with 0 is not empty
first_zero : (t : List ℕ) → eqb (get_or t 0 0) 48 ≡ true → (c : ℕ) × (s : List ℕ) × (t ≡ c ∷ s)
first_zero [] z = absurd (not_both z refl)
first_zero (c ∷ s) z = (c, s, refl)

-- 0o in front stays there when suffixes are trimmed
front_trimmed : (text : List ℕ) (c : ℕ) (s : List ℕ) → trimmed text ≡ c ∷ s → trimmed (48 ∷ 111 ∷ text) ≡ 48 ∷ 111 ∷ trimmed text
unfolding trimmed
front_trimmed text c s e = rw e refl

-- any reading
all_same : {A : Type 0} (f : ℕ → List ℕ → A) (text : List ℕ)
    → f (base_of (trimmed text)) (behind_prefix (trimmed text))
    ≡ f (base_of01 (trimmed (as_before text))) (behind_prefix01 (trimmed (as_before text)))
unfolding as_before is_octal has_prefix
all_same f text =
    by_test (eqb (get_or (trimmed text) 0 0) 48)
    (λ z.
    by_test (is_prefix_letter (get_or (trimmed text) 1 0))
    (λ h. rw (z, h) (prefix_same f (trimmed text) z h))
    (λ h.
    let n = first_zero (trimmed text) z in
    rw (z, h, front_trimmed text n.0 n.1 n.2) (octal_same f (trimmed text) z h)))
    (λ z. rw z (plain_same f (trimmed text) z))

pub octal_alone : OctalAlone
unfolding unsigned_number unsigned_number01 signed_number signed_number01
octal_alone =
    record { unsigned_same = λ most text. all_same (λ b s. unsigned b most s) text; signed_same = λ text. all_same signed text }
