-- What a text's last byte does to the text without its suffixes.
use Rattle.std.proofs.Common.{◌≡◌, ℕ, suc, ◌-◌, ◌<◌, ◌≤◌, true, false, List, [], ◌∷◌, ◌++◌, length, get_or, take, sym, refl, ap, ◌∙◌, arith}
use Rattle.std.proofs.Common.{take-suc}
use lib.Seq.{take-length}
use Rattle.paths_numbers.specs.meaning.Number.{is_suffix, kept, trimmed}

-- a text that ends in a suffix
suffix_last : (s : List ℕ) (b : ℕ) → is_suffix b ≡ true → trimmed (s ++ (b ∷ [])) ≡ trimmed s
unfolding trimmed
suffix_last [] b h = rw h
suffix_last (a ∷ s) b h = ap (kept a) (suffix_last s b h)

-- a byte in front of a text that is not empty stays
kept_front : (a : ℕ) (s : List ℕ) (b : ℕ) → kept a (s ++ (b ∷ [])) ≡ a ∷ s ++ (b ∷ [])
kept_front a [] b = refl
kept_front a (c ∷ s) b = refl

-- a text that ends in another byte
other_last : (s : List ℕ) (b : ℕ) → is_suffix b ≡ false → trimmed (s ++ (b ∷ [])) ≡ s ++ (b ∷ [])
unfolding trimmed
other_last [] b h = rw h
other_last (a ∷ s) b h = ap (kept a) (other_last s b h) ∙ kept_front a s b

module _ (s : List ℕ) (h : 1 ≤ length s) where
  -- a text is its front and its last byte
  last_of : s ≡ take (length s - 1) s ++ (get_or s (length s - 1) 0 ∷ [])
  last_of =
      let e : length s ≡ suc (length s - 1) = omega arith in
      sym (take-length s) ∙ ap (λ (k : ℕ). take k s) e ∙ take-suc s (length s - 1) 0 (omega arith)

  -- its last byte is a suffix, and goes
  pub trimmed_suffix : is_suffix (get_or s (length s - 1) 0) ≡ true → trimmed s ≡ trimmed (take (length s - 1) s)
  trimmed_suffix t = ap trimmed last_of ∙ suffix_last (take (length s - 1) s) _ t

  -- its last byte is none, and the text stays
  pub trimmed_other : is_suffix (get_or s (length s - 1) 0) ≡ false → s ≡ trimmed s
  trimmed_other t = last_of ∙ sym (other_last (take (length s - 1) s) _ t) ∙ sym (ap trimmed last_of)

-- no byte is left
pub trimmed_empty : (s : List ℕ) → length s < 1 → s ≡ trimmed s
unfolding trimmed
trimmed_empty [] h = refl
trimmed_empty (b ∷ s) h = absurd (omega arith)
