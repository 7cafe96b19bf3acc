-- How texts compare: what `same` and `begins` decide, a comparison byte by byte, and the first byte of a text.
use Rattle.std.proofs.Common.{◌≡◌, ℕ, ◌+◌, ◌-◌, ◌<◌, ◌≤◌, Bool, true, false, cond, eqb, List, [], ◌∷◌, ◌++◌, length, get_or, take, drop}
use Rattle.std.proofs.Common.{sym, refl, ap, ◌∙◌, add-one, arith, length-drop, drop_of_length-le, take_all, drop-cons, eq-eqb, ne_eqb}
use Rattle.std.proofs.Common.{eqb-true}
use lib.Seq.{drop-length}
use Rattle.paths_numbers.specs.meaning.Text.{begins, same, is_empty, starts_with}

-- no test is both true and false
pub not_both : {t : Bool} → t ≡ true → t ≡ false → ⊥
not_both e f = let z : ◌≡◌ {A = ℕ} 0 1 = cc in omega arith

-- what is not true is false
pub is_false : (t : Bool) → (t ≡ true → ⊥) → t ≡ false
is_false true n = absurd (n refl)
is_false false n = refl

-- by whether a test holds
pub by_test : {A : Type 0} (t : Bool) → (t ≡ true → A) → (t ≡ false → A) → A
by_test true f g = f refl
by_test false f g = g refl

-- two tests, the second asked only where the first holds
pub both : (a b : Bool) → cond a b false ≡ true → (a ≡ true) × (b ≡ true)
both true b e = (refl, e)
both false b e = absurd (not_both e refl)

-- texts that are the same are equal
pub same_true : (s t : List ℕ) → same s t ≡ true → s ≡ t
unfolding same
same_true [] [] e = refl
same_true [] (b ∷ t) e = absurd (not_both e refl)
same_true (a ∷ s) [] e = absurd (not_both e refl)
same_true (a ∷ s) (b ∷ t) e =
    let h = both (eqb a b) (same s t) e in
    cc (eqb-true a b h.0, same_true s t h.1)

-- a text is the same as itself
pub same_refl : (s : List ℕ) → same s s ≡ true
unfolding same
same_refl [] = refl
same_refl (a ∷ s) = simp (eq-eqb a a refl, same_refl s)

-- texts that are not the same are not equal
pub same_false : (s t : List ℕ) → same s t ≡ false → s ≡ t → ⊥
same_false s t f e = not_both (rw e (same_refl t)) f

-- texts that are not equal are not the same
pub same_ne : (s t : List ℕ) → (s ≡ t → ⊥) → same s t ≡ false
same_ne s t n = is_false (same s t) (λ e. n (same_true s t e))

-- texts of two lengths are not the same
pub same_lengths : (s t : List ℕ) → (length s ≡ length t → ⊥) → same s t ≡ false
same_lengths s t n = same_ne s t (λ e. n (ap length e))

-- a text of one byte is that of the byte it has, and no other is
pub one_byte : (s : List ℕ) (b : ℕ) → 1 ≤ length s → length s < 2 → get_or s 0 0 ≡ b → same s (b ∷ []) ≡ true
unfolding same
one_byte [] b h k e = absurd (omega arith)
one_byte (a ∷ []) b h k e = simp (eq-eqb a b e)
one_byte (a ∷ a' ∷ s) b h k e = absurd (omega arith)

pub other_byte : (s : List ℕ) (b : ℕ) → (get_or s 0 0 ≡ b → ⊥) → same s (b ∷ []) ≡ false
other_byte s b n = same_ne s (b ∷ []) (λ e. n (ap (λ (l : List ℕ). get_or l 0 0) e))

pub no_bytes : (s : List ℕ) (b : ℕ) → length s < 1 → same s (b ∷ []) ≡ false
no_bytes s b h = same_lengths s (b ∷ []) (λ e. omega arith)

pub more_bytes : (s : List ℕ) (b : ℕ) → 2 ≤ length s → same s (b ∷ []) ≡ false
more_bytes s b h = same_lengths s (b ∷ []) (λ e. omega arith)

pub ruleset one_byte_steps = (one_byte, other_byte, no_bytes, more_bytes)

-- a text that begins with p is p and what follows it
pub begins_split : (s p : List ℕ) → begins s p ≡ true → s ≡ p ++ drop (length p) s
unfolding begins
begins_split s [] e = refl
begins_split [] (b ∷ p) e = absurd (not_both e refl)
begins_split (a ∷ s) (b ∷ p) e =
    let h = both (eqb a b) (begins s p) e in
    cc (eqb-true a b h.0, begins_split s p h.1)

-- p and what follows it begins with p
pub begins_append : (p r : List ℕ) → begins (p ++ r) p ≡ true
unfolding begins
begins_append [] r = refl
begins_append (b ∷ p) r = simp (eq-eqb b b refl, begins_append p r)

-- what a text begins with is not longer
pub begins_length : (s p : List ℕ) → begins s p ≡ true → length p ≤ length s
unfolding begins
begins_length s [] e = omega arith
begins_length [] (b ∷ p) e = absurd (not_both e refl)
begins_length (a ∷ s) (b ∷ p) e = omega (arith, begins_length s p (both (eqb a b) (begins s p) e).1)

-- a text begins with no longer one
pub begins_short : (s p : List ℕ) → length s < length p → begins s p ≡ false
begins_short s p h = is_false (begins s p) (λ e. omega (arith, begins_length s p e))

-- of two texts as long, one begins with the other only if they are the same
pub begins_same : (s t : List ℕ) → length s ≡ length t → begins s t ≡ same s t
unfolding begins same
begins_same [] [] h = refl
begins_same [] (b ∷ t) h = refl
begins_same (a ∷ s) [] h = absurd (omega arith)
begins_same (a ∷ s) (b ∷ t) h = rw (begins_same s t (omega arith)) refl

-- a text begins with itself
pub begins_refl : (s : List ℕ) → begins s s ≡ true
begins_refl s = begins_same s s refl ∙ same_refl s

-- w is whether s begins with p, and the invariant of a comparison says that it is decided by what is left of both
module _ (s p : List ℕ) (i : ℕ) (w : Bool) (inv : w ≡ begins (drop i s) (drop i p)) where
  -- the bytes at i are not the same
  pub differs : i < length s → i < length p → (get_or s i 0 ≡ get_or p i 0 → ⊥) → false ≡ w
  unfolding begins
  differs h k n = sym (inv ∙ rw (drop-cons s i 0 h, drop-cons p i 0 k) (simp (ne_eqb _ _ n)))

  -- they are the same
  pub agrees : i < length s → i < length p → get_or s i 0 ≡ get_or p i 0 → w ≡ begins (drop (i + 1) s) (drop (i + 1) p)
  unfolding begins
  agrees h k e = inv ∙ rw (drop-cons s i 0 h, drop-cons p i 0 k, add-one) (simp (eq-eqb _ _ e))

  -- there are no more
  pub agreed : length p ≤ i → true ≡ w
  unfolding begins
  agreed h = sym (inv ∙ rw (drop_of_length-le p h) refl)

-- a text of length 0 is empty
pub is_empty_lem : (s : List ℕ) → length s ≡ 0 → is_empty s ≡ true
unfolding is_empty
is_empty_lem [] h = refl
is_empty_lem (b ∷ s) h = absurd (omega arith)

-- and no other
pub not_empty : (s : List ℕ) → (length s ≡ 0 → ⊥) → is_empty s ≡ false
unfolding is_empty
not_empty [] h = absurd (h refl)
not_empty (b ∷ s) h = refl

-- what starts at an index of a text starts with the byte there
pub starts_at : (b : ℕ) (s : List ℕ) (i : ℕ) → i < length s → starts_with b (drop i s) ≡ eqb (get_or s i 0) b
unfolding starts_with
starts_at b s i h = rw (drop-cons s i 0 h) refl

-- a text that starts with b is b and the rest
pub starts_split : (b : ℕ) (s : List ℕ) → starts_with b s ≡ true → s ≡ b ∷ drop 1 s
unfolding starts_with
starts_split b [] e = absurd (not_both e refl)
starts_split b (a ∷ s) e = cc (eqb-true a b e)

-- what follows a text does not change how it starts
pub starts_append : (b : ℕ) (s t : List ℕ) → starts_with b s ≡ true → starts_with b (s ++ t) ≡ true
unfolding starts_with
starts_append b [] t e = absurd (not_both e refl)
starts_append b (a ∷ s) t e = e

-- the part of a text from an index to its end is what is left there
pub rest : (s : List ℕ) (k : ℕ) → take (length s - k) (drop k s) ≡ drop k s
rest s k = take_all (length s - k) (drop k s) (omega (arith, length-drop k s))

-- the part behind its end is empty
pub no_rest : (s : List ℕ) → take (length s - length s) (drop (length s) s) ≡ []
no_rest s = rest s (length s) ∙ drop-length s

-- a text with no byte is the empty one
pub no_byte : (s : List ℕ) → length s ≡ 0 → s ≡ []
no_byte [] h = refl
no_byte (b ∷ s) h = absurd (omega arith)

-- what holds of both values holds of the one that is chosen
pub cond_in : {A : Type 0} (P : A → Type 0) (t : Bool) {x y : A} → P x → P y → P (cond t x y)
cond_in P true p q = p
cond_in P false p q = q
