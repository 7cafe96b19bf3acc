-- The first "/" of a text: where it stands, and the texts before and behind it.
use Rattle.std.proofs.Common.{◌≡◌, ℕ, suc, ◌+◌, ◌<◌, ◌≤◌, Bool, true, false, eqb, List, [], ◌∷◌, ◌++◌, length, take, drop, refl, sym, subst}
use Rattle.std.proofs.Common.{ap, ◌∙◌, arith, length-take, eqb-true}
use Rattle.std.specs.Prelude.{Option, Some, None}
use native.Mathlib.Nat.{min-le_right}
use Rattle.slashes.specs.meaning.Slash.{first_from, next_slash, Stands, FirstOrNone}
use Rattle.slashes.proofs.First.{first_or_none}
use Rattle.paths_numbers.specs.meaning.Byte.{slash}
use Rattle.paths_numbers.specs.meaning.Text.{starts_with}
use Rattle.paths_numbers.specs.meaning.Reference.{before_slash, behind_slash, has_slash}

-- where the search finds it, or n
abbrev pub place_or : ℕ → Option ℕ → ℕ
place_or n (Some k) = k
place_or n None = n

-- the search finds it behind the text before it, and nothing where that is the whole
first_before : (s : List ℕ) (i : ℕ) → place_or (i + length s) (first_from i s) ≡ i + length (before_slash s)
unfolding first_from before_slash
first_before [] i = refl
first_before (b ∷ s) i = go (first_before s (suc i)) (eqb b slash) refl
  where
    go : place_or (suc i + length s) (first_from (suc i) s) ≡ suc i + length (before_slash s) → (t : Bool) → eqb b slash ≡ t
        → place_or (i + suc (length s)) (first_from i (b ∷ s)) ≡ i + length (before_slash (b ∷ s))
    go r true e = rw e (omega arith)
    go r false e = rw e (ap (λ (n : ℕ). place_or n (first_from (suc i) s)) (omega arith) ∙ r ∙ omega arith)

pub next_before : (s : List ℕ) → place_or (length s) (next_slash s 0) ≡ length (before_slash s)
unfolding next_slash
next_before s = ap (λ (n : ℕ). place_or n (first_from 0 s)) (omega arith) ∙ first_before s 0 ∙ omega arith

-- what it finds is inside the text
pub next_inside : (s : List ℕ) (k : ℕ) → Some k ≡ next_slash s 0 → k < length s
unfolding Stands FirstOrNone
next_inside s k e = (subst (Stands s 0) (sym e) (first_or_none s 0)).inside

-- the texts before and behind the first "/" are the parts around its place
pub take_before : (s : List ℕ) → take (length (before_slash s)) s ≡ before_slash s
unfolding before_slash
take_before [] = refl
take_before (b ∷ s) = go (take_before s) (eqb b slash) refl
  where
    go : take (length (before_slash s)) s ≡ before_slash s → (t : Bool) → eqb b slash ≡ t
        → take (length (before_slash (b ∷ s))) (b ∷ s) ≡ before_slash (b ∷ s)
    go r true e = rw e refl
    go r false e = rw e (ap (λ (l : List ℕ). b ∷ l) r)

pub drop_behind : (s : List ℕ) → drop (suc (length (before_slash s))) s ≡ behind_slash s
unfolding before_slash behind_slash
drop_behind [] = refl
drop_behind (b ∷ s) = go (drop_behind s) (eqb b slash) refl
  where
    go : drop (suc (length (before_slash s))) s ≡ behind_slash s → (t : Bool) → eqb b slash ≡ t
        → drop (suc (length (before_slash (b ∷ s)))) (b ∷ s) ≡ behind_slash (b ∷ s)
    go r true e = rw e refl
    go r false e = rw e r

-- the text before it is no longer than the whole
pub before_length : (s : List ℕ) → length (before_slash s) ≤ length s
before_length s = omega (
  arith,
  ap length (take_before s),
  length-take (length (before_slash s)) s,
  min-le_right (length (before_slash s))
      (length s),
)

-- there is a "/" where the text before it is shorter than the whole, and else none
pub slash_found : (s : List ℕ) → length (before_slash s) < length s → has_slash s ≡ true
unfolding before_slash has_slash
slash_found [] h = absurd (omega arith)
slash_found (b ∷ s) h = go (slash_found s) (eqb b slash) refl
  where
    go : (length (before_slash s) < length s → has_slash s ≡ true) → (t : Bool) → eqb b slash ≡ t → has_slash (b ∷ s) ≡ true
    go r true e = simp e
    go r false e = let k : suc (length (before_slash s)) < suc (length s) = rw e at h in simp e (r (omega arith))

pub slash_missing : (s : List ℕ) → length s ≤ length (before_slash s) → has_slash s ≡ false
unfolding before_slash has_slash
slash_missing [] h = refl
slash_missing (b ∷ s) h = go (slash_missing s) (eqb b slash) refl
  where
    go : (length s ≤ length (before_slash s) → has_slash s ≡ false) → (t : Bool) → eqb b slash ≡ t → has_slash (b ∷ s) ≡ false
    go r true e = let k : suc (length s) ≤ 0 = rw e at h in absurd (omega arith)
    go r false e = let k : suc (length s) ≤ suc (length (before_slash s)) = rw e at h in simp e (r (omega arith))

-- it is the first byte where nothing stands before it, and else not
pub slash_first : (s : List ℕ) → 0 < length s → length (before_slash s) ≡ 0 → starts_with slash s ≡ true
unfolding before_slash starts_with
slash_first [] h k = absurd (omega arith)
slash_first (b ∷ s) h k = go (eqb b slash) refl
  where
    go : (t : Bool) → eqb b slash ≡ t → eqb b slash ≡ true
    go true e = e
    go false e = let l : suc (length (before_slash s)) ≡ 0 = rw e at k in absurd (omega arith)

pub slash_inside : (s : List ℕ) → (0 < length s → length (before_slash s) ≡ 0 → ⊥) → starts_with slash s ≡ false
unfolding before_slash starts_with
slash_inside [] k = refl
slash_inside (b ∷ s) k = go (eqb b slash) refl
  where
    go : (t : Bool) → eqb b slash ≡ t → eqb b slash ≡ false
    go true e = absurd (k (omega arith) (rw e refl))
    go false e = e

-- a text with a "/" is what stands before it, it, and what stands behind it
pub slash_split : (s : List ℕ) → has_slash s ≡ true → s ≡ before_slash s ++ slash ∷ behind_slash s
unfolding before_slash behind_slash has_slash
slash_split [] h = let f : false ≡ true = h in let z : ◌≡◌ {A = ℕ} 0 1 = cc in absurd (omega arith)
slash_split (b ∷ s) h = go (slash_split s) (eqb b slash) refl
  where
    go : (has_slash s ≡ true → s ≡ before_slash s ++ slash ∷ behind_slash s) → (t : Bool) → eqb b slash ≡ t
        → b ∷ s ≡ before_slash (b ∷ s) ++ slash ∷ behind_slash (b ∷ s)
    go r true e = rw e (ap (λ (a : ℕ). a ∷ s) (eqb-true b slash e))
    go r false e = rw e (ap (λ (l : List ℕ). b ∷ l) (r (rw e at h)))

-- what stands before the first "/" has none, and is not empty unless the text starts with it
pub before_none : (s : List ℕ) → has_slash (before_slash s) ≡ false
unfolding before_slash has_slash
before_none [] = refl
before_none (b ∷ s) = go (before_none s) (eqb b slash) refl
  where
    go : has_slash (before_slash s) ≡ false → (t : Bool) → eqb b slash ≡ t → has_slash (before_slash (b ∷ s)) ≡ false
    go r true e = rw e refl
    go r false e = simp e r

pub before_some : (s : List ℕ) → has_slash s ≡ true → starts_with slash s ≡ false → before_slash s ≡ [] → ⊥
unfolding before_slash has_slash starts_with
before_some [] h n e = let f : false ≡ true = h in let z : ◌≡◌ {A = ℕ} 0 1 = cc in omega arith
before_some (b ∷ s) h n e = let f : b ∷ before_slash s ≡ [] = simp n at e in omega (arith, ap length f)
