-- The number of a place's file is that of the last start not above it, in plain words.
use Prim.Native.Nat.{ℕ, zero, suc, ◌+◌, ◌≤◌, ◌<◌}
use mathlib.Core.Path.{◌≡◌, refl, sym}
use mathlib.Core.Bool.{true, false, cond}
use mathlib.Core.List.{List, [], ◌∷◌}
use native.Mathlib.Omega.{arith}
use borrow.Author.Tests.{eqb-true, leb-true, leb-false, ltb-true, ltb-false}
use lib.Dec.{eqb, leb, ltb}
use lib.ListN.{length, get_or}
use Rattle.paths_numbers.proofs.Texts.{by_test, not_both, both}
use Rattle.files.specs.meaning.Files.{most_files, rises, good_files, last_from, file_of, LastNotAbove, FileIsLast}

-- what a search among starts that are numbered from n on gives: what was found before, where all are above, or the last that is not
data Searched (before n place : ℕ) (l : List ℕ) (r : ℕ) : Type 0 where
  all_above : r ≡ before → ((k : ℕ) → k < length l → place < get_or l k 0) → Searched before n place l r
  one_not : (j : ℕ) → j < length l → r ≡ n + j → get_or l j 0 ≤ place → ((k : ℕ) → j < k → k < length l → place < get_or l k 0)
      → Searched before n place l r

-- one start in front
module _ (before n place a : ℕ) (l : List ℕ) where
  above_next : ((k : ℕ) → k < length l → place < get_or l k 0) → (k : ℕ) → 0 < k → k < length (a ∷ l) → place < get_or (a ∷ l) k 0
  above_next f zero h i = absurd (omega arith)
  above_next f (suc k) h i = f k (omega arith)

  at-start : {r : ℕ} → r ≡ n → r ≡ n + 0
  at-start e = omega arith

  in_front : {r : ℕ} → Searched (cond (leb a place) n before) (n + 1) place l r → Searched before n place (a ∷ l) r
  in_front (one_not j h e p f) =
      one_not (suc j) (omega arith) (omega arith) p (λ k i q. later k i q)
    where
      later : (k : ℕ) → suc j < k → k < length (a ∷ l) → place < get_or (a ∷ l) k 0
      later zero i q = absurd (omega arith)
      later (suc k) i q = f k (omega arith) (omega arith)
  in_front (all_above e f) =
      by_test (leb a place)
      (λ t. one_not 0 (omega arith) (at-start (rw t at e)) (leb-true a place t) (above_next f))
      (λ t. all_above (rw t at e) (λ k h. first t k h))
    where
      first : leb a place ≡ false → (k : ℕ) → k < length (a ∷ l) → place < get_or (a ∷ l) k 0
      first t zero h = leb-false a place t
      first t (suc k) h = f k (omega arith)

searched : (before n place : ℕ) (l : List ℕ) → Searched before n place l (last_from before n l place)
unfolding last_from
searched before n place [] = all_above refl (λ k h. absurd (omega arith))
searched before n place (a ∷ l) = in_front before n place a l (searched (cond (leb a place) n before) (n + 1) place l)

-- a good list begins with 0, which is above no place
begins_with_0 : (starts : List ℕ) → good_files starts ≡ true → (0 < length starts) × (get_or starts 0 0 ≡ 0)
unfolding good_files
begins_with_0 [] h = absurd (not_both h refl)
begins_with_0 (a ∷ l) h =
    let q = both (leb (length (a ∷ l)) most_files) _ h in
    (omega arith, eqb-true a 0 (both (eqb a 0) (rises (a ∷ l)) q.1).0)

pub file_is_last : FileIsLast
unfolding FileIsLast file_of
file_is_last starts place good = go (searched 0 0 place starts)
  where
    go : Searched 0 0 place starts (last_from 0 0 starts place) → LastNotAbove starts place (last_from 0 0 starts place)
    go (all_above e f) =
        let b = begins_with_0 starts good in
        absurd (omega (arith, f 0 b.0, b.1))
    go (one_not j h e p f) = let q : last_from 0 0 starts place ≡ j = omega arith in rw q (record { one = h; not_above = p; last = f })

-- the only one
pub found_last : (starts : List ℕ) (place i : ℕ) → i < length starts → get_or starts i 0 ≤ place
    → ((k : ℕ) → i + 1 ≤ k → k < length starts → place < get_or starts k 0) → i ≡ file_of starts place
unfolding file_of
found_last starts place i h p f = go (searched 0 0 place starts)
  where
    go : Searched 0 0 place starts (last_from 0 0 starts place) → i ≡ last_from 0 0 starts place
    go (all_above e g) = absurd (omega (arith, g i h))
    go (one_not j h' e p' g) =
        by_test (ltb i j)
        (λ t. absurd (omega (arith, f j (omega (arith, ltb-true i j t)) h')))
        (λ t. by_test (ltb j i)
        (λ u. absurd (omega (arith, g i (ltb-true j i u) h)))
        (λ u. omega (arith, ltb-false i j t, ltb-false j i u)))

-- where there is none, file 0
pub found_none : (starts : List ℕ) (place : ℕ) → ((k : ℕ) → k < length starts → place < get_or starts k 0) → 0 ≡ file_of starts place
unfolding file_of
found_none starts place f = go (searched 0 0 place starts)
  where
    go : Searched 0 0 place starts (last_from 0 0 starts place) → 0 ≡ last_from 0 0 starts place
    go (all_above e g) = sym e
    go (one_not j h e p g) = absurd (omega (arith, f j h))
