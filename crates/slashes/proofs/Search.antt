-- The search goes over a block of bytes at once, or over one byte.
use Prim.Native.Nat.{ℕ, suc, ◌+◌, ◌/◌, ◌≤◌, ◌<◌}
use mathlib.Core.Path.{◌≡◌, refl, sym, ap, ◌∙◌}
use mathlib.Core.Bool.{Bool, true, false, cond}
use Rattle.std.proofs.Common.{◌==◌}
use Rattle.std.proofs.lemmas.Iterator.Adapters.{position_from-zero}
use Rattle.std.specs.Prelude.{Option, Some, None, option_map, position}
use Rattle.std.specs.List.{position_from}
use mathlib.Core.List.{List, [], ◌∷◌, ◌++◌, map}
use native.Mathlib.Numerals.{add-one}
use native.Mathlib.Omega.{arith}
use borrow.Author.Tests.{eq-eqb, ne_eqb}
use lib.Count.{count_trailing_zeros}
use lib.Dec.{eqb}
use lib.ListN.{length, take, drop, get_or, take-append-drop, length-drop, drop_of_length-le}
use lib.Seq.{drop-cons, drop-drop, length-take-le}
use Rattle.slashes.specs.meaning.Slash.{slash, first_from, next_slash}
use Rattle.slashes.specs.machine.Word.{Loaded, Marked, word, mark_of}
use Rattle.slashes.proofs.Zeros.{before, digits_of, zeros_before}

-- the first "/" is in the block, or behind it
in_block : (t r : List ℕ) (i : ℕ) → before t < length t → first_from i (t ++ r) ≡ Some (i + before t)
unfolding first_from before
in_block [] r i h = absurd (omega arith)
in_block (b ∷ s) r i h = go (λ k. in_block s r (suc i) k) (eqb b slash) refl h
  where
    go : (before s < length s → first_from (suc i) (s ++ r) ≡ Some (suc i + before s)) → (x : Bool) → eqb b slash ≡ x
        → cond (eqb b slash) 0 (suc (before s)) < suc (length s)
        → cond (eqb b slash) (Some i) (first_from (suc i) (s ++ r)) ≡ Some (i + cond (eqb b slash) 0 (suc (before s)))
    go f true e h = simp e (ap Some (omega arith))
    go f false e h = simp e (f (omega (arith, simp e at h)) ∙ ap Some (omega arith))

past_block : (t r : List ℕ) (i : ℕ) → length t ≤ before t → first_from i (t ++ r) ≡ first_from (i + length t) r
unfolding first_from before
past_block [] r i h = ap (λ (n : ℕ). first_from n r) (omega arith)
past_block (b ∷ s) r i h = go (λ k. past_block s r (suc i) k) (eqb b slash) refl h
  where
    go : (length s ≤ before s → first_from (suc i) (s ++ r) ≡ first_from (suc i + length s) r) → (x : Bool) → eqb b slash ≡ x
        → suc (length s) ≤ cond (eqb b slash) 0 (suc (before s))
        → cond (eqb b slash) (Some i) (first_from (suc i) (s ++ r)) ≡ first_from (i + suc (length s)) r
    go f true e h = absurd (omega (arith, simp e at h))
    go f false e h = simp e (f (omega (arith, simp e at h)) ∙ ap (λ (n : ℕ). first_from n r) (omega arith))

module _ (s : List ℕ) (i n : ℕ) where
  block_hit : length (take n (drop i s)) ≡ n → before (take n (drop i s)) < n → next_slash s i ≡ Some (i + before (take n (drop i s)))
  unfolding next_slash
  block_hit e h =
      ap (first_from i) (sym (take-append-drop n (drop i s))) ∙ in_block (take n (drop i s)) (drop n (drop i s)) i (omega arith)

  block_missed : length (take n (drop i s)) ≡ n → n ≤ before (take n (drop i s)) → next_slash s i ≡ next_slash s (i + n)
  unfolding next_slash
  block_missed e h =
      ap (first_from i) (sym (take-append-drop n (drop i s))) ∙ past_block (take n (drop i s)) (drop n (drop i s)) i (omega arith)
      ∙ ap (λ (k : ℕ). first_from (i + k) (drop n (drop i s))) e ∙ ap (first_from (i + n)) (drop-drop n i s)

-- at the first byte, or behind it
module _ (s : List ℕ) (i : ℕ) where
  pub here : i < length s → get_or s i 0 ≡ slash → next_slash s i ≡ Some i
  unfolding next_slash first_from
  here h e = rw (drop-cons s i 0 h) (simp (eq-eqb _ _ e))

  pub later : i < length s → (get_or s i 0 ≡ slash → ⊥) → next_slash s i ≡ next_slash s (i + 1)
  unfolding next_slash first_from
  later h e = rw (drop-cons s i 0 h, add-one) (simp (ne_eqb _ _ e))

-- the search a byte at a time, and behind the end
by_position : (s : List ℕ) (i j : ℕ) → first_from (i + j) s ≡ option_map (λ k. i + k) (position_from (λ b. b == slash) j s)
unfolding first_from
by_position [] i j = refl
by_position (b ∷ s) i j = go (by_position s i (j + 1)) (eqb b slash) refl
  where
    go : first_from (i + (j + 1)) s ≡ option_map (λ k. i + k) (position_from (λ b. b == slash) (j + 1) s) → (x : Bool) → eqb b slash ≡ x
        → first_from (i + j) (b ∷ s) ≡ option_map (λ k. i + k) (position_from (λ b. b == slash) j (b ∷ s))
    go f true e = rw e refl
    go f false e = rw e (ap (λ (n : ℕ). first_from n s) (omega arith) ∙ f)

pub at_position : (s r : List ℕ) (i : ℕ) (f : Option ℕ) → r ≡ drop i s → f ≡ position (λ b. b == slash) r
    → option_map (λ k. i + k) f ≡ next_slash s i
unfolding next_slash
at_position s r i f e h =
    ap (option_map (λ k. i + k)) (h ∙ ap (position (λ b. b == slash)) e ∙ position_from-zero (λ b. b == slash) (drop i s))
    ∙ sym (by_position (drop i s) i 0)
    ∙ ap (λ (n : ℕ). first_from n (drop i s)) (omega arith)

pub done : (s : List ℕ) (i : ℕ) → length s ≤ i → next_slash s i ≡ None
unfolding next_slash first_from
done s i h = rw (drop_of_length-le s h) refl

-- the eight bytes of a word, by its marks
sixty_four : (n : ℕ) → n ≡ 8 → 64 ≡ digits_of n
unfolding digits_of
sixty_four n e = rw e refl

place : (t : List ℕ) (w m : ℕ) → length t ≡ 8 → Loaded t w → Marked w m
    → count_trailing_zeros 64 m / 8 ≡ before t
place t w m e l f =
    ap (λ (n : ℕ). count_trailing_zeros 64 n / 8) (f t l.bytes e l.same)
    ∙ ap (λ (n : ℕ). count_trailing_zeros n (word (map mark_of t)) / 8) (sixty_four (length t) e)
    ∙ zeros_before t

module _ (s : List ℕ) (i w m : ℕ) (h : i + 8 ≤ length s) (l : Loaded (take 8 (drop i s)) w)
    (f : Marked w m) where
  eight : length (take 8 (drop i s)) ≡ 8
  eight = length-take-le 8 (drop i s) (omega (arith, length-drop i s))

  pub marked_hit : count_trailing_zeros 64 m / 8 < 8 → next_slash s i ≡ Some (i + count_trailing_zeros 64 m / 8)
  marked_hit k =
      let e = place (take 8 (drop i s)) w m eight l f in
      block_hit s i 8 eight (omega (arith, e)) ∙ ap (λ (n : ℕ). Some (i + n)) (sym e)

  pub marked_missed : 8 ≤ count_trailing_zeros 64 m / 8 → next_slash s i ≡ next_slash s (i + 8)
  marked_missed k = block_missed s i 8 eight (omega (arith, place (take 8 (drop i s)) w m eight l f))
