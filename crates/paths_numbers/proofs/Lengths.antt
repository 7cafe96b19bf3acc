-- Lengths that are cut at a largest number: `at_most m n` is n, or m where n is larger.
use Rattle.std.proofs.Common.{◌≡◌, ℕ, ◌+◌, ◌<◌, ◌≤◌, Bool, true, false, eqb, leb, sym, refl, ◌∙◌, arith, ne_eqb, le-leb, leb-false}
use Rattle.std.proofs.Common.{leb-true, min}
use Rattle.paths_numbers.specs.meaning.Path.{at_most}
use Rattle.paths_numbers.proofs.Texts.{by_test}

-- what is not larger is kept
pub kept : (m n : ℕ) → n ≤ m → at_most m n ≡ n
kept m n h = simp (le-leb n m h)

-- the smaller of the two
pub cut_min : (m n : ℕ) → min n m ≡ at_most m n
cut_min m n = by_test (leb n m) (λ e. let h = leb-true n m e in rw e (omega arith)) (λ e. let h = leb-false n m e in rw e (omega arith))

-- what is as large or larger is cut
pub cut : (m n : ℕ) → m ≤ n → at_most m n ≡ m
cut m n h =
    by_test (leb n m)
    (λ e. rw e (omega (arith, leb-true n m e)))
    (λ e. rw e refl)

-- nothing is made larger
pub cut_le : (m n r : ℕ) → r ≡ at_most m n → r ≤ n
cut_le m n r q =
    by_test (leb n m)
    (λ e. omega (arith, kept m n (leb-true n m e)))
    (λ e. let h = leb-false n m e in omega (arith, cut m n (omega arith)))

-- what is left below the largest number was not cut
pub uncut : (m n r : ℕ) → r ≡ at_most m n → r < m → r ≡ n
uncut m n r q h =
    by_test (leb n m)
    (λ e. q ∙ kept m n (leb-true n m e))
    (λ e. let k = leb-false n m e in absurd (omega (arith, cut m n (omega arith))))

-- another length than k after the cut is another before
pub other : (m n r k : ℕ) → r ≡ at_most m n → k ≤ m → (r ≡ k → ⊥) → n ≡ k → ⊥
other m n r k q h ne e = ne (q ∙ kept m n (omega arith) ∙ e)

module _ (m a b x y : ℕ) (e : x ≡ at_most m a) (f : y ≡ at_most m b) where
  -- by which of two lengths that may be cut are cut
  cut_sums : (t u : Bool) → leb a m ≡ t → leb b m ≡ u → at_most m (x + y) ≡ at_most m (a + b)
  cut_sums true true h k = rw (e, f, kept m a (leb-true a m h), kept m b (leb-true b m k)) refl
  cut_sums true false h k =
      let l = leb-false b m k in
      let n = cut m b (omega arith) in
      cut m (x + y) (omega arith) ∙ sym (cut m (a + b) (omega arith))
  cut_sums false u h k =
      let l = leb-false a m h in
      let n = cut m a (omega arith) in
      cut m (x + y) (omega arith) ∙ sym (cut m (a + b) (omega arith))

  -- their sum is cut where the sum of the lengths is
  pub cut_sum : at_most m (x + y) ≡ at_most m (a + b)
  cut_sum = cut_sums (leb a m) (leb b m) refl refl

-- a number below the largest is a length after the cut where it is one before
pub cut_test : (m n k : ℕ) → k < m → eqb (at_most m n) k ≡ eqb n k
cut_test m n k h =
    by_test (leb n m)
    (λ e. rw e refl)
    (λ e. rw (e, ne_eqb m k (λ q. omega arith), ne_eqb n k (λ q. omega (arith, leb-false n m e))) refl)
