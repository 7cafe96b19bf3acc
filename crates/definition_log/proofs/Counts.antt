-- How often a number is in a list, and how many numbers below a bound are not in it.
use Prim.Native.Nat.{ℕ, zero, suc, ◌+◌, ◌≤◌, ◌<◌}
use mathlib.Core.Path.{◌≡◌, refl}
use mathlib.Core.Bool.{true, false, cond}
use mathlib.Core.List.{List, [], ◌∷◌, ◌++◌}
use native.Mathlib.Omega.{arith}
use borrow.Author.Tests.{eq-eqb, ne_eqb, eqb-true, eqb-false}
use lib.Dec.{eqb}
use Rattle.paths_numbers.proofs.Texts.{by_test}
use Rattle.definition_log.specs.meaning.Sound.{times}

-- over two lists
pub times_append : (r : ℕ) (x y : List ℕ) → times r (x ++ y) ≡ times r x + times r y
unfolding times
times_append r [] y = omega arith
times_append r (a ∷ x) y = omega (arith, times_append r x y)

-- the first element, and another
pub times_same : (a : ℕ) (l : List ℕ) → times a (a ∷ l) ≡ suc (times a l)
unfolding times
times_same a l = rw (eq-eqb a a refl) (omega arith)

pub times_other : (a b : ℕ) (l : List ℕ) → (a ≡ b → ⊥) → times b (a ∷ l) ≡ times b l
unfolding times
times_other a b l n = rw (ne_eqb a b n) (omega arith)

-- one more element does not make it less often
pub times_more : (a b : ℕ) (l : List ℕ) → times b l ≤ times b (a ∷ l)
unfolding times
times_more a b l = omega arith

-- how many numbers below n are not in a list
unfoldable pub unmet : ℕ → List ℕ → ℕ
unmet zero l = 0
unmet (suc n) l = cond (eqb (times n l) 0) 1 0 + unmet n l

pub unmet_le : (n : ℕ) (l : List ℕ) → unmet n l ≤ n
unfolding unmet
unmet_le zero l = omega arith
unmet_le (suc n) l = by_test (eqb (times n l) 0) (λ e. rw e (omega (arith, unmet_le n l))) (λ e. rw e (omega (arith, unmet_le n l)))

-- a number below n that is not in it is one of them
pub unmet_one : (n a : ℕ) (l : List ℕ) → a < n → times a l ≡ 0 → 1 ≤ unmet n l
unfolding unmet
unmet_one zero a l h e = absurd (omega arith)
unmet_one (suc n) a l h e =
    by_test (eqb n a)
    (λ t. let k : eqb (times n l) 0 ≡ true = eq-eqb (times n l) 0 (rw (eqb-true n a t) e) in rw k (omega arith))
    (λ t. let k = eqb-false n a t in omega (arith, unmet_one n a l (omega arith) e))

-- with one more element there are not more
pub unmet_more : (n a : ℕ) (l : List ℕ) → unmet n (a ∷ l) ≤ unmet n l
unfolding unmet
unmet_more zero a l = omega arith
unmet_more (suc n) a l =
    let h = unmet_more n a l in
    by_test (eqb (times n (a ∷ l)) 0)
    (λ t.
    let z = eqb-true (times n (a ∷ l)) 0 t in
    let k : eqb (times n l) 0 ≡ true = eq-eqb (times n l) 0 (omega (arith, times_more a n l)) in
    rw (t, k) (omega arith))
    (λ t. rw t (omega arith))

-- and fewer, where it is new
pub unmet_new : (n a : ℕ) (l : List ℕ) → a < n → times a l ≡ 0 → suc (unmet n (a ∷ l)) ≤ unmet n l
unfolding unmet
unmet_new zero a l h e = absurd (omega arith)
unmet_new (suc n) a l h e =
    by_test (eqb a n)
    (λ t.
    let q = eqb-true a n t in
    let k : eqb (times n l) 0 ≡ true = eq-eqb (times n l) 0 (rw q at e) in
    let m : eqb (times n (a ∷ l)) 0 ≡ false = ne_eqb (times n (a ∷ l)) 0
    (λ (z : times n (a ∷ l) ≡ 0). omega (arith, times_same n l, rw q at z)) in
    rw (k, m) (omega (arith, unmet_more n a l)))
    (λ t.
    let q = eqb-false a n t in
    rw (times_other a n l q) (omega (arith, unmet_new n a l (omega arith) e)))
