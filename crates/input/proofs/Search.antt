-- Searches: what holds where they find nothing, and the lowest record among visits by a search in rising order.
use Prim.Native.Nat.{ℕ, zero, suc, ◌+◌, ◌≤◌, ◌<◌}
use mathlib.Core.Path.{◌≡◌, refl, sym, ap, ◌∙◌}
use mathlib.Core.Bool.{Bool, true, false, cond}
use mathlib.Core.List.{List, [], ◌∷◌, ◌++◌}
use mathlib.Core.Option.{Option, some, none}
use native.Mathlib.Decide.{ℕ_discrete}
use native.Mathlib.Omega.{arith}
use borrow.Author.Tests.{le-leb, lt-leb, leb-false, eqb-true, eqb-false}
use lib.Dec.{eqb, leb}
use Rattle.paths_numbers.proofs.Texts.{by_test, not_both}
use Rattle.paths_numbers.specs.meaning.Lists.{any}
use Rattle.paths_numbers.proofs.Lists.{any_append}
use Rattle.input.specs.meaning.Rows.{lowest, Visit, smaller, lowest_of}
use Rattle.input.proofs.GoodNames.{never}

-- neither of two tests, the second asked only where the first does not hold
pub neither : (a b : Bool) → cond a true b ≡ false → (a ≡ false) × (b ≡ false)
neither true b e = absurd (not_both {t = true} refl e)
neither false b e = (refl, e)

-- none of an element and three lists
pub none_of : {A : Type 0} (f : A → Bool) (a : A) (x y z : List A) → any f (a ∷ (x ++ (y ++ z))) ≡ false
    → (f a ≡ false) × ((any f x ≡ false) × ((any f y ≡ false) × (any f z ≡ false)))
unfolding any
none_of f a x y z e =
    let h = neither (f a) (any f (x ++ (y ++ z))) e in
    let k = neither (any f x) (any f (y ++ z)) (sym (any_append f x (y ++ z)) ∙ h.1) in
    (h.0, (k.0, neither (any f y) (any f z) (sym (any_append f y z) ∙ k.1)))

-- a search that finds nothing: the test fails on all
pub lowest_none : (test : ℕ → Bool) (n r : ℕ) → lowest test n r ≡ none → (k : ℕ) → r ≤ k → k < r + n → test k ≡ false
unfolding lowest
lowest_none test zero r e k a b = absurd (omega arith)
lowest_none test (suc n) r e k a b =
    by_test (test r)
    (λ q. never (sym (rw q at e)))
    (λ q. elim (ℕ_discrete r k) [ yes p ↦ rw (← p) q | no p ↦ lowest_none test n (suc r) (rw q at e) k (omega arith) (omega arith) ])

-- two searches that find nothing together
smaller_none : (a b : Option ℕ) → smaller a b ≡ none → (a ≡ none) × (b ≡ none)
smaller_none none b e = (refl, e)
smaller_none (some m) none e = never (sym e)
smaller_none (some m) (some n) e = by_test (leb m n) (λ q. never (sym (rw q at e))) (λ q. never (sym (rw q at e)))

-- and among visits
pub lowest_of_none : (test : Visit → Bool) (vs : List Visit) → lowest_of test vs ≡ none → any test vs ≡ false
unfolding lowest_of any
lowest_of_none test [] e = refl
lowest_of_none test (v ∷ vs) e =
    let h = smaller_none (cond (test v) (some v.number) none) (lowest_of test vs) e in
    by_test (test v) (λ q. never (sym (rw q at h.0))) (λ q. rw q (lowest_of_none test vs h.1))

-- tests alike find the same
pub lowest_same : (p q : ℕ → Bool) (n r : ℕ) → ((k : ℕ) → r ≤ k → k < r + n → p k ≡ q k) → lowest p n r ≡ lowest q n r
unfolding lowest
lowest_same p q zero r h = refl
lowest_same p q (suc n) r h =
    rw (h r (omega arith) (omega arith), lowest_same p q n (suc r) (λ k a b. h k (omega arith) (omega arith))) refl

-- a search from r on finds nothing smaller than m, where m is at most r
smallest : (p : ℕ → Bool) (n r m : ℕ) → m ≤ r → smaller (some m) (lowest p n r) ≡ some m
unfolding lowest
smallest p zero r m h = refl
smallest p (suc n) r m h =
    by_test (p r) (λ q. rw (q, le-leb m r h) refl) (λ q. rw q (smallest p n (suc r) m (omega arith)))

-- a number more that the test finds
lowest_or : (p : ℕ → Bool) (m n r : ℕ) → r ≤ m → m < r + n
    → lowest (λ (k : ℕ). cond (eqb m k) true (p k)) n r ≡ smaller (some m) (lowest p n r)
unfolding lowest
lowest_or p m zero r a b = absurd (omega arith)
lowest_or p m (suc n) r a b =
    by_test (eqb m r)
    (λ q.
    let e : m ≡ r = eqb-true m r q in
    rw q (ap (λ (x : ℕ). some x) (sym e) ∙ sym (smallest p (suc n) r m (omega arith))))
    (λ q. by_test (p r)
    (λ t. rw (q, t, lt-leb m r (omega (arith, eqb-false m r q))) refl)
    (λ t. rw (q, t) (lowest_or p m n (suc r) (omega (arith, eqb-false m r q)) (omega arith))))

-- a test that finds nothing
lowest_nothing : (n r : ℕ) → lowest (λ (k : ℕ). false) n r ≡ none
unfolding lowest
lowest_nothing zero r = refl
lowest_nothing (suc n) r = lowest_nothing n (suc r)

-- a test of record k alone
abbrev pub only : (Visit → Bool) → ℕ → Visit → Bool
only test k v = cond (eqb v.number k) (test v) false

-- the lowest record among visits is that of a search in rising order, up to a number that all visits' records are below
pub lowest_of_rising : (test : Visit → Bool) (n : ℕ) (vs : List Visit) → any (λ (v : Visit). leb n v.number) vs ≡ false
    → lowest_of test vs ≡ lowest (λ (k : ℕ). any (only test k) vs) n 0
unfolding lowest_of any
lowest_of_rising test n [] e = sym (lowest_nothing n 0)
lowest_of_rising test n (v ∷ vs) e =
    let h = neither (leb n v.number) _ e in
    let ih = lowest_of_rising test n vs h.1 in
    by_test (test v)
    (λ q. rw (q, ih)
    (sym
    (lowest_same _ (λ (k : ℕ). cond (eqb v.number k) true (any (only test k) vs)) n 0
    (λ k a b. by_test (eqb v.number k) (λ t. rw t refl) (λ t. rw t refl))
    ∙ lowest_or (λ (k : ℕ). any (only test k) vs) v.number n 0 (omega arith) (omega (arith, leb-false n v.number h.0)))))
    (λ q. rw (q, ih)
    (sym
    (lowest_same _ (λ (k : ℕ). any (only test k) vs) n 0
    (λ k a b. by_test (eqb v.number k) (λ t. rw t refl) (λ t. rw t refl)))))
