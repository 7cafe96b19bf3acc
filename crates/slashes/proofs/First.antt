-- `first_or_none`: what the search gives is the first "/" at or behind a place, and it gives none only where there is none.
use Prim.Native.Nat.{ℕ, zero, suc, ◌+◌, ◌-◌, ◌≤◌, ◌<◌}
use mathlib.Core.Path.{◌≡◌, refl, sym, ap, ◌∙◌}
use mathlib.Core.Bool.{Bool, true, false, cond}
use Rattle.std.specs.Prelude.{Option, Some, None}
use mathlib.Core.List.{List, [], ◌∷◌}
use native.Mathlib.Omega.{arith}
use borrow.Author.Tests.{eqb-true, eqb-false}
use lib.Dec.{eqb}
use lib.ListN.{length, drop, get_or, length-drop}
use lib.Seq.{get_or-drop}
use Rattle.slashes.specs.meaning.Slash.{slash, first_from, next_slash, NoSlash, Stands, FirstOrNone}

-- the same of a text whose first byte stands at i
Fact : ℕ → List ℕ → Option ℕ → Type 0
Fact i t (Some k) = (i ≤ k) × (k - i < length t) × (get_or t (k - i) 0 ≡ slash) × ((j : ℕ) → i + j < k → get_or t j 0 ≡ slash → ⊥)
Fact i t None = (j : ℕ) → j < length t → get_or t j 0 ≡ slash → ⊥

step : (i b : ℕ) (s : List ℕ) → (b ≡ slash → ⊥) → (f : Option ℕ) → Fact (suc i) s f → Fact i (b ∷ s) f
unfolding Fact
step i b s n (Some k) (l, m, e, g) =
    let d : k - i ≡ suc (k - suc i) = omega arith in
    (omega arith, rw d (omega arith), rw d e, λ j. go j)
  where
    go : (j : ℕ) → i + j < k → get_or (b ∷ s) j 0 ≡ slash → ⊥
    go zero h q = n q
    go (suc j) h q = g j (omega arith) q
step i b s n None g = λ j. go j
  where
    go : (j : ℕ) → j < suc (length s) → get_or (b ∷ s) j 0 ≡ slash → ⊥
    go zero h q = n q
    go (suc j) h q = g j (omega arith) q

fact : (t : List ℕ) (i : ℕ) → Fact i t (first_from i t)
unfolding Fact first_from
fact [] i = λ j h. absurd (omega arith)
fact (b ∷ s) i = go (fact s (suc i)) (eqb b slash) refl
  where
    go : Fact (suc i) s (first_from (suc i) s) → (x : Bool) → eqb b slash ≡ x
        → Fact i (b ∷ s) (cond (eqb b slash) (Some i) (first_from (suc i) s))
    go f true e =
        let z : i - i ≡ 0 = omega arith in
        rw e (omega arith, rw z (omega arith), rw z (eqb-true _ _ e), λ j h. absurd (omega arith))
    go f false e = rw e (step i b s (eqb-false _ _ e) (first_from (suc i) s) f)

same_byte : (s : List ℕ) (from j : ℕ) → from ≤ j → get_or (drop from s) (j - from) 0 ≡ get_or s j 0
same_byte s from j h = get_or-drop from s (j - from) 0 ∙ ap (λ (n : ℕ). get_or s n 0) (omega arith)

whole : (s : List ℕ) (from : ℕ) (f : Option ℕ) → Fact from (drop from s) f → Stands s from f
unfolding Fact Stands NoSlash
whole s from (Some k) (l, m, e, g) = record {
  behind = l;
  inside = omega (arith, length-drop from s);
  slashed = sym (same_byte s from k l) ∙ e;
  before = λ j h q r. g (j - from) (omega arith) (same_byte s from j h ∙ r);
}
whole s from None g = λ j h q r. g (j - from) (omega (arith, length-drop from s)) (same_byte s from j h ∙ r)

pub first_or_none : FirstOrNone
unfolding FirstOrNone next_slash
first_or_none s from = whole s from (first_from from (drop from s)) (fact (drop from s) from)
