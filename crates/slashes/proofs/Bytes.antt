-- A test that holds of each byte, because the checker computes it for all 256.
use Prim.Native.Nat.{ℕ, zero, suc, ◌<◌}
use mathlib.Core.Path.{subst}
use mathlib.Core.Bool.{Bool, true, false}
use native.Mathlib.Nat.{not-suc-le-zero}
use native.Mathlib.Omega.{arith}
use native.Mathlib.Decide.{ℕ_discrete}
use lib.Dec.{T}

abbrev both : Bool → Bool → Bool
both true b = b
both false b = false

both_left : (a b : Bool) → T (both a b) → T a
both_left true b t = tt
both_left false b t = t

both_right : (a b : Bool) → T (both a b) → T b
both_right true b t = t
both_right false b t = absurd t

-- whether a test holds of each number below n
abbrev pub up_to : (ℕ → Bool) → ℕ → Bool
up_to test zero = true
up_to test (suc n) = both (test n) (up_to test n)

pub below : (test : ℕ → Bool) (n : ℕ) → T (up_to test n) → (k : ℕ) → k < n → T (test k)
below test zero t k h = absurd (not-suc-le-zero h)
below test (suc n) t k h =
    elim (ℕ_discrete k n) [
      | yes p ↦ subst (λ (m : ℕ). T (test m)) (omega arith) (both_left (test n) (up_to test n) t)
      | no p ↦ below test n (both_right (test n) (up_to test n) t) k (omega arith)
    ]
