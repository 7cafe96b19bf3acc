-- Signed numbers of 64 bits as the machine reads them: the test of the sign, the cast, and -1 minus one of them.
use Rattle.std.proofs.Common.{◌≡◌, ℕ, zero, suc, ◌+◌, ◌-◌, ◌%◌, ◌^◌, ◌<◌, ◌≤◌, true, false, T, ℤ, pos, negsuc, ◌-ℤ◌, neg_ℤ, nat_abs, refl}
use Rattle.std.proofs.Common.{ap, ◌∙◌, arith, w64, SFits, to_z, of_z, le-ltb}
use lib.Dec.{leb-zero}
use lib.Signed.{le_z, non_neg, pos-nat_abs}
use mir.ValLaws.{to_z-of_z, to_z_pos, to_z-neg}
use Rattle.paths_numbers.proofs.Integers.{Z, read}

-- -1 minus z: n and -(n + 1) change places
abbrev pub flip : ℤ → ℤ
flip (pos n) = negsuc n
flip (negsuc n) = pos n

-- twice is nothing
flip_flip : (z : ℤ) → flip (flip z) ≡ z
flip_flip (pos n) = refl
flip_flip (negsuc n) = refl

-- z and its other fit alike
flip_fits : (z : ℤ) → SFits w64 z → SFits w64 (flip z)
flip_fits (pos n) f = record { sfits = f.sfits }
flip_fits (negsuc n) f = record { sfits = f.sfits }

-- the machine's difference is that
minus_one : (z : ℤ) → negsuc 0 -ℤ z ≡ flip z
minus_one (pos zero) = refl
minus_one (pos (suc n)) = ap negsuc (omega arith)
minus_one (negsuc n) = simp (le-ltb (suc n) 1 (omega arith)) (ap pos (omega arith))

-- a number that is not below 0, and one that is
from_zero : (z : ℤ) → le_z (pos 0) z ≡ true → T (non_neg z)
from_zero (pos n) t = tt
from_zero (negsuc n) t = let o : ◌≡◌ {A = ℕ} 0 1 = cc in absurd (omega arith)

below_zero : (z : ℤ) → le_z (pos 0) z ≡ false → T (non_neg (flip z))
below_zero (pos n) t = let o : ◌≡◌ {A = ℕ} 0 1 = cc (leb-zero n) in absurd (omega arith)
below_zero (negsuc n) t = tt

-- bits k that are read as z
module _ (k : ℕ) (z : ℤ) (e : to_z w64 k ≡ z) (f : SFits w64 z) where
  -- -1 minus z fits, and is read as it is
  pub minus_fits : SFits w64 (negsuc 0 -ℤ to_z w64 k)
  minus_fits = rw (e, minus_one) (flip_fits z f)

  pub minus_is : to_z w64 (of_z w64 (negsuc 0 -ℤ to_z w64 k)) ≡ flip z
  minus_is = to_z-of_z w64 _ minus_fits ∙ rw e (minus_one z)

module _ (a : ℤ) (f : SFits w64 a) where
  -- a from 0 on, cast to an unsigned type
  pub plain_is : le_z (pos 0) (Z a) ≡ true → pos (nat_abs (Z a)) ≡ a
  plain_is t = rw (read f) (pos-nat_abs a (from_zero a (rw (read f) at t)))

  -- a below 0, whose -1 minus a is cast
  less_is : Z (negsuc 0 -ℤ Z a) ≡ flip a
  less_is = rw (read f, minus_one) (read (flip_fits a f))

  pub less_cast_is : le_z (pos 0) (Z a) ≡ false → negsuc (nat_abs (Z (negsuc 0 -ℤ Z a))) ≡ a
  less_cast_is t = rw less_is (ap flip (pos-nat_abs (flip a) (below_zero a (rw (read f) at t))) ∙ flip_flip a)

-- n below 2 ^ 63 as a signed number
pub signed_is : (n : ℕ) → n < 2 ^ 63 → to_z w64 n ≡ pos n
signed_is n h = to_z_pos w64 n h

-- the bits of the opposite of n
pub negated : (n r : ℕ) → n ≤ 2 ^ 63 → r < 2 ^ 64 → (r + n) % 2 ^ 64 ≡ 0 → to_z w64 r ≡ neg_ℤ (pos n)
negated zero r h k e = let z : r ≡ 0 = omega arith in rw z refl
negated (suc n) r h k e = let z : r ≡ 2 ^ 64 - suc n = omega arith in rw z (to_z-neg w64 n (omega arith))
