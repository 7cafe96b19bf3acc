-- What the bits of a value say of it.
use Rattle.std.proofs.Common.{◌≡◌, zero, suc, ◌-◌, ◌^◌, ℤ, pos, negsuc, refl, arith, w64, SFits, of_z, ne_eqb}
use Rattle.paths_numbers.specs.meaning.Expression.{is_true}
use Rattle.levels.specs.meaning.Unsigned.{holds}

-- a value holds where its bits are not 0
pub holds_bits : (z : ℤ) → SFits w64 z → is_true z ≡ holds (of_z w64 z)
holds_bits (pos zero) f = refl
holds_bits (pos (suc n)) f = simp (ne_eqb (suc n) 0 (λ e. omega arith))
holds_bits (negsuc n) f = simp (ne_eqb (2 ^ 64 - suc n) 0 (λ e. omega (arith, f.sfits)))
