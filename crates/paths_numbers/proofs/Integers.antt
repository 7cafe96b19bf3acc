-- Signed numbers of 64 bits as the machine reads them.
use Rattle.std.proofs.Common.{◌≡◌, ℤ, w64, SFits, to_z, of_z}
use mir.ValLaws.{to_z-of_z}

-- what the machine reads of a number's bits
abbrev pub Z : ℤ → ℤ
Z z = to_z w64 (of_z w64 z)

-- it reads the number
pub read : {z : ℤ} → SFits w64 z → Z z ≡ z
read {z} f = to_z-of_z w64 z f
