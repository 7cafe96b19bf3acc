-- What the machine's truths say of the numbers.
use Rattle.std.proofs.Common.{◌≡◌, Bool, true, false, refl, w64, to_z}
use mir.Val.{bool_byte}
use Rattle.paths_numbers.specs.meaning.Expression.{of_truth}

-- a truth as a number
pub read_truth : (t : Bool) → to_z w64 (bool_byte t) ≡ of_truth t
read_truth true = refl
read_truth false = refl
