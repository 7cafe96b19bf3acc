-- The power of 100 for so many bytes.
use mathlib.Core.Path.{refl}
use native.Mathlib.Omega.{arith}
use Rattle.boxes.proofs.Limits.{at_most, eight, hundreds_pow}
use Rattle.boxes.proofs.box_number.fits.Goals as goal

pub pow-requires : goal.pow-requires
pow-requires c = omega (arith, at_most c.args.bytes 8 (omega arith), eight, hundreds_pow c.args.bytes)

pub returns : goal.returns
returns c = rw (c.pow.ensures, hundreds_pow c.args.bytes) refl
