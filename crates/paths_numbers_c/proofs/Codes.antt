-- What has no value is told by its code.
use mathlib.Core.Path.{◌≡◌, refl}
use Rattle.std.specs.Prelude.{Err}
use Rattle.paths_numbers.specs.meaning.Reading.{fails}
use Rattle.paths_numbers.specs.meaning.Cell.{size_code, size_told, cell_code, cell_told}
use Rattle.paths_numbers.specs.meaning.Expression.{eval_code, eval_told}
use Rattle.paths_numbers.specs.declared.dt_property.SizeError.{SizeError}
use Rattle.paths_numbers.specs.declared.dt_property.CellError.{CellError}
use Rattle.paths_numbers.specs.declared.operators.EvalError.{EvalError}
use Rattle.paths_numbers.specs.declared.operators.EvalError.TheVariants.{Outside, ZeroDivisor, ShiftAmount, Missing}
use Rattle.paths_numbers_c.specs.meaning.Told.{number_told, integer_told, result_told, at_width, width_told}

-- a width that is none
pub width_coded : (e : SizeError) → number_told (fails (size_code e)) ≡ width_told (size_told (Err e))
unfolding at_width
width_coded e = refl

-- a cell without a number
pub cell_coded : (e : CellError) → number_told (fails (cell_code e)) ≡ number_told (cell_told (Err e))
cell_coded e = refl

-- an operator that is not missing and has no result
pub eval_coded : (e : EvalError) → (e ≡ Missing → ⊥) → integer_told (fails (eval_code e)) ≡ result_told (eval_told (Err e))
eval_coded Outside k = refl
eval_coded ZeroDivisor k = refl
eval_coded ShiftAmount k = refl
eval_coded Missing k = absurd (k refl)
