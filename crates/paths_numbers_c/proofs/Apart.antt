-- What an answer tells is all of it: each telling has a way back, so a promise of what is told pins the answer itself.
use Prim.Native.Nat.{ℕ}
use mathlib.Core.Path.{◌≡◌, refl, sym, ap, ◌∙◌}
use mathlib.Core.Bool.{cond}
use mathlib.Core.Option.{Option, some, none}
use lib.Dec.{eqb}
use Rattle.std.specs.Prelude.{Result, Ok, Err}
use Rattle.std.specs.Prelude as Std
use Rattle.paths_numbers.specs.meaning.Code.{number_empty, not_a_digit, number_too_large, width_unsupported, character_too_large}
use Rattle.paths_numbers.specs.meaning.Code.{outside64_bits, zero_divisor, shift_amount}
use Rattle.paths_numbers.specs.meaning.Reading.{Reading, value, fails, told}
use Rattle.paths_numbers.specs.meaning.Number.{int_code, int_told, i64_told}
use Rattle.paths_numbers.specs.meaning.Expression.{eval_code, eval_told}
use Rattle.paths_numbers.specs.meaning.Cell.{size_code, size_told, cell_code, cell_told}
use Rattle.paths_numbers.specs.meaning.Bytestring.{count_code, count_told, written_told}
use Rattle.paths_numbers.specs.meaning.Reference.{target_number}
use Rattle.paths_numbers.specs.declared.expr_eval.IntErrorKind.{IntErrorKind}
use Rattle.paths_numbers.specs.declared.expr_eval.IntErrorKind.TheVariants.{Empty, InvalidDigit, PosOverflow, NegOverflow}
use Rattle.paths_numbers.specs.declared.operators.EvalError.{EvalError}
use Rattle.paths_numbers.specs.declared.operators.EvalError.TheVariants as Eval
use Rattle.paths_numbers.specs.declared.dt_property.SizeError.{SizeError}
use Rattle.paths_numbers.specs.declared.dt_property.SizeError.TheVariants as Size
use Rattle.paths_numbers.specs.declared.dt_property.CellError.{CellError}
use Rattle.paths_numbers.specs.declared.dt_property.CellError.TheVariants as Cell
use Rattle.paths_numbers.specs.declared.dt_property.BytesError.{BytesError}
use Rattle.paths_numbers.specs.declared.dt_property.BytesError.TheVariants as Bytes
use Rattle.paths_numbers.specs.declared.phandle.MirPhandleTarget.{MirPhandleTarget}
use Rattle.paths_numbers.specs.declared.phandle.MirPhandleTarget.TheVariants as Target

-- two answers that tell the same are the same, where there is a way back
abbrev pub Apart : {A B : Type 0} → (A → B) → Type 0
Apart {A} told = (a b : A) → told a ≡ told b → a ≡ b

apart : {A B : Type 0} (told : A → B) (back : B → A) → ((a : A) → back (told a) ≡ a) → Apart told
apart told back same a b e = sym (same a) ∙ ap back e ∙ same b

-- results whose ways to fail have codes of their own
told_apart : {A E : Type 0} (code : E → ℕ) (kind : ℕ → E) → ((e : E) → kind (code e) ≡ e) → Apart (told {A = A} code)
told_apart {A} {E} code kind same = apart (told code) back each
  where
    back : Reading A → Result A E
    back (value a) = Ok a
    back (fails c) = Err (kind c)

    each : (r : Result A E) → back (told code r) ≡ r
    each (Ok a) = refl
    each (Err e) = ap Err (same e)

-- how a reading failed, by its code
abbrev kind_back : ℕ → IntErrorKind
kind_back c = cond (eqb c number_empty) Empty (cond (eqb c not_a_digit) InvalidDigit (cond (eqb c number_too_large) PosOverflow NegOverflow))

kind_same : (e : IntErrorKind) → kind_back (int_code e) ≡ e
kind_same Empty = refl
kind_same InvalidDigit = refl
kind_same PosOverflow = refl
kind_same NegOverflow = refl

pub int_apart : Apart int_told
int_apart = told_apart int_code kind_back kind_same

pub i64_apart : Apart i64_told
i64_apart = told_apart int_code kind_back kind_same

pub eval_apart : Apart eval_told
eval_apart = told_apart eval_code failed same
  where
    failed : ℕ → EvalError
    failed c =
        cond (eqb c outside64_bits) Eval.Outside
        (cond (eqb c zero_divisor) Eval.ZeroDivisor
        (cond (eqb c shift_amount) Eval.ShiftAmount
        Eval.Missing))

    same : (e : EvalError) → failed (eval_code e) ≡ e
    same Eval.Outside = refl
    same Eval.ZeroDivisor = refl
    same Eval.ShiftAmount = refl
    same Eval.Missing = refl

pub size_apart : Apart size_told
size_apart = told_apart size_code failed same
  where
    failed : ℕ → SizeError
    failed c = cond (eqb c width_unsupported) Size.Unsupported (Size.Int (kind_back c))

    same : (e : SizeError) → failed (size_code e) ≡ e
    same Size.Unsupported = refl
    same (Size.Int Empty) = refl
    same (Size.Int InvalidDigit) = refl
    same (Size.Int PosOverflow) = refl
    same (Size.Int NegOverflow) = refl

pub cell_apart : Apart cell_told
cell_apart = told_apart cell_code failed same
  where
    failed : ℕ → CellError
    failed c = cond (eqb c character_too_large) Cell.CharTooLarge Cell.ExprOutside

    same : (e : CellError) → failed (cell_code e) ≡ e
    same Cell.CharTooLarge = refl
    same Cell.ExprOutside = refl

pub count_apart : Apart count_told
count_apart = told_apart count_code (λ c. record {}) (λ e. refl)

pub written_apart : Apart written_told
written_apart = apart written_told back same
  where
    back : Option (Reading ℕ) → Result ℕ BytesError
    back (some (value n)) = Ok n
    back (some (fails c)) = Err Bytes.MissingDigit
    back none = Err Bytes.NoRoom

    same : (w : Result ℕ BytesError) → back (written_told w) ≡ w
    same (Ok n) = refl
    same (Err Bytes.MissingDigit) = refl
    same (Err Bytes.NoRoom) = refl

-- an Option of the code is the one of the specs: it tells itself
pub found_apart : Apart (λ (f : Std.Option ℕ). f)
found_apart = apart (λ f. f) (λ f. f) (λ f. refl)

pub built_apart : Apart (λ (b : Std.Option ℕ). b)
built_apart = apart (λ b. b) (λ b. b) (λ b. refl)

pub target_apart : Apart target_number
target_apart = apart target_number back same
  where
    kind : ℕ → MirPhandleTarget
    kind n = cond (eqb n 1) Target.Label (cond (eqb n 2) Target.LabelPath Target.Path)

    back : ℕ → Std.Option MirPhandleTarget
    back n = cond (eqb n 0) Std.None (Std.Some (kind n))

    same : (t : Std.Option MirPhandleTarget) → back (target_number t) ≡ t
    same (Std.Some Target.Label) = refl
    same (Std.Some Target.LabelPath) = refl
    same (Std.Some Target.Path) = refl
    same Std.None = refl
