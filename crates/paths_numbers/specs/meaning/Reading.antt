-- What a text or an operation gives by 01: a value, or the diagnostic code of what is wrong. What a result of the code tells of it stands
-- beside each rule.
use Rattle.std.specs.Prelude.{ℕ, Result, Ok, Err}

pub data Reading (A : Type 0) : Type 0 where
  value : A → Reading A
  fails : ℕ → Reading A

-- "fails without a code"
abbrev pub no_code : ℕ
no_code = 0

-- what a result tells, where each way to fail has a diagnostic code
abbrev pub told : {A E : Type 0} → (E → ℕ) → Result A E → Reading A
told code (Ok a) = value a
told code (Err e) = fails (code e)
