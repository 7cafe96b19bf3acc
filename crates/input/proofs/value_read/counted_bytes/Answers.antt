-- By whether the bytes were counted (ValueRead).
use Prim.Native.Nat.{ℕ}
use mathlib.Core.Path.{◌≡◌, sym, ◌∙◌}
use native.Mathlib.Omega.{arith}
use Rattle.std.specs.Prelude.{Result, Ok, Err}
use Rattle.paths_numbers.specs.meaning.Bytestring.{count_told}
use Rattle.paths_numbers.specs.declared.dt_property.MissingDigit.{MissingDigit}
use Rattle.input.specs.machine.ValueRead.{reported}
use Rattle.input.proofs.ValueRead.{counted_some}
use Rattle.input.specs.meaning.Input.{span_at, text_at}
use Rattle.input.proofs.value_read.counted_bytes.Goals as goal

-- what was read is what the result reads
read_some : (r : ℕ) (n : Result ℕ MissingDigit) (m : ℕ) → Ok m ≡ reported r (count_told n) → n ≡ Ok m
read_some r (Ok k) m e = cc
read_some r (Err d) m e = let z : ◌≡◌ {A = ℕ} 0 1 = cc in absurd (omega arith)

pub returns : goal.returns
returns c = let a = c.args in λ level words text h. counted_some (span_at words a.r) (text_at words text a.r) a.n _
    (read_some a.r a.n _ (sym c.in_ok-reported.was ∙ c.reported.ensures)) h
