-- By whether it is reached (RowsStands).
use Prim.Native.Nat.{ℕ, ◌/◌}
use lib.Dec.{ltb}
use mathlib.Core.Path.{sym, ap, ◌∙◌}
use native.Mathlib.Omega.{arith}
use Rattle.input.proofs.RowsStands.{fault_reached, fault_unreached}
use Rattle.input.specs.meaning.Rows.{too_deep}
use Rattle.input.specs.machine.RowsPass.{breaks}
use Rattle.input.proofs.refusal.too_deep_at.Goals as goal

pub returns-then-is_reached : goal.returns-then-is_reached
unfolding breaks too_deep
returns-then-is_reached c =
    let a = c.args in
    λ words text. ap (λ (k : ℕ). ltb 64 (k / 16)) c.entry_in.ensures
    ∙ fault_reached 6 words text a.stands.now a.r (λ e. omega arith) (sym c.is_reached.ensures ∙ c.if-is_reached.true)

pub returns-else-is_reached : goal.returns-else-is_reached
returns-else-is_reached c =
    let a = c.args in
    λ words text. c.if-is_reached.false ∙ fault_unreached 6 words text a.stands.now a.r (λ e. omega arith)
    (λ e. absurd (cc)) (sym c.is_reached.ensures ∙ c.if-is_reached.false)
