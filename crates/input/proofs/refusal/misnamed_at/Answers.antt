-- By whether it is reached (RowsStands).
use mathlib.Core.Path.{sym, ◌∙◌}
use native.Mathlib.Omega.{arith}
use Rattle.input.proofs.RowsStands.{fault_reached, fault_unreached}
use Rattle.input.specs.meaning.Rows.{bad_name}
use Rattle.input.specs.machine.RowsPass.{breaks}
use Rattle.input.proofs.refusal.misnamed_at.Goals as goal

pub returns-then-is_reached : goal.returns-then-is_reached
unfolding breaks bad_name
returns-then-is_reached c =
    let a = c.args in
    c.bad_name.ensures
    ∙ fault_reached 5 a.words.now a.text.now a.stands.now a.r (λ e. omega arith) (sym c.is_reached.ensures ∙ c.if-is_reached.true)

pub returns-else-is_reached : goal.returns-else-is_reached
returns-else-is_reached c =
    let a = c.args in
    c.if-is_reached.false ∙ fault_unreached 5 a.words.now a.text.now a.stands.now a.r (λ e. omega arith)
    (λ e. absurd (cc)) (sym c.is_reached.ensures ∙ c.if-is_reached.false)
