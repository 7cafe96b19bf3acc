-- By whether it is record 0, and whether it is reached (RowsStands).
use mathlib.Core.Path.{refl, sym, ap, ◌∙◌}
use native.Mathlib.Omega.{arith}
use Rattle.input.proofs.RowsStands.{fault_reached, fault_unreached}
use borrow.Author.Tests.{eq-eqb}
use Rattle.input.specs.machine.RowsPass.{breaks, fault_by, visit_at}
use Rattle.input.specs.meaning.Rows.{unfit}
use Prim.Native.Nat.{ℕ}
use Rattle.input.proofs.refusal.unfit_at.Goals as goal

pub returns-then-r-eq0 : goal.returns-then-r-eq0
unfolding fault_by
returns-then-r-eq0 c = λ text. c.bad_head.ensures ∙ rw (eq-eqb _ _ c.if-r-eq0.true) refl

pub returns-then-is_reached : goal.returns-then-is_reached
unfolding breaks
returns-then-is_reached c =
    let a = c.args in
    λ text. c.is_unfit.ensures
    ∙ ap (λ (k : ℕ). unfit a.words.now (visit_at a.r k)) c.entry_in.ensures
    ∙ fault_reached 4 a.words.now text a.stands.now a.r (λ e. omega arith) (sym c.is_reached.ensures ∙ c.if-is_reached.true)

pub returns-else-is_reached : goal.returns-else-is_reached
returns-else-is_reached c =
    let a = c.args in
    λ text. c.if-is_reached.false ∙ fault_unreached 4 a.words.now text a.stands.now a.r (λ e. omega arith)
    (λ q e. c.if-r-eq0.false e) (sym c.is_reached.ensures ∙ c.if-is_reached.false)
