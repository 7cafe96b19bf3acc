-- A diagnostic made (Typed), which keeps the other records (Keeping).
use Rattle.std.proofs.Common.{refl}
use Rattle.making.specs.machine.Made.{with_diag}
use Rattle.making.proofs.Typed.{makes_diag}
use Rattle.making.proofs.Keeping.{emit_keeps}
use Rattle.making.proofs.ctx.LowerCtx.add_diag.Goals as goal

pub returns-clause-steps : goal.returns-clause-steps
unfolding with_diag
returns-clause-steps c =
    let a = c.args in
    makes_diag c.make-made.ensures a.code a.span a.name_span refl refl c.end_link.ensures (rw c.grown.ensures refl)

pub returns-clause-keeps : goal.returns-clause-keeps
unfolding with_diag
returns-clause-keeps c = emit_keeps c.make-made.ensures c.end_link.ensures (rw c.grown.ensures refl)
