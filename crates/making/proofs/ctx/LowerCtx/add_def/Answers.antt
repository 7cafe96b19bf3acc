-- A definition made (Typed).
use Rattle.std.proofs.Common.{refl, ◌∙◌}
use Rattle.making.specs.machine.Made.{with_def}
use Rattle.making.proofs.Typed.{makes_def}
use Rattle.making.proofs.ctx.LowerCtx.add_def.Goals as goal

pub returns : goal.returns
unfolding with_def
returns c =
    let a = c.args in
    makes_def c.make-made.ensures a.kind a.span a.name_span _ _ refl refl c.from.ensures (c.from-2.ensures ∙ c.is_omitted.ensures)
    c.end_link.ensures
    (rw c.grown.ensures refl)
