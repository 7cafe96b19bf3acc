use Rattle.std.proofs.Common.{ap}
use Rattle.definition_log.specs.declared.chain.Walk.{Walk}
use Rattle.definition_log.specs.machine.Parts.{meant}
use Rattle.definition_log.proofs.ChainLeft.{step_nearer}
use Rattle.post_checks.proofs.PartsChecked.{parts_start, parts_step, parts_end}
use Rattle.post_checks.proofs.check_phandles.check_parts.Goals as goal

pub loop-r-init : goal.loop-r-init
loop-r-init g c = let a = c.args in
    parts_start g.parts (meant a.span) a.ctx a.out.now a.bytes.now a.first _
    (ap (λ (w : Walk). w.next) c.new-walk.ensures) (ap (λ (w : Walk). w.left) c.new-walk.ensures)

pub loop-r-smaller : goal.loop-r-smaller
loop-r-smaller g c = step_nearer c.in-Some.ensures

pub loop-r-preserved : goal.loop-r-preserved
loop-r-preserved g c =
    let x = c.check-made in
    parts_step g.parts (meant c.args.span) c.loop-r.invariant c.in-Some.ensures x.auto.arg2 x.auto.arg3
    (c.requires.1.1 _ _ _ _ _ _ _ _ x.ensures)

pub returns : goal.returns
returns g c = parts_end g.parts (meant c.args.span) c.loop-r.invariant c.in_default.ensures
