use mathlib.Core.Path.{refl, ◌∙◌}
use native.Mathlib.Omega.{arith}
use Rattle.post_checks.specs.meaning.Post.{check_defs}
use Rattle.post_checks.proofs.Checks.{reports_none}
use Rattle.post_checks.proofs.References.{definitions_next, definitions_all}
use Rattle.post_checks.proofs.check_phandles.check_definitions.Goals as goal

pub loop-r-init : goal.loop-r-init
unfolding check_defs
loop-r-init c = let a = c.args in (refl, refl, reports_none a.ctx a.out.now a.bytes.now a.list.now)

pub loop-r-preserved : goal.loop-r-preserved
loop-r-preserved c = let a = c.args in
    let l = c.loop-r in (
      c.check_definition-made.auto.out ∙ l.invariant.0,
      c.check_definition-made.auto.bytes ∙ l.invariant.1,
      definitions_next a.list.now l.r-index _ refl (omega arith) l.invariant.2 c.check_definition-made.ensures,
    )

pub returns : goal.returns
returns c = let a = c.args in let l = c.loop-r in definitions_all a.list.now l.r-index (omega arith) l.invariant.2
