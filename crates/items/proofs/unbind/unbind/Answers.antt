use borrow.Author.Rules.{rules}
use mathlib.Core.Path.{refl, sym, ◌∙◌}
use Rattle.definition_log.proofs.ChainLeft.{step_nearer}
use Rattle.items.proofs.Unbinding.{walk_step, count_same}
use Rattle.items.proofs.unbind.unbind.Goals as goal

pub loop-r-init : goal.loop-r-init
loop-r-init c = (refl, refl, λ k s front p o. o)

pub loop-r-smaller : goal.loop-r-smaller
loop-r-smaller c = step_nearer c.in-Some.ensures

pub loop-r-preserved : goal.loop-r-preserved
loop-r-preserved c =
    let l = c.loop-r in (
      search rules,
      search rules,
      λ k s front p o. walk_step c.in-Some.ensures (l.invariant.2 k s front p o)
          (sym c.stops_at.ensures ∙ c.if-stops_at.false)
          c.unbind_one-one.ensures (count_same _ _ (search rules)),
    )

pub returns-then-stops_at : goal.returns-then-stops_at
returns-then-stops_at c =
    let l = c.loop-r in
    record { last = l.walk; walks = l.invariant.2; ends = (c.in-Some.ensures, sym c.stops_at.ensures ∙ c.if-stops_at.true) }

pub returns : goal.returns
returns c =
    let l = c.loop-r in
    record { last = l.walk; walks = l.invariant.2; ends = c.in_default.ensures }
