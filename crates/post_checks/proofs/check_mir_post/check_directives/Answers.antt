use Prim.Native.Nat.{ℕ, ◌-◌}
use mathlib.Core.Path.{refl, ap, ◌∙◌}
use mathlib.Core.List.{List, map}
use Rattle.definition_log.specs.meaning.Record.{next_of, log_count}
use Rattle.definition_log.specs.meaning.ReadBack.{chain_from, def_at}
use Rattle.definition_log.proofs.ChainLeft.{step_nearer}
use Rattle.making.specs.machine.Kept.{all_none, all_more}
use Rattle.making.proofs.Keeping.{still_kept}
use Rattle.post_checks.specs.meaning.Post.{at_first, directives_from}
use Rattle.post_checks.specs.machine.Checks.{headers_of, headers_after}
use Rattle.post_checks.proofs.Checks.{walks_start, walks_stepped, walks_stopped}
use Rattle.post_checks.proofs.Headers.{directives_kept, directives_lower}
use Rattle.post_checks.proofs.check_mir_post.check_directives.Goals as goal

pub loop-r-init : goal.loop-r-init
loop-r-init c = let a = c.args in (
  refl,
  refl,
  rw c.new-walk.ensures
      (walks_start a.ctx a.out.now a.bytes.now _ a.ctx.defs.first (log_count a.out.now) _
      (λ (passed later : List ℕ). directives_from at_first (map (def_at a.out.now a.bytes.now) later)) refl),
)

pub loop-r-smaller : goal.loop-r-smaller
loop-r-smaller c = step_nearer c.in-Some.ensures

pub loop-r-preserved : goal.loop-r-preserved
loop-r-preserved c =
    let a = c.args in
    let l = c.loop-r in (
      c.check_directive-made.auto.out ∙ l.invariant.0,
      c.check_directive-made.auto.bytes ∙ l.invariant.1,
      walks_stepped l.invariant.2 (λ (passed later : List ℕ). directives_from _ (map (def_at a.out.now a.bytes.now) later))
          c.in-Some.ensures c.check_directive-made.ensures (λ x. x)
          (λ x y h z kept all s passed ch st. (
            all_more (still_kept kept s) all_none,
            directives_kept kept (headers_of l.headers) _ s
                (chain_from (l.walk.left - 1) a.out.now (next_of a.out.now c.in-Some.r))
                (c.next_headers-headers.ensures ∙ ap (λ (n : ℕ). headers_after n (headers_of l.headers)) c.kind_of-kind.ensures),
          )),
    )

pub returns : goal.returns
unfolding directives_from
returns c = directives_lower (walks_stopped c.loop-r.invariant.2 c.in_default.ensures (λ passed. refl))
