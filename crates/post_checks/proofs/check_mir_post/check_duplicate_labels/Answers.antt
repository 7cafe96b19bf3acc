use Prim.Native.Nat.{ℕ}
use mathlib.Core.Path.{refl, ◌∙◌}
use mathlib.Core.List.{List, map}
use Rattle.definition_log.specs.meaning.ReadBack.{binding_at}
use Rattle.definition_log.proofs.ChainLeft.{step_nearer}
use Rattle.post_checks.specs.meaning.Post.{duplicate_labels}
use Rattle.post_checks.proofs.Checks.{walks_start, walks_stepped, walks_stopped}
use Rattle.post_checks.proofs.Duplicates.{labels_seen, passed_before, label_still, labels_kept, labels_start, labels_lower}
use Rattle.post_checks.proofs.check_mir_post.check_duplicate_labels.Goals as goal

pub loop-r-init : goal.loop-r-init
loop-r-init c = let a = c.args in let whole = c.new-whole.result in (
  refl,
  refl,
  walks_start a.ctx a.out.now a.bytes.now _ whole.next whole.left _
      (λ (passed later : List ℕ). duplicate_labels (labels_seen (map (binding_at a.out.now a.bytes.now) passed))
      (map (binding_at a.out.now a.bytes.now) later)) (labels_start _),
)

pub loop-r-smaller : goal.loop-r-smaller
loop-r-smaller c = step_nearer c.in-Some.ensures

pub loop-r-preserved : goal.loop-r-preserved
loop-r-preserved c =
    let a = c.args in
    let l = c.loop-r in
    let whole = c.new-whole.result in
    let p = c.in-Some.ensures in (
      c.check_label-made.auto.out ∙ l.invariant.0,
      c.check_label-made.auto.bytes ∙ l.invariant.1,
      walks_stepped l.invariant.2 (λ (passed later : List ℕ). duplicate_labels (labels_seen (map (binding_at a.out.now a.bytes.now) passed))
          (map (binding_at a.out.now a.bytes.now) later))
          p (rw (passed_before whole p c.passed.ensures) at c.check_label-made.ensures) (λ x. x)
          (λ x y h z kept all s passed ch st. (
            rw (p.next, p.left) (label_still kept whole.left whole.next l.walk.left c.in-Some.r passed all s ch st),
            rw (p.next, p.left) (labels_kept kept whole.left whole.next l.walk.left c.in-Some.r passed all s ch st),
          )),
    )

pub returns : goal.returns
unfolding duplicate_labels
returns c = labels_lower (rw c.new-whole.ensures at (walks_stopped c.loop-r.invariant.2 c.in_default.ensures (λ passed. refl)))
