use Prim.Native.Nat.{ℕ}
use mathlib.Core.Path.{refl, ◌∙◌}
use mathlib.Core.List.{List, [], ◌∷◌, map}
use Rattle.definition_log.specs.meaning.ReadBack.{binding_at}
use Rattle.definition_log.proofs.ChainLeft.{step_nearer}
use Rattle.making.specs.machine.Kept.{all_none, all_more}
use Rattle.making.proofs.Keeping.{still_kept}
use Rattle.post_checks.specs.meaning.Post.{duplicates_of}
use Rattle.post_checks.proofs.Checks.{walks_start, walks_stepped, walks_stopped, all_behind}
use Rattle.post_checks.proofs.Duplicates.{paths_seen, passed_before, duplicates_kept, paths_start}
use Rattle.post_checks.proofs.check_mir_post.check_bindings.Goals as goal

pub loop-r-init : goal.loop-r-init
loop-r-init c = let a = c.args in (
  refl,
  refl,
  walks_start a.ctx a.out.now a.bytes.now _ a.rest.next a.rest.left _
      (λ (passed later : List ℕ). duplicates_of (binding_at a.out.now a.bytes.now a.first)
      (paths_seen (binding_at a.out.now a.bytes.now a.first) (map (binding_at a.out.now a.bytes.now) passed))
      (map (binding_at a.out.now a.bytes.now) later)) (paths_start _ _),
)

pub loop-r-smaller : goal.loop-r-smaller
loop-r-smaller c = step_nearer c.in-Some.ensures

pub loop-r-preserved : goal.loop-r-preserved
loop-r-preserved c =
    let a = c.args in
    let l = c.loop-r in
    let p = c.in-Some.ensures in (
      c.check_binding-made.auto.out ∙ l.invariant.0,
      c.check_binding-made.auto.bytes ∙ l.invariant.1,
      walks_stepped l.invariant.2 (λ (passed later : List ℕ). duplicates_of (binding_at a.out.now a.bytes.now a.first)
          (paths_seen (binding_at a.out.now a.bytes.now a.first) (map (binding_at a.out.now a.bytes.now) passed))
          (map (binding_at a.out.now a.bytes.now) later))
          p (rw (passed_before a.rest p c.passed.ensures) at c.check_binding-made.ensures)
          (λ x. all_behind (a.first ∷ []) x)
          (λ x y h z kept all s passed ch st. (
            all_more (still_kept kept s) all_none,
            duplicates_kept kept a.rest.left a.first a.rest.next l.walk.left c.in-Some.r passed _ all s ch st,
          )),
    )

pub returns : goal.returns
unfolding duplicates_of
returns c = walks_stopped c.loop-r.invariant.2 c.in_default.ensures (λ passed. refl)
