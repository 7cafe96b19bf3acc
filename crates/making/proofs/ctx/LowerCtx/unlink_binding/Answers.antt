-- A binding out of its chain (Removing, Unlinking).
use mathlib.Core.Path.{refl, ap, ◌∙◌}
use mathlib.Core.List.{List}
use Prim.Native.Nat.{ℕ}
use Rattle.making.specs.machine.Removed.{set_next, without_bind}
use Rattle.making.proofs.Removing.{removes_going}
use Rattle.making.proofs.Unlinking.{unlinks, unlinks_short}
use Rattle.making.proofs.ctx.LowerCtx.unlink_binding.Goals as goal

pub returns-then-self : goal.returns-then-self
returns-then-self c = let a = c.args in unlinks_short a.self a.words.now a.bytes.now a.previous a.r
    c.if-self.true

pub returns : goal.returns
unfolding without_bind
returns c =
    let a = c.args in
    let going = c.if-self.false in
    let left : _ = rw c.without.ensures refl in
    unlinks a.self _ a.words.now a.bytes.now _ _ a.previous a.r _ left going
    (removes_going a.self _ a.words.now a.bytes.now _ _ a.previous a.r _ going
    c.next_of-next.ensures left
    (c.set_next.ensures ∙ ap (λ (v : List ℕ). set_next a.previous
    c.next_of-next.result
    v) c.clear_words.ensures)
    c.clear_texts.ensures)
