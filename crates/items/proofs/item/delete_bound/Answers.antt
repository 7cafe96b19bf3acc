-- The label's first binding last (DeletingBound).
use mathlib.Core.Path.{sym, ◌∙◌}
use Rattle.items.proofs.DeletingBound.{deletes_left, deletes_first, never_deleted}
use Rattle.items.proofs.item.delete_bound.Goals as goal

pub returns-in_default : goal.returns-in_default
returns-in_default c = never_deleted c.args.label.now c.in_default.ensures c.args.below _

pub returns-then-goes : goal.returns-then-goes
returns-then-goes c =
    let a = c.args in
    deletes_first a.span a.below c.in-Some.ensures c.unbind_others-without.ensures c.define_bound-made.ensures
    c.unlink_first.ensures (rw c.bound_base.ensures at (sym c.goes_with-goes.ensures ∙ c.if-goes.true))

pub returns : goal.returns
returns c =
    let a = c.args in
    deletes_left a.span a.below c.in-Some.ensures c.unbind_others-without.ensures c.define_bound-made.ensures
    (rw c.bound_base.ensures at (sym c.goes_with-goes.ensures ∙ c.if-goes.false))
