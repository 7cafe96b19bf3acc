-- Up to the label's first binding, and behind it (DeletingBound).
use Rattle.items.proofs.DeletingBound.{others_all, never_others}
use Rattle.items.proofs.unbind.unbind_others.Goals as goal

pub returns-in_default : goal.returns-in_default
returns-in_default c = never_others c.args.label.now c.in_default.ensures c.args.below

pub returns : goal.returns
returns c = others_all c.args.below c.unbind-up.result c.in-Some.ensures c.new-binds.ensures c.bound_base-base.ensures c.unbind-up.ensures
    c.unbind_behind.ensures
