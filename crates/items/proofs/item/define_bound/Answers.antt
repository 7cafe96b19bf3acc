-- At the path of the binding that the search finds, or below it (DeletingBound).
use Rattle.items.proofs.DeletingBound.{defines_below, defines_whole, never_defined}
use Rattle.items.proofs.item.define_bound.Goals as goal

pub returns-in_default : goal.returns-in_default
returns-in_default c = never_defined c.args.label.now c.in_default.ensures c.args.below _

pub returns-in-Some-below : goal.returns-in-Some-below
returns-in-Some-below c =
    rw c.in-Some-below.is
    (defines_below c.in-Some.ensures c.args.span _
    (rw c.second_place-place.ensures at c.define.ensures))

pub returns-in-None : goal.returns-in-None
returns-in-None c =
    rw c.in-None.is
    (defines_whole c.in-Some.ensures c.args.span (rw c.second_place-place.ensures at c.define_at.ensures))
