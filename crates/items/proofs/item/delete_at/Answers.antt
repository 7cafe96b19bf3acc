-- The bindings out, then the deletion at the definition's path (Deleting).
use Rattle.items.proofs.Deleting.{deletes_at, never_at}
use Rattle.items.proofs.item.delete_at.Goals as goal

pub returns-in_default : goal.returns-in_default
returns-in_default c = never_at c.unbind_all-without.ensures c.in_default.ensures

pub returns : goal.returns
returns c = deletes_at c.args.span c.unbind_all-without.ensures c.in-Some.ensures
    (rw c.first_place-place.ensures at c.define_at.ensures)
