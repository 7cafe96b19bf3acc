-- The bindings out, then the deletion at the place of the definition's path (Deleting).
use Rattle.items.proofs.Deleting.{deletes_there}
use Rattle.items.proofs.item.delete_there.Goals as goal

pub returns : goal.returns
returns c = deletes_there c.args.r c.args.span
    c.first_place-place.ensures
    c.unbind_all-without.ensures
    c.define_at.ensures
