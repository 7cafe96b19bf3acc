-- The binding that the search finds (DeletingBound).
use Rattle.items.proofs.DeletingBound.{unlinks_first, never_first}
use Rattle.items.proofs.unbind.unlink_first.Goals as goal

pub returns-in_default : goal.returns-in_default
returns-in_default c = never_first c.args.label.now c.in_default.ensures

pub returns : goal.returns
returns c = unlinks_first c.in-Some.ensures c.unlink_binding.ensures
