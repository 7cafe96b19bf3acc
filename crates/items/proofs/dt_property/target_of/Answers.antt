use Rattle.input.proofs.ValueRead.{same_target}
use Rattle.items.proofs.dt_property.target_of.Goals as goal

pub returns : goal.returns
returns c = same_target c.args.kind c.label.ensures c.path.ensures
