-- By the library's search.
use mathlib.Core.Path.{◌∙◌}
use Rattle.definition_log.proofs.Tests.{one_of-is}
use Rattle.definition_log.proofs.lists.one_of.Goals as goal

pub returns : goal.returns
returns c = c.contains.ensures.value ∙ one_of-is c.args.k c.args.list.now
