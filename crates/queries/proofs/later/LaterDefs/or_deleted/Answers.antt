-- The table finds each deleted node by its path.
use Rattle.queries.proofs.later.LaterDefs.or_deleted.Goals as goal

pub holds-requires : goal.holds-requires
holds-requires c = rw c.requires (c.args.self.finds_deleted.at c.args.path.now)
