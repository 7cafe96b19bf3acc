-- A log has at most as many records as the largest arrays have places.
use Rattle.queries.proofs.Chain.{count_most}
use Rattle.queries.proofs.live.live_list.Goals as goal

pub live_within-requires-2-clause-room : goal.live_within-requires-2-clause-room
live_within-requires-2-clause-room c = count_most c.args.log.words.now
