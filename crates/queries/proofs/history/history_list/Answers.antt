-- A log has at most as many records as the largest array has places.
use Rattle.queries.proofs.Chain.{count_most}
use Rattle.queries.proofs.history.history_list.Goals as goal

pub history_within-requires-2-clause-room : goal.history_within-requires-2-clause-room
history_within-requires-2-clause-room c = count_most c.args.log.words.now
