-- A chain has no more records than a log.
use Rattle.std.proofs.Common.{arith, ap, inl}
use lib.ListN.{length}
use Rattle.queries.proofs.Chain.{chain_most, count_most}
use Rattle.replay.proofs.chains.chain_len.Goals as goal

pub count-requires-clause-fits : goal.count-requires-clause-fits
count-requires-clause-fits c =
    inl (omega (arith, ap length c.chain.ensures, chain_most c.args.out.now c.args.first, count_most c.args.out.now))
