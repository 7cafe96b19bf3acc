-- A chain inside a record of another has the lower rank, by which the cycle ends.
use Rattle.std.proofs.Common.{ℕ, ◌+◌, ◌*◌}
use Rattle.replay.specs.declared.records.ChainOf.{ChainOf}
use Rattle.replay.specs.declared.records.ChainOf.TheVariants.{Cells, Labels, Values, Definitions, Extensions, Bindings, Diagnostics}
use Rattle.replay.proofs.chains.+chain_chains_of.Given as goal

abbrev rank : ChainOf → ℕ
rank Cells = 0
rank Labels = 0
rank Values = 1
rank Definitions = 2
rank Extensions = 3
rank Bindings = 0
rank Diagnostics = 0

abbrev pub decreases-chain : goal.decreases-chain
decreases-chain g l = rank l.has * 2 + 1

abbrev pub decreases-chains_of : goal.decreases-chains_of
decreases-chains_of g l = rank l.has * 2
