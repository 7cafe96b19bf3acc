-- Loop invariant: what is written and what is left make the chain.
use Prim.Native.Nat.{◌≤◌}
use mathlib.Core.Path.{◌≡◌}
use mathlib.Core.List.{◌++◌}
use lib.ListN.{length, take}
use Rattle.definition_log.specs.meaning.ReadBack.{chain_of}
use Rattle.definition_log.specs.machine.ChainLeft.{chain_left}
use Rattle.queries.proofs.live.chain_order.Given as goal

abbrev pub invariant-loop-r : goal.invariant-loop-r
invariant-loop-r l = (l.count ≤ length l.numbers)
    × (chain_of l.words l.first ≡ take l.count l.numbers ++ chain_left l.r-iterator)
