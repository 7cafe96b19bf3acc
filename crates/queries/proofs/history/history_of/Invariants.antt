-- Loop invariant: what is written and what the rest of the chain has make the history.
use Prim.Native.Nat.{◌≤◌}
use mathlib.Core.Path.{◌≡◌}
use mathlib.Core.List.{◌++◌}
use lib.ListN.{length, take}
use Rattle.definition_log.specs.meaning.ReadBack.{def_at}
use Rattle.definition_log.specs.machine.ChainLeft.{chain_left}
use Rattle.queries.specs.meaning.Query.{history_numbers}
use Rattle.queries.specs.machine.Lists.{history_in}
use Rattle.queries.proofs.history.history_of.Given as goal

abbrev pub invariant-loop-r : goal.invariant-loop-r
invariant-loop-r l =
    let w = l.log.words.now in
    let b = l.log.bytes.now in
    (l.count ≤ length l.found)
    × (history_in w b l.first l.path ≡ take l.count l.found ++ history_numbers (def_at w b) l.defined l.path (chain_left l.r-iterator))
