-- Loop invariant: what is left of the chain and the node found before give what the whole gives (Picked).
use mathlib.Core.List.{◌∷◌, ◌++◌}
use Rattle.paths_numbers.specs.meaning.Byte.{slash}
use Rattle.short_paths.specs.machine.Front.{front_of}
use Rattle.definition_log.specs.machine.ChainLeft.{chain_left}
use Rattle.queries.proofs.Picked.{Passing}
use Rattle.queries.proofs.lookup.short_node.Given as goal

abbrev pub invariant-loop-r : goal.invariant-loop-r
invariant-loop-r l = Passing l.log.words.now l.log.bytes.now l.first (front_of l.parent ++ slash ∷ l.name) l.found
    (chain_left l.r-iterator)
