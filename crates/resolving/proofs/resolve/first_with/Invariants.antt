-- Loop invariant: what was passed of the chain has not the text (Leading).
use Rattle.definition_log.specs.machine.ChainLeft.{chain_left}
use Rattle.resolving.proofs.Leading.{Passed}
use Rattle.resolving.proofs.resolve.first_with.Given as goal

abbrev pub invariant-loop-r : goal.invariant-loop-r
invariant-loop-r l = Passed l.log.words.now l.log.bytes.now l.first l.text l.previous (chain_left l.r-iterator)
