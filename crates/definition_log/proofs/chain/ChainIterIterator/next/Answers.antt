-- What is left of the chain, by the step (ChainLeft).
use Prim.Native.Nat.{ℕ}
use mathlib.Core.Path.{ap}
use native.Mathlib.Omega.{arith}
use lib.ListN.{length}
use Rattle.std.specs.Prelude.{Option, Some, None}
use Rattle.std.specs.Iterator.{MakesProgress, YieldsFirst, item_count}
use Rattle.definition_log.specs.machine.ChainLeft.{chain_left}
use Rattle.definition_log.specs.declared.chain.ChainIter.{ChainIter}
use Rattle.definition_log.proofs.ChainLeft.{yielded}
use Rattle.definition_log.proofs.chain.ChainIterIterator.next.Goals as goal

pub returns-clause-steps : goal.returns-clause-steps
returns-clause-steps c = yielded c.args.self.now.words.now c.args.self.now.walk _ c.step.result c.step.ensures

-- fewer are left after one
nearer : (s t : ChainIter) (o : Option ℕ) → YieldsFirst chain_left s o t → MakesProgress (λ _. Unit {0}) (item_count chain_left) s o t
nearer s t None p = record { on = λ f. tt; keeps = tt; rests = λ f. tt }
nearer s t (Some r) p = record { on = λ f. (tt, tt, omega (arith, ap length p)); keeps = tt; rests = λ f. tt }

pub returns-clause-goes : goal.returns-clause-goes
returns-clause-goes c = nearer c.args.self.now _ c.step.result
    (yielded c.args.self.now.words.now c.args.self.now.walk _ c.step.result c.step.ensures)
