-- Each record tells how those stand that it leads to.
use Rattle.input.specs.machine.RowsPass.{Stands}
use Rattle.input.proofs.refusal.find_stands.Given as goal

abbrev pub invariant-loop-r : goal.invariant-loop-r
invariant-loop-r l = Stands l.records.words.now l.r l.stands
