-- The records that are left decide.
use Prim.Native.Nat.{◌-◌}
use mathlib.Core.Path.{◌≡◌}
use lib.ListN.{length}
use Rattle.definition_log.specs.machine.Walk.{held, expand, all_marks}
use Rattle.definition_log.proofs.links.Walk.all.Given as goal

abbrev pub invariant-loop-i : goal.invariant-loop-i
invariant-loop-i g l = (length l.self.queue ≡ g.row.N)
    × (all_marks l.words l.fn.self.marks l.fn.self.queue
    ≡ (expand (length l.self.queue - l.i) l.words l.i (held l.self.marks l.self.queue l.self.met)).marks)
