-- A record outside the list is not stored.
use mathlib.Core.Path.{refl, sym}
use lib.Seq.{set_out}
use Rattle.input.specs.machine.RowsPass.{stored}
use Rattle.input.proofs.refusal.store.Goals as goal

pub returns-then-at-list : goal.returns-then-at-list
unfolding stored
returns-then-at-list g c = refl

pub returns-else-at-list : goal.returns-else-at-list
unfolding stored
returns-else-at-list g c = sym (set_out c.args.list.now c.args.r c.args.v c.if-at-list.false)
