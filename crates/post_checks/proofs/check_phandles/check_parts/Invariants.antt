-- The chain is walked, and what is reported on the way keeps it (PartsChecked).
use Rattle.definition_log.specs.machine.Parts.{meant}
use Rattle.post_checks.proofs.PartsChecked.{PartsWalk}
use Rattle.post_checks.proofs.check_phandles.check_parts.Given as goal

abbrev pub invariant-loop-r : goal.invariant-loop-r
invariant-loop-r g l =
    PartsWalk g.parts (meant l.span) l.initial.made l.made l.initial.out l.initial.bytes l.out l.bytes l.first l.walk

abbrev pub decreases-loop-r : goal.decreases-loop-r
decreases-loop-r g l = l.walk.left
