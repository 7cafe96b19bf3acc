-- What is reported on the definitions so far (References).
use mathlib.Core.Path.{◌≡◌}
use mathlib.Core.List.{map}
use lib.ListN.{length, take}
use Rattle.definition_log.specs.meaning.ReadBack.{def_at}
use Rattle.post_checks.specs.meaning.Post.{check_defs}
use Rattle.post_checks.specs.machine.Checks.{Reports, said}
use Rattle.post_checks.proofs.check_phandles.check_definitions.Given as goal

abbrev pub invariant-loop-r : goal.invariant-loop-r
invariant-loop-r l = (length l.out ≡ length l.initial.out)
    × (length l.bytes ≡ length l.initial.bytes)
    × Reports l.initial.made l.made l.initial.out l.initial.bytes l.out l.bytes l.list
    (check_defs (said l.initial.made l.initial.out l.initial.bytes) (map (def_at l.initial.out l.initial.bytes) (take l.r-index l.list)))
