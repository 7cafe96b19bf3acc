-- Loop invariant: what is left of the chain gives what the whole gives (Fold: live_found_at).
use mathlib.Core.Path.{◌≡◌}
use mathlib.Core.List.{map}
use Rattle.definition_log.specs.meaning.ReadBack.{def_at, read_defs}
use Rattle.definition_log.specs.machine.ChainLeft.{chain_left}
use Rattle.paths_numbers.specs.meaning.Lists.{any}
use Rattle.queries.specs.meaning.Live.{deletes, live}
use Rattle.queries.specs.meaning.Labels.{has_label_at}
use Rattle.queries.proofs.Fold.{found_from}
use Rattle.queries.proofs.mir.unbinds_in.Given as goal

abbrev pub invariant-loop-r : goal.invariant-loop-r
invariant-loop-r l =
    any (has_label_at l.label l.path) (live l.path (read_defs l.log.words.now l.log.bytes.now l.first))
    ≡ found_from (has_label_at l.label l.path) (deletes l.path) l.found
    (map (def_at l.log.words.now l.log.bytes.now) (chain_left l.r-iterator))
