-- Loop invariant: what is left of the chain gives what the whole gives (Fold: live_found_at).
use mathlib.Core.Path.{◌≡◌}
use mathlib.Core.List.{map}
use Rattle.definition_log.specs.meaning.ReadBack.{def_at, read_defs}
use Rattle.definition_log.specs.machine.ChainLeft.{chain_left}
use Rattle.queries.specs.meaning.Live.{deletes, node_at, contains_node}
use Rattle.queries.proofs.Fold.{found_from}
use Rattle.queries.proofs.mir.contains_node_in.Given as goal

abbrev pub invariant-loop-r : goal.invariant-loop-r
invariant-loop-r g l =
    contains_node (g.P.PathLike.path l.path) (read_defs l.log.words.now l.log.bytes.now l.first)
    ≡ found_from (node_at (g.P.PathLike.path l.path)) (deletes (g.P.PathLike.path l.path)) l.found
    (map (def_at l.log.words.now l.log.bytes.now) (chain_left l.r-iterator))
