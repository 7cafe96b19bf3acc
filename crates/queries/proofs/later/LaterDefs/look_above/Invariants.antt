-- Loop invariant: the hash is that of the bytes passed, and what is left of the path decides whether a deleted node is found (Fronts).
use mathlib.Core.Path.{◌≡◌}
use mathlib.Core.Bool.{true, cond}
use mathlib.Core.List.{map}
use lib.ListN.{take, drop}
use Rattle.definition_log.specs.meaning.ReadBack.{def_at}
use Rattle.paths_numbers.specs.meaning.Lists.{any}
use Rattle.queries.specs.meaning.Live.{deletes}
use Rattle.queries.specs.machine.Table.{hash_from}
use Rattle.queries.proofs.Fronts.{above_from, deleted_in}
use Rattle.queries.proofs.later.LaterDefs.look_above.Given as goal

abbrev pub invariant-loop-i : goal.invariant-loop-i
invariant-loop-i l =
    let defs = map (def_at l.self.log.words.now l.self.log.bytes.now) l.self.later.now in
    (l.hash ≡ hash_from 0 (take l.i l.path))
    × (any (deletes l.path) defs ≡ cond l.deleted true (above_from (deleted_in defs) (take l.i l.path) (drop l.i l.path)))
