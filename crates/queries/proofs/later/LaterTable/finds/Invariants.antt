-- Loop invariant: what is looked for is found from the entry in hand on, if at all (Table: search_start, search_on, search_hit,
-- search_end).
use Prim.Native.Nat.{◌-◌, ◌≤◌}
use mathlib.Core.Path.{◌≡◌}
use mathlib.Core.List.{map}
use lib.ListN.{length, drop}
use Rattle.definition_log.specs.meaning.ReadBack.{def_at}
use Rattle.paths_numbers.specs.meaning.Lists.{any}
use Rattle.queries.specs.machine.Table.{Held, takes_at}
use Rattle.queries.proofs.later.LaterTable.finds.Given as goal

abbrev pub invariant-loop-e : goal.invariant-loop-e
invariant-loop-e l =
    let def = def_at l.log.words.now l.log.bytes.now in
    let wanted = takes_at l.taken l.path in
    let rest = drop (length l.later - l.e) l.later in
    (l.e ≤ length l.later) × (any wanted (map def l.later) ≡ any wanted (map def rest)) × Held def wanted l.self.links.now rest l.e

abbrev pub decreases-loop-e : goal.decreases-loop-e
decreases-loop-e l = l.e
