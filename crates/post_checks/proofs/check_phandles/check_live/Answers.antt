-- The live definitions, of which the list has room for all (References).
use mathlib.Core.Path.{sym}
use native.Mathlib.Omega.{arith}
use lib.Seq.{length-take-le}
use Rattle.post_checks.proofs.References.{live_room, live_reports}
use Rattle.post_checks.proofs.check_phandles.check_live.Goals as goal

pub slice_bounds-check_definitions-end : goal.slice_bounds-check_definitions-end
slice_bounds-check_definitions-end c =
    let a = c.args in
    let n = live_room a.out.now a.bytes.now _ a.ctx.defs.first _ c.live_list-n.ensures.0 in
    omega (
      arith,
      n,
      c.live_list-n.auto.list,
      c.requires,
    )

pub slice_bounds-check_definitions-end-2 : goal.slice_bounds-check_definitions-end-2
slice_bounds-check_definitions-end-2 c =
    let a = c.args in
    let n = live_room a.out.now a.bytes.now _ a.ctx.defs.first _
    c.live_list-n.ensures.0 in
    sym (length-take-le _ _ (omega (
      arith,
      n,
      c.live_list-n.auto.list,
      c.requires,
    )))

pub returns : goal.returns
returns c = let a = c.args in
    live_reports a.list.now _ _ _
    c.no_text.ensures
    c.requires c.live_list-n.ensures.0
    c.live_list-n.ensures.1
    c.check_definitions.ensures
