use mathlib.Core.Path.{◌≡◌, ◌∙◌}
use native.Mathlib.Omega.{arith}
use Rattle.input.proofs.RowsStands.{stands_first, stands_more, stand_most}
use Rattle.input.proofs.refusal.find_stands.Goals as goal

pub loop-r-init : goal.loop-r-init
loop-r-init c =
    stands_first c.args.records.words.now c.args.stands.now _ _ c.requires c.child_at.ensures (rw c.from.ensures at c.store.ensures)

pub lead_on-requires : goal.lead_on-requires
lead_on-requires c =
    let l = c.loop-r in
    let h = l.invariant in
    let b = c.args.records.counted in
    omega (arith, c.entry_in.ensures ∙ h.tell l.r (omega (arith, b, h.room)), stand_most c.args.records.words.now l.r l.r, b)

pub loop-r-preserved : goal.loop-r-preserved
loop-r-preserved c =
    let l = c.loop-r in
    let h = l.invariant in
    stands_more c.args.records.words.now l.r l.stands _ _ (omega arith) h c.entry_in.ensures
    (omega (arith, c.args.records.counted, h.room)) c.lead_on.ensures

pub returns : goal.returns
returns c =
    let l = c.loop-r in
    let e : l.r ≡ c.args.records.count = omega (arith, c.args.records.some) in
    rw e at l.invariant
