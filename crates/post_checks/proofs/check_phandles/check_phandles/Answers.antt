-- By whether the log is an overlay (References).
use mathlib.Core.Path.{sym, ◌∙◌}
use Rattle.queries.proofs.Chain.{count_most}
use Rattle.post_checks.proofs.References.{phandles_lower, phandles_none}
use Rattle.post_checks.proofs.check_phandles.check_phandles.Goals as goal

pub returns-then-sets_overlay_in : goal.returns-then-sets_overlay_in
returns-then-sets_overlay_in c = phandles_none (sym (c.sets_overlay_in.ensures _) ∙ c.if-sets_overlay_in.true)

pub returns-then-records-le-LEAST_RECORDS : goal.returns-then-records-le-LEAST_RECORDS
returns-then-records-le-LEAST_RECORDS c =
    phandles_lower (sym (c.sets_overlay_in.ensures _) ∙ c.if-sets_overlay_in.false) c.check_within.ensures

pub returns-then-records-le-FEW_RECORDS : goal.returns-then-records-le-FEW_RECORDS
returns-then-records-le-FEW_RECORDS c =
    phandles_lower (sym (c.sets_overlay_in.ensures _) ∙ c.if-sets_overlay_in.false) c.check_within-then-records-le-FEW_RECORDS.ensures

pub check_within-requires-2-clause-room : goal.check_within-requires-2-clause-room
check_within-requires-2-clause-room c = count_most c.args.out.now

pub returns : goal.returns
returns c =
    phandles_lower (sym (c.sets_overlay_in.ensures _) ∙ c.if-sets_overlay_in.false) c.check_within-2.ensures
