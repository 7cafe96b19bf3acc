-- What the name reports, and then its unit address (Reported).
use Rattle.items.proofs.Reported.{same_reports, reports_then, full_reports, name_reports}
use Rattle.items.proofs.report.emit_name.Goals as goal

pub returns-in-Some : goal.returns-in-Some
returns-in-Some c = let a = c.args in
    same_reports (full_reports a.words.now a.text.now a.f _ c.in-Some.is)
    (reports_then _ _ c.emit_unnamed-named.ensures c.emit_unnamed.ensures)

pub returns-in-None : goal.returns-in-None
returns-in-None c = let a = c.args in
    same_reports (name_reports a.words.now a.text.now a.f c.in-None.is) c.emit_unnamed-named.ensures
