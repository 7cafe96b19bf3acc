-- By the cases of a report (Reported).
use Rattle.input.specs.machine.Reported.{reports_of}
use mathlib.Core.Path.{sym, ap}
use Rattle.items.proofs.Reported.{same_reports, reports_none}
use Rattle.items.proofs.report.emit_report.Goals as goal

pub returns-in-Nothing : goal.returns-in-Nothing
returns-in-Nothing c = let a = c.args in same_reports
    (sym (ap (reports_of a.words.now a.text.now) c.in-Nothing.is)) reports_none
