-- A name reports nothing (Reported).
use Rattle.items.proofs.Reported.{reports_none}
use Rattle.items.proofs.report.emit_unnamed.Goals as goal

pub returns-in-Ok : goal.returns-in-Ok
returns-in-Ok c = rw c.in-Ok.is reports_none
