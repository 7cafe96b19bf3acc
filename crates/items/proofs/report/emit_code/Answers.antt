-- A diagnostic of the log, at a record (Reported).
use Rattle.input.specs.meaning.Input.{span_at}
use mathlib.Core.List.{[]}
use Rattle.items.proofs.Reported.{reported}
use Rattle.items.proofs.report.emit_code.Goals as goal

pub returns : goal.returns
returns c = let a = c.args in reported
    a.code [] (span_at a.words.now a.r) c.span_at-span.ensures
    c.emit.ensures
