-- A diagnostic of the log, with the macro's text (Reported).
use Rattle.input.specs.meaning.Input.{span_at}
use Rattle.input.specs.machine.At.{record_at}
use Rattle.input.specs.meaning.Report.{report}
use mathlib.Core.List.{List, [], ◌∷◌}
use Prim.Native.Nat.{ℕ}
use mathlib.Core.Path.{ap}
use Rattle.items.proofs.Reported.{reported, same_reports}
use Rattle.items.proofs.report.undefined_macro.Goals as goal

pub returns : goal.returns
unfolding record_at
returns c = let a = c.args in
    same_reports (ap (λ (t : List ℕ). report 10 t (span_at a.words.now a.m) ∷ [])
    c.text_at-name.ensures)
    (reported 10 _ (span_at a.words.now a.m) c.span_at-span.ensures
    c.emit.ensures)
