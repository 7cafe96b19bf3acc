-- What a report as the code holds it stands for: its diagnostic is known by the record that it speaks of.
use Rattle.std.specs.Prelude.{ℕ, List, [], ◌∷◌}
use Rattle.definition_log.specs.meaning.Contents.{Diag}
use Rattle.input.specs.meaning.Report.{report, undefined_macro}
use Rattle.input.specs.meaning.Input.{span_at}
use Rattle.input.specs.machine.At.{record_at}
use Rattle.input.specs.declared.report.Report.{Report}
use Rattle.input.specs.declared.report.Report.TheVariants as R

-- nothing; code 10, with the macro's text; or another code, at a record
abbrev pub reports_of : List ℕ → List ℕ → Report → List Diag
reports_of words text R.Nothing = []
reports_of words text (R.Macro m) = undefined_macro (record_at words text m) ∷ []
reports_of words text (R.Code code r) = report code [] (span_at words r) ∷ []
