-- What the reading of a reference answers, as the target and reports that it stands for.
use Rattle.std.specs.Prelude.{ℕ, cond, List, [], eqb, Result, Ok, Err}
use Rattle.paths_numbers.specs.meaning.Reference.{Target, target, label_of, path_of}
use Rattle.paths_numbers.specs.declared.phandle.MirPhandleTarget.{MirPhandleTarget}
use Rattle.paths_numbers.specs.declared.phandle.MirPhandleTarget.TheVariants as T
use Rattle.definition_log.specs.machine.Parts.{target_made}
use Rattle.input.specs.meaning.Place.{raw_reference}
use Rattle.input.specs.meaning.Report.{Got, found, failed}
use Rattle.input.specs.meaning.Input.{number_at, text_at}
use Rattle.input.specs.machine.Reported.{reports_of}
use Rattle.input.specs.declared.report.Report.{Report}
use Rattle.input.specs.declared.report.Report.TheVariants as R

-- the label and the path that a reference record gives: W 1 is raw, another names the label of its whole text
unfoldable pub label_at : List ℕ → List ℕ → ℕ → List ℕ
label_at words text r = cond (eqb (number_at words r) raw_reference) (label_of (target (text_at words text r))) (text_at words text r)

unfoldable pub path_at : List ℕ → List ℕ → ℕ → List ℕ
path_at words text r = cond (eqb (number_at words r) raw_reference) (path_of (target (text_at words text r))) []

-- what a reading of record r stands for
abbrev pub phandle_read : List ℕ → List ℕ → ℕ → Result MirPhandleTarget Report → Got Target
phandle_read words text r (Ok k) = found (target_made k (label_at words text r) (path_at words text r))
phandle_read words text r (Err d) = failed (reports_of words text d)

-- what a raw reference names, by 01's N
abbrev pub read_as : ℕ → Result MirPhandleTarget Report
read_as n = cond (eqb n 1) (Ok T.Label) (cond (eqb n 2) (Ok T.LabelPath) (cond (eqb n 3) (Ok T.Path) (Err R.Nothing)))
