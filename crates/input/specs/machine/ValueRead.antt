-- What the reading of a value or a cell answers, as what it makes and reports.
use Rattle.std.specs.Prelude.{ℕ, cond, List, [], Result, Ok, Err}
use Rattle.paths_numbers.specs.meaning.Bytestring.{is_odd, bytes_of}
use Rattle.paths_numbers.specs.meaning.Reading as R
use Rattle.definition_log.specs.meaning.Contents.{Cell, number, reference, Value, string, bytestring, phandle}
use Rattle.definition_log.specs.machine.Parts.{target_made}
use Rattle.input.specs.meaning.Report.{Made, one, nothing}
use Rattle.input.specs.meaning.Property.{sized_list}
use Rattle.input.specs.meaning.Input.{span_at, text_at, parts_at}
use Rattle.input.specs.machine.PhandleRead.{label_at, path_at}
use Rattle.input.specs.machine.Reported.{reports_of}
use Rattle.input.specs.declared.report.Report.{Report}
use Rattle.input.specs.declared.report.Report.TheVariants.{Code}
use Rattle.input.specs.declared.value_read.CellValue.{CellValue}
use Rattle.input.specs.declared.value_read.CellValue.TheVariants as C
use Rattle.input.specs.declared.value_read.PlainValue.{PlainValue}
use Rattle.input.specs.declared.value_read.PlainValue.TheVariants as P
use Rattle.input.specs.declared.value_read.Value as declared
use Rattle.input.specs.declared.value_read.Value.TheVariants as V

-- what was read at record r, or the report of its failure's code
abbrev pub reported : {A : Type 0} → ℕ → R.Reading A → Result A Report
reported r (R.value a) = Ok a
reported r (R.fails code) = Err (Code code r)

module _ (words text : List ℕ) (r : ℕ) where
  -- a cell at record r
  abbrev pub cell_made : Result CellValue Report → Made Cell
  cell_made (Ok (C.Number n)) = one (number n)
  cell_made (Ok (C.Phandle k)) = one (reference (target_made k (label_at words text r) (path_at words text r)))
  cell_made (Err d) = nothing (reports_of words text d)

  -- a value at record r that has no cells; a text that lacks a digit is no bytestring
  abbrev pub plain_made : PlainValue → Made Value
  plain_made P.String = one (string (text_at words text r))
  plain_made P.Bytestring = cond (is_odd (text_at words text r)) (nothing []) (one (bytestring (bytes_of (text_at words text r))))
  plain_made (P.Phandle k) = one (phandle (target_made k (label_at words text r) (path_at words text r)))

  -- a value at record r, at a level
  abbrev pub value_made : ℕ → Result declared.Value Report → Made Value
  value_made level (Ok (V.Plain v)) = plain_made v
  value_made level (Ok (V.CellList size)) = sized_list level (span_at words r) (parts_at words text r) (R.value size)
  value_made level (Err d) = nothing (reports_of words text d)
