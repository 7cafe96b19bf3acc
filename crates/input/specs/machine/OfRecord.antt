-- What contracts say of a record of an input, in short: the reading of its words and text at its number.
use Rattle.std.specs.Prelude.{ℕ, List, Result}
use Rattle.paths_numbers.specs.meaning.Reference.{Target}
use Rattle.paths_numbers.specs.declared.phandle.MirPhandleTarget.{MirPhandleTarget}
use Rattle.definition_log.specs.meaning.Contents.{Span, Cell, Value}
use Rattle.input.specs.meaning.Tree.{Tree, Trees}
use Rattle.input.specs.meaning.Report.{Got, Made}
use Rattle.input.specs.meaning.Input.{kind_at, number_at, text_at, span_at, parts_at}
use Rattle.input.specs.machine.At.{record_at, contents_at}
use Rattle.input.specs.machine.PhandleRead.{label_at, path_at, phandle_read}
use Rattle.input.specs.machine.ValueRead.{cell_made, plain_made, value_made}
use Rattle.input.specs.declared.report.Report.{Report}
use Rattle.input.specs.declared.value_read.CellValue.{CellValue}
use Rattle.input.specs.declared.value_read.PlainValue.{PlainValue}
use Rattle.input.specs.declared.value_read.Value as declared
use Rattle.input.specs.declared.linked.Record.{Record}

-- its tree, and the two chains that it leads to
abbrev pub tree_of : Record → Tree
tree_of r = record_at r.input.words.now r.input.text.now r.number

abbrev pub parts_of : Record → Trees
parts_of r = parts_at r.input.words.now r.input.text.now r.number

abbrev pub contents_of : Record → Trees
contents_of r = contents_at r.input.words.now r.input.text.now r.number

-- its kind, the number that its W is, its span and text
abbrev pub kind_in : Record → ℕ
kind_in r = kind_at r.input.words.now r.number

abbrev pub w_in : Record → ℕ
w_in r = number_at r.input.words.now r.number

abbrev pub span_in : Record → Span
span_in r = span_at r.input.words.now r.number

abbrev pub text_in : Record → List ℕ
text_in r = text_at r.input.words.now r.input.text.now r.number

-- of a reference, its label and path
abbrev pub label_in : Record → List ℕ
label_in r = label_at r.input.words.now r.input.text.now r.number

abbrev pub path_in : Record → List ℕ
path_in r = path_at r.input.words.now r.input.text.now r.number

-- what a reading of it stands for: of a reference, a cell, a value without cells and a value
abbrev pub phandle_told : Record → Result MirPhandleTarget Report → Got Target
phandle_told r v = phandle_read r.input.words.now r.input.text.now r.number v

abbrev pub cell_told : Record → Result CellValue Report → Made Cell
cell_told r v = cell_made r.input.words.now r.input.text.now r.number v

abbrev pub plain_told : Record → PlainValue → Made Value
plain_told r v = plain_made r.input.words.now r.input.text.now r.number v

abbrev pub value_told : Record → ℕ → Result declared.Value Report → Made Value
value_told r level v = value_made r.input.words.now r.input.text.now r.number level v
