-- The chains that are listed, each named by its place in record 0: "first definition, extension, binding, lowering diagnostic, then bytes
-- used, first post-check diagnostic".
use Rattle.std.specs.Prelude.{ℕ}
use mathlib.Core.List.{List, flat_map}
use Rattle.definition_log.specs.meaning.Record.{out_field}
use Rattle.definition_log.specs.meaning.ReadBack.{chain_of, def_at, binding_at, diag_at}
use Rattle.listing.specs.meaning.Listing.{definition_lines, binding_line, diagnostic_line}

-- the lines of a record of a chain, read from the words and bytes of a log
abbrev pub RecordLines : Type 0
RecordLines = List ℕ → List ℕ → ℕ → List ℕ

-- those of a definition, a binding and a diagnostic
abbrev pub definition_record : RecordLines
definition_record words bytes r = definition_lines (def_at words bytes r)

abbrev pub binding_record : RecordLines
binding_record words bytes r = binding_line (binding_at words bytes r)

abbrev pub diagnostic_record : RecordLines
diagnostic_record words bytes r = diagnostic_line (diag_at words bytes r)

-- the lines of a chain whose first record stands at a place of record 0
unfoldable pub chain_lines : RecordLines → ℕ → List ℕ → List ℕ → List ℕ
chain_lines lines place words bytes = flat_map (lines words bytes) (chain_of words (out_field words 0 place))
