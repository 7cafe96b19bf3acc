-- 01's worked listing, computed by the checker, and a refusal.
use Rattle.std.specs.Prelude.{◌≡◌, refl}
use mathlib.Core.List.{flat_map}
use Rattle.definition_log.specs.meaning.Record.{out_field, log_count}
use Rattle.definition_log.specs.meaning.ReadBack.{read_log, chain_from, chain_of, target_at, read_labels, cell_at, read_cells, value_at}
use Rattle.definition_log.specs.meaning.ReadBack.{read_values}
use Rattle.definition_log.specs.meaning.ReadBack.{def_value_at, def_at, read_defs, ext_at, read_exts, binding_at, read_bindings, diag_at}
use Rattle.definition_log.specs.meaning.ReadBack.{read_diags}
use Rattle.definition_log.specs.examples.RecordExample.{listing_bytes}
use Rattle.definition_log.specs.examples.RecordExample.{listing as listing_words}
use Rattle.listing.specs.meaning.Listing.{ascii, decimal_of, decimal, span_field, definition_line, label_line, definition_lines}
use Rattle.listing.specs.meaning.Listing.{binding_line, diagnostic_line, listing, refusal_line}

pub printed : listing (read_log listing_words listing_bytes) ≡ ascii
    "D V - 0-9 0-9\nD N / 10-26 10-11\nD N /b 14-23 17-18\nl a\nB a /b 14-16\n.\n"
unfolding ascii decimal_of decimal span_field definition_line label_line definition_lines binding_line diagnostic_line listing flat_map
    read_log
    read_defs read_exts read_bindings read_diags def_at def_value_at read_labels read_values value_at read_cells cell_at target_at ext_at binding_at diag_at
    chain_of chain_from log_count out_field
printed = refl

pub refused : refusal_line 6 2047 ≡ ascii "R 6 2047\n"
unfolding ascii decimal_of decimal refusal_line
refused = refl

pub largest : decimal 4294967295 ≡ ascii "4294967295"
unfolding ascii decimal_of decimal
largest = refl

pub zero : decimal 0 ≡ ascii "0"
unfolding ascii decimal_of decimal
zero = refl
