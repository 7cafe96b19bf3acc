-- The files' numbers put into a log that has none: words 13 and 14 of its records by their words 9 and 11; all else stays.
use Rattle.std.specs.Prelude.{ℕ, ◌+◌, ◌<◌, ◌≡◌, List, length, get_or, set}
use Rattle.files.specs.meaning.Files.{file_of}
use Rattle.definition_log.specs.meaning.Record.{record_words, out_field, span_start, name_start, span_file, name_file}

-- one record, whose words start at `at`
unfoldable pub record_put : List ℕ → List ℕ → ℕ → List ℕ
record_put starts words at =
    set (set words (at + 13) (file_of starts (get_or words (at + 9) 0))) (at + 14) (file_of starts (get_or words (at + 11) 0))

-- the first records
pub record FilesPut (starts words w : List ℕ) (records : ℕ) : Type 0 where
  pub same_length : length w ≡ length words
  pub file_of_span : (r : ℕ) → r < records → span_file w r ≡ file_of starts (span_start words r)
  pub file_of_name : (r : ℕ) → r < records → name_file w r ≡ file_of starts (name_start words r)
  pub others : (r i : ℕ) → i < record_words → (i ≡ 13 → r < records → ⊥) → (i ≡ 14 → r < records → ⊥) → out_field w r i ≡ out_field words r i
