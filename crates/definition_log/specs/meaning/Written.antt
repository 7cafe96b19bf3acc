-- What lowering leaves in both buffers on success: 01's rules for writing, and 02's for the files' numbers, by which every word and byte is
-- given but for record numbers and text starts.
use Rattle.std.specs.Prelude.{ℕ, ◌+◌, ◌/◌, ◌≤◌, ◌<◌, Bool, true, false, cond, ◌≡◌, List, [], ◌∷◌, eqb, leb, ltb, get_or}
use Rattle.files.specs.meaning.Files.{file_of}
use Rattle.definition_log.specs.meaning.Record.{record_words, head_words, out_field, kind_of, next_of, child_of, text_start, text_length}
use Rattle.definition_log.specs.meaning.Record.{second_start}
use Rattle.definition_log.specs.meaning.Record.{second_length, n_of, records_used, bytes_used, node_kind, label_kind, string_kind}
use Rattle.definition_log.specs.meaning.Record.{cell_list_kind}
use Rattle.definition_log.specs.meaning.Record.{bytestring_kind, number_kind, reference_kind, extension_kind, binding_kind, diagnostic_kind}
use Rattle.definition_log.specs.meaning.Record.{one_of}
use Rattle.definition_log.specs.meaning.Record.{def_kinds, has_children, has_span, has_name_span, span_start, name_start, span_file}
use Rattle.definition_log.specs.meaning.Record.{name_file}
use Rattle.definition_log.specs.meaning.ReadBack.{Log, read_log}
use Rattle.definition_log.specs.meaning.Sound.{Link, followed, is_reached, sound, lowest_fault}

-- which words a kind names, by N of a reference: its label is the first text, its path the second
abbrev pub has_text : ℕ → ℕ → Bool
has_text k n =
    cond (eqb k reference_kind) (one_of n (1 ∷ 2 ∷ []))
    (cond (one_of k def_kinds) true (one_of k (label_kind ∷ string_kind ∷ bytestring_kind ∷ binding_kind ∷ diagnostic_kind ∷ [])))

abbrev pub has_second_text : ℕ → ℕ → Bool
has_second_text k n = cond (eqb k reference_kind) (one_of n (2 ∷ 3 ∷ [])) (eqb k binding_kind)

abbrev pub has_n : ℕ → Bool
has_n k = one_of k (node_kind ∷ cell_list_kind ∷ number_kind ∷ reference_kind ∷ diagnostic_kind ∷ [])

abbrev pub has_m : ℕ → Bool
has_m k = one_of k (number_kind ∷ extension_kind ∷ [])

-- whether word i is named: kind and next always, words 13 and 14 by the spans (02, request 3), the last zero never
unfoldable pub named : ℕ → ℕ → ℕ → Bool
named k n i =
    cond (leb i 1) true
    (cond (leb i 3) (has_text k n)
    (cond (leb i 5) (has_second_text k n)
    (cond (eqb i 6) (has_children k)
    (cond (eqb i 7) (has_n k)
    (cond (eqb i 8) (has_m k)
    (cond (leb i 10) (has_span k)
    (cond (leb i 12) (has_name_span k)
    (cond (eqb i 13) (has_span k)
    (cond (eqb i 14) (has_name_span k)
    false)))))))))

-- the numbers that N has in a node, 1 with an omit mark, and in a reference (0 is one that cannot be read, which lowering does not make)
abbrev pub largest_n : ℕ → ℕ → ℕ
largest_n k n = cond (eqb k node_kind) 1 (cond (eqb k reference_kind) 3 n)

-- how many texts of the records that links lead to hold byte i
abbrev pub holds : ℕ → ℕ → ℕ → ℕ
holds start size i = cond (cond (leb start i) (ltb i (start + size)) false) 1 0

unfoldable pub holders_in : List ℕ → List Link → ℕ → ℕ
holders_in words [] i = 0
holders_in words (l ∷ ls) i =
    holds (text_start words l.to) (text_length words l.to) i
    + holds (second_start words l.to) (second_length words l.to) i
    + holders_in words ls i

abbrev pub holders : List ℕ → ℕ → ℕ
holders words i = holders_in words (followed words) i

-- the rules for each record that is reached
pub record Kept (starts words : List ℕ) (r : ℕ) : Type 0 where
  -- "Words not named for a kind … are zero"
  pub unnamed : (i : ℕ) → i < record_words → named (kind_of words r) (n_of words r) i ≡ false → out_field words r i ≡ 0
  -- "an empty text starts at 0"
  pub empty_text : text_length words r ≡ 0 → text_start words r ≡ 0
  pub empty_second : second_length words r ≡ 0 → second_start words r ≡ 0
  -- N is one of the numbers that 01 gives
  pub n : n_of words r ≤ largest_n (kind_of words r) (n_of words r)
  -- 02, request 3: "word 13 … holds the number, from 0, of the last start not above its span start; word 14 does so for its name span"
  pub file_of_span : has_span (kind_of words r) ≡ true → span_file words r ≡ file_of starts (span_start words r)
  pub file_of_name : has_name_span (kind_of words r) ≡ true → name_file words r ≡ file_of starts (name_start words r)
  -- "13 extension (child reference …)": one reference
  pub a_reference : kind_of words r ≡ extension_kind → child_of words r ≡ 0 → ⊥
  pub one_reference : kind_of words r ≡ extension_kind → next_of words (child_of words r) ≡ 0

-- the whole: the files' starts, the words and bytes of a log, and record 0's two counts
pub record Written (starts words bytes : List ℕ) (records used : ℕ) (log : Log) : Type 0 where
  -- what is read back. An empty chain's head is 0, since it does not lead out of the log either; a number gives its two words, as "All
  -- words are u32"
  pub reads : read_log words bytes ≡ log
  -- "keep row 8's rules", but that there may be words behind the last whole record
  pub rules : lowest_fault words bytes ≡ sound
  -- record 0: "records used (counted as in row 7, bytes too)"; its other words but the heads of the chains are zero
  pub counted : records_used words ≡ records
  pub counted_bytes : bytes_used words ≡ used
  pub rest_of_head : (i : ℕ) → head_words ≤ i → i < record_words → out_field words 0 i ≡ 0
  pub kept : (r : ℕ) → is_reached words r ≡ true → Kept starts words r
  -- "texts unshared"
  pub unshared : (i : ℕ) → holders words i ≤ 1
  -- "words and bytes no chain reaches, are zero": also words behind the last whole record, which no link leads to
  pub clear_words : (i : ℕ) → record_words ≤ i → is_reached words (i / record_words) ≡ false → get_or words i 0 ≡ 0
  pub clear_bytes : (i : ℕ) → holders words i ≡ 0 → get_or bytes i 0 ≡ 0
