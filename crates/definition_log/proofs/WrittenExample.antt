-- The logs of RecordExample are written logs; with one word or byte changed they are not.
use Prim.Native.Nat.{ℕ, ◌≤◌}
use mathlib.Core.Path.{◌≡◌, refl}
use mathlib.Core.Bool.{true}
use mathlib.Core.List.{List, [], ◌∷◌, ◌++◌}
use native.Mathlib.Omega.{arith}
use lib.ListN.{set}
use Rattle.paths_numbers.specs.meaning.Text.{same, is_empty, starts_with}
use Rattle.paths_numbers.specs.meaning.Path.{good_path, components}
use Rattle.files.specs.meaning.Files.{last_from, file_of}
use Rattle.definition_log.specs.meaning.Record.{out_field, one_of, log_count}
use Rattle.definition_log.specs.meaning.ReadBack.{Log, read_log}
use Rattle.definition_log.specs.meaning.Sound.{link_to, head_links, links_of, targets, times, walk, followed, any_of, heads_out, links_out}
use Rattle.definition_log.specs.meaning.Sound.{unfit}
use Rattle.definition_log.specs.meaning.Sound.{texts_out, spans_reversed, path_wrong, record_fault, at_fault, first_fault, lowest_fault}
use Rattle.definition_log.specs.meaning.Sound.{sound}
use Rattle.definition_log.specs.meaning.Written.{named, holders_in, Written}
use Rattle.definition_log.specs.examples.RecordExample.{listing, listing_bytes, kinds, kinds_bytes, but}
use Rattle.definition_log.proofs.WrittenTest.{all_below, all_of, zero_or_named, kept_test, rest_test, reached_test, shared_test, word_test}
use Rattle.definition_log.proofs.WrittenTest.{byte_test}
use Rattle.definition_log.proofs.WrittenTest.{written_test, written_by_test}

-- of one file, which starts at 0
abbrev one_file : List ℕ
one_file = 0 ∷ []

-- they keep row 8's rules and pass the tests of the others
listing_kept : lowest_fault listing listing_bytes ≡ sound
unfolding lowest_fault first_fault at_fault record_fault path_wrong spans_reversed texts_out unfit links_out heads_out any_of followed walk
    times
    targets links_of head_links link_to log_count one_of out_field good_path components is_empty same starts_with
listing_kept = refl

listing_tested : written_test one_file listing listing_bytes ≡ true
unfolding written_test all_of all_below rest_test reached_test kept_test zero_or_named shared_test word_test byte_test file_of last_from
    named
    holders_in followed walk times targets links_of head_links link_to log_count one_of out_field
listing_tested = refl

pub listing_written : Written one_file listing listing_bytes 6 7 (read_log listing listing_bytes)
unfolding out_field
listing_written = written_by_test one_file listing listing_bytes listing_kept listing_tested

kinds_kept : lowest_fault kinds kinds_bytes ≡ sound
unfolding lowest_fault first_fault at_fault record_fault path_wrong spans_reversed texts_out unfit links_out heads_out any_of followed walk
    times
    targets links_of head_links link_to log_count one_of out_field good_path components is_empty same starts_with
kinds_kept = refl

kinds_tested : written_test one_file kinds kinds_bytes ≡ true
unfolding written_test all_of all_below rest_test reached_test kept_test zero_or_named shared_test word_test byte_test file_of last_from
    named
    holders_in followed walk times targets links_of head_links link_to log_count one_of out_field
kinds_tested = refl

pub kinds_written : Written one_file kinds kinds_bytes 16 19 (read_log kinds kinds_bytes)
unfolding out_field
kinds_written = written_by_test one_file kinds kinds_bytes kinds_kept kinds_tested

-- zeros may follow the last whole record
abbrev odd : ℕ → List ℕ
odd v = listing ++ 0 ∷ v ∷ []

odd_kept : lowest_fault (odd 0) listing_bytes ≡ sound
unfolding lowest_fault first_fault at_fault record_fault path_wrong spans_reversed texts_out unfit links_out heads_out any_of followed walk
    times
    targets links_of head_links link_to log_count one_of out_field good_path components is_empty same starts_with
odd_kept = refl

odd_tested : written_test one_file (odd 0) listing_bytes ≡ true
unfolding written_test all_of all_below rest_test reached_test kept_test zero_or_named shared_test word_test byte_test file_of last_from
    named
    holders_in followed walk times targets links_of head_links link_to log_count one_of out_field
odd_tested = refl

pub odd_written : Written one_file (odd 0) listing_bytes 6 7 (read_log (odd 0) listing_bytes)
unfolding out_field
odd_written = written_by_test one_file (odd 0) listing_bytes odd_kept odd_tested

-- a log that is not written, whatever it is said to be
abbrev pub Refused : List ℕ → List ℕ → Type 0
Refused words bytes = (records used : ℕ) (log : Log) → Written one_file words bytes records used log → ⊥

pub record NotWritten : Type 0 where
  -- a wrong count of records or bytes used
  pub wrong_records : (used : ℕ) (log : Log) → Written one_file listing listing_bytes 5 used log → ⊥
  pub wrong_bytes : (records : ℕ) (log : Log) → Written one_file listing listing_bytes records 8 log → ⊥
  -- a word that is not named: in record 0, the last of a label's, the span of a label, the second text of a label reference
  pub stray_head : Refused (but 0 7 1 listing) listing_bytes
  pub stray_last : Refused (but 4 15 1 listing) listing_bytes
  pub stray_span : Refused (but 4 10 1 listing) listing_bytes
  pub stray_second : Refused (but 7 4 1 kinds) kinds_bytes
  -- an empty text that does not start at 0
  pub empty_start : Refused (but 1 2 3 listing) listing_bytes
  -- an omit mark that is neither 0 nor 1
  pub omit_two : Refused (but 2 7 2 listing) listing_bytes
  -- a record that no link leads to, a word behind the last record, a byte that no text has
  pub stray_record : Refused (but 16 9 1 kinds) kinds_bytes
  pub stray_word : Refused (odd 1) listing_bytes
  pub stray_byte : Refused listing (set listing_bytes 7 1)
  -- two texts with one byte: the binding's label in the label's place, which reads the same
  pub shared : Refused (but 5 2 3 listing) listing_bytes

pub not_written : NotWritten
unfolding named holders_in followed walk times targets links_of head_links link_to log_count one_of out_field
not_written =
    record {
      wrong_records = λ u l w. let z : ◌≡◌ {A = ℕ} 6 5 = w.counted in omega arith;
      wrong_bytes = λ r l w. let z : ◌≡◌ {A = ℕ} 7 8 = w.counted_bytes in omega arith;
      stray_head = λ r u l w. let z : ◌≡◌ {A = ℕ} 1 0 = w.rest_of_head 7 (omega arith) (omega arith) in omega arith;
      stray_last = λ r u l w. let z : ◌≡◌ {A = ℕ} 1 0 = (w.kept 4 refl).unnamed 15 (omega arith) refl in omega arith;
      stray_span = λ r u l w. let z : ◌≡◌ {A = ℕ} 1 0 = (w.kept 4 refl).unnamed 10 (omega arith) refl in omega arith;
      stray_second = λ r u l w. let z : ◌≡◌ {A = ℕ} 1 0 = (w.kept 7 refl).unnamed 4 (omega arith) refl in omega arith;
      empty_start = λ r u l w. let z : ◌≡◌ {A = ℕ} 3 0 = (w.kept 1 refl).empty_text refl in omega arith;
      omit_two = λ r u l w. let z : 2 ≤ 1 = (w.kept 2 refl).n in omega arith;
      stray_record = λ r u l w. let z : ◌≡◌ {A = ℕ} 1 0 = w.clear_words 265 (omega arith) refl in omega arith;
      stray_word = λ r u l w. let z : ◌≡◌ {A = ℕ} 1 0 = w.clear_words 97 (omega arith) refl in omega arith;
      stray_byte = λ r u l w. let z : ◌≡◌ {A = ℕ} 1 0 = w.clear_bytes 7 refl in omega arith;
      shared = λ r u l w. let z : 2 ≤ 1 = w.unshared 3 in omega arith;
    }
