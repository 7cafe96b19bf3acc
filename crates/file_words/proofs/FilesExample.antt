-- 01's worked listing of three files, which start at 0, 11 and 17, computed by the checker: /b starts in file 1 and its name in file 2, the
-- binding of its label starts in file 1, and all else in file 0. The predicate is not empty for more than one file, nor for every log.
use Prim.Native.Nat.{ℕ}
use mathlib.Core.Path.{◌≡◌, refl}
use mathlib.Core.Bool.{true}
use mathlib.Core.List.{List, [], ◌∷◌}
use native.Mathlib.Omega.{arith}
use lib.ListN.{set}
use Rattle.paths_numbers.specs.meaning.Text.{same, is_empty, starts_with}
use Rattle.paths_numbers.specs.meaning.Path.{good_path, components}
use Rattle.files.specs.meaning.Files.{last_from, file_of}
use Rattle.definition_log.specs.meaning.Record.{out_field, one_of, log_count}
use Rattle.definition_log.specs.meaning.ReadBack.{Log, read_log, chain_from, chain_of, read_labels, read_values, def_value_at, def_at}
use Rattle.definition_log.specs.meaning.ReadBack.{read_defs, read_exts}
use Rattle.definition_log.specs.meaning.ReadBack.{binding_at, read_bindings, read_diags}
use Rattle.definition_log.specs.meaning.Sound.{link_to, head_links, links_of, targets, times, walk, followed, any_of, heads_out, links_out}
use Rattle.definition_log.specs.meaning.Sound.{unfit}
use Rattle.definition_log.specs.meaning.Sound.{texts_out, spans_reversed, path_wrong, record_fault, at_fault, first_fault, lowest_fault}
use Rattle.definition_log.specs.meaning.Sound.{sound}
use Rattle.definition_log.specs.meaning.Written.{named, holders_in, Written}
use Rattle.definition_log.specs.examples.RecordExample.{listing, listing_bytes}
use Rattle.definition_log.proofs.WrittenTest.{all_below, all_of, zero_or_named, kept_test, rest_test, reached_test, shared_test, word_test}
use Rattle.definition_log.proofs.WrittenTest.{byte_test}
use Rattle.definition_log.proofs.WrittenTest.{written_test, written_by_test}
use Rattle.file_words.specs.machine.Put.{record_put}

abbrev pub three_files : List ℕ
three_files = 0 ∷ 11 ∷ 17 ∷ []

-- the listing's records 0 to 5, one after the other
abbrev pub listing_of_three : List ℕ
listing_of_three = set (set (set listing 61 1) 62 2) 93 1

pub put_all : record_put three_files (record_put three_files (record_put three_files (record_put three_files (record_put three_files
    (record_put three_files listing 0) 16) 32) 48) 64) 80 ≡ listing_of_three
unfolding record_put file_of last_from
put_all = refl

three_kept : lowest_fault listing_of_three listing_bytes ≡ sound
unfolding lowest_fault first_fault at_fault record_fault path_wrong spans_reversed texts_out unfit links_out heads_out any_of followed walk
    times
    targets links_of head_links link_to log_count one_of out_field good_path components is_empty same starts_with
three_kept = refl

three_tested : written_test three_files listing_of_three listing_bytes ≡ true
unfolding written_test all_of all_below rest_test reached_test kept_test zero_or_named shared_test word_test byte_test file_of last_from
    named holders_in
    followed walk times targets links_of head_links link_to log_count one_of out_field
three_tested = refl

pub three_written : Written three_files listing_of_three listing_bytes 6 7 (read_log listing_of_three listing_bytes)
unfolding out_field
three_written = written_by_test three_files listing_of_three listing_bytes three_kept three_tested

-- it says what the listing says
pub three_reads : read_log listing_of_three listing_bytes ≡ read_log listing listing_bytes
unfolding read_log read_defs read_exts read_bindings read_diags def_at def_value_at read_labels read_values binding_at chain_of chain_from
    log_count
    out_field
three_reads = refl

-- a log that is not written of these files, whatever it is said to be
abbrev Refused : List ℕ → Type 0
Refused words = (records used : ℕ) (log : Log) → Written three_files words listing_bytes records used log → ⊥

pub record NotOfThree : Type 0 where
  -- the numbers left out
  pub no_numbers : Refused listing
  -- the number of the first start not below, for the last not above
  pub next_start : Refused (set listing_of_three 61 2)
  -- the name's file for the span's
  pub name_for_span : Refused (set listing_of_three 62 1)
  -- a number for a name span that a binding has not, and one in a label
  pub stray_name : Refused (set listing_of_three 94 1)
  pub stray_label : Refused (set listing_of_three 77 1)

pub not_of_three : NotOfThree
unfolding named file_of last_from holders_in followed walk times targets links_of head_links link_to log_count one_of out_field
not_of_three =
    record {
      no_numbers = λ r u l w. let z : ◌≡◌ {A = ℕ} 0 1 = (w.kept 3 refl).file_of_span refl in omega arith;
      next_start = λ r u l w. let z : ◌≡◌ {A = ℕ} 2 1 = (w.kept 3 refl).file_of_span refl in omega arith;
      name_for_span = λ r u l w. let z : ◌≡◌ {A = ℕ} 1 2 = (w.kept 3 refl).file_of_name refl in omega arith;
      stray_name = λ r u l w. let z : ◌≡◌ {A = ℕ} 1 0 = (w.kept 5 refl).unnamed 14 (omega arith) refl in omega arith;
      stray_label = λ r u l w. let z : ◌≡◌ {A = ℕ} 1 0 = (w.kept 4 refl).unnamed 13 (omega arith) refl in omega arith;
    }
