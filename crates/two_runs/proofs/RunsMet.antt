-- The premises of demand 3's theorem are met jointly: the two runs of RunsExample are accepted runs, run B's description is run A's with
-- the two put in, and so the theorem says that what both leave is alike.
use Prim.Native.Nat.{ℕ, zero, suc, ◌<◌, ◌^◌}
use mathlib.Core.Path.{◌≡◌, refl}
use mathlib.Core.Bool.{true, false}
use mathlib.Core.List.{List, [], ◌∷◌}
use native.Mathlib.Omega.{arith}
use borrow.Author.Tests.{leb-false}
use lib.Dec.{leb}
use lib.ListN.{get_or}
use Rattle.levels.specs.meaning.Rules.{unsigned_level, is_level}
use Rattle.files.specs.meaning.Files.{rises, good_files, last_from, file_of}
use Rattle.paths_numbers.specs.meaning.Text.{same, is_empty, starts_with}
use Rattle.paths_numbers.specs.meaning.Path.{good_path, components}
use Rattle.paths_numbers.specs.meaning.Lists.{any}
use Rattle.paths_numbers.proofs.Texts.{by_test, not_both}
use Rattle.definition_log.specs.meaning.Record.{out_field, one_of, log_count}
use Rattle.definition_log.specs.meaning.ReadBack.{read_log, chain_from, chain_of, read_labels, def_value_at, def_at, read_defs, read_exts}
use Rattle.definition_log.specs.meaning.ReadBack.{read_bindings}
use Rattle.definition_log.specs.meaning.ReadBack.{diag_at, read_diags}
use Rattle.definition_log.specs.meaning.Sound.{link_to, head_links, links_of, targets, times, walk, followed, any_of, heads_out, links_out}
use Rattle.definition_log.specs.meaning.Sound.{unfit}
use Rattle.definition_log.specs.meaning.Sound.{texts_out, spans_reversed, path_wrong, record_fault, at_fault, first_fault, lowest_fault}
use Rattle.definition_log.specs.meaning.Sound.{sound}
use Rattle.definition_log.specs.meaning.Written.{named, holders_in}
use Rattle.definition_log.proofs.WrittenTest.{all_below, all_of, zero_or_named, kept_test, rest_test, reached_test, shared_test, word_test}
use Rattle.definition_log.proofs.WrittenTest.{byte_test}
use Rattle.definition_log.proofs.WrittenTest.{written_test, written_by_test}
use Rattle.input.specs.meaning.Tree.{empty}
use Rattle.input.specs.meaning.Input.{description}
use Rattle.making.specs.meaning.State.{start, diags_bytes, texts_bytes, bindings_bytes}
use Rattle.items.specs.meaning.Lower.{lowered}
use Rattle.post_checks.specs.meaning.Post.{post_checks, check_directives, directives_from, check_references, check_defs, duplicate_labels}
use Rattle.lowering.specs.meaning.Lowered.{log_of, records_made, bytes_made, fits_in, done}
use Rattle.two_runs.specs.meaning.TwoRuns.{Inserted}
use Rattle.two_runs.specs.meaning.WholeRuns.{AcceptedRun, AlikeRuns, WholeRuns}
use Rattle.two_runs.specs.examples.TwoRunsExample.{computed_state}
use Rattle.two_runs.specs.examples.RunsExample.{files, run_a, run_b, accepted_a, accepted_b, root_with, the_two, read_a, read_b, new_path}
use Rattle.two_runs.specs.examples.RunsExample.{root_inserted}
use Rattle.two_runs.proofs.WholeRuns.{whole_runs}

-- what both leave keeps row 8's rules, and passes the tests of the other rules for writing
kept : (lowest_fault run_a.out run_a.bytes ≡ sound) × (lowest_fault run_b.out run_b.bytes ≡ sound)
unfolding lowest_fault first_fault at_fault record_fault path_wrong spans_reversed texts_out unfit links_out heads_out any_of followed walk
    times
    targets links_of head_links link_to log_count one_of out_field good_path components is_empty same starts_with
kept = (refl, refl)

tested : (written_test files run_a.out run_a.bytes ≡ true) × (written_test files run_b.out run_b.bytes ≡ true)
unfolding written_test all_of all_below rest_test reached_test kept_test zero_or_named shared_test word_test byte_test file_of last_from
    named
    holders_in followed walk times targets links_of head_links link_to log_count one_of out_field
tested = (refl, refl)

-- it says what the definitions make of the descriptions
logs : (log_of (lowered unsigned_level (root_with empty)) ≡ read_log run_a.out run_a.bytes)
    × (log_of (lowered unsigned_level (root_with the_two)) ≡ read_log run_b.out run_b.bytes)
unfolding computed_state log_of post_checks check_directives directives_from check_references check_defs duplicate_labels read_log read_defs
    read_exts
    read_bindings read_diags def_at def_value_at read_labels diag_at chain_of chain_from log_count out_field
logs = (refl, refl)

-- and row 7's counts are these
counts : (records_made (lowered unsigned_level (root_with empty)) ≡ 3) × (bytes_made (lowered unsigned_level (root_with empty)) ≡ 1)
    × (records_made (lowered unsigned_level (root_with the_two)) ≡ 5) × (bytes_made (lowered unsigned_level (root_with the_two)) ≡ 5)
unfolding computed_state records_made bytes_made post_checks check_directives directives_from check_references check_defs duplicate_labels
    diags_bytes
    texts_bytes bindings_bytes
counts = (refl, refl, refl, refl)

-- words below 2^32
all_below_lem : (w : List ℕ) → any (leb (2 ^ 32)) w ≡ false → (i : ℕ) → get_or w i 0 < 2 ^ 32
unfolding any
all_below_lem [] e i = omega arith
all_below_lem (x ∷ w) e zero = by_test (leb (2 ^ 32) x) (λ t. absurd (not_both (rw t refl) e)) (λ t. leb-false (2 ^ 32) x t)
all_below_lem (x ∷ w) e (suc i) = by_test (leb (2 ^ 32) x) (λ t. absurd (not_both (rw t refl) e)) (λ t. all_below_lem w (rw t at e) i)

-- so both are accepted runs
pub run_a_lem : AcceptedRun run_a
unfolding fits_in any out_field is_level good_files rises
run_a_lem =
    record {
      lowered =
          done refl accepted_a refl (rw (read_a, counts.0, counts.1) refl) refl refl refl
          (rw (read_a, counts.0, counts.1, logs.0) (written_by_test files run_a.out run_a.bytes kept.0 tested.0));
      words32 = record { below = all_below_lem run_a.out refl };
      accepted = refl;
    }

pub run_b_lem : AcceptedRun run_b
unfolding fits_in any out_field is_level good_files rises
run_b_lem =
    record {
      lowered =
          done refl accepted_b refl (rw (read_b, counts.2, counts.3) refl) refl refl refl
          (rw (read_b, counts.2, counts.3, logs.1)
          (written_by_test files run_b.out run_b.bytes kept.1 tested.1));
      words32 = record { below = all_below_lem run_b.out refl };
      accepted = refl;
    }

-- run B's description is run A's with the two put in
pub put_in : Inserted unsigned_level new_path [] start (description run_a.words run_a.text) (description run_b.words run_b.text)
put_in = rw (read_a, read_b) root_inserted

-- and the theorem applies
pub runs_met : AlikeRuns new_path run_a run_b
unfolding WholeRuns
runs_met = whole_runs new_path run_a run_b run_a_lem run_b_lem refl refl put_in
