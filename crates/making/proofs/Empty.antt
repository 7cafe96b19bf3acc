-- Where a log starts: cleared buffers hold an empty one, where record 0 has room; and where the post checks start.
use Prim.Native.Nat.{ℕ, ◌+◌, ◌-◌, ◌≤◌}
use mathlib.Core.Path.{◌≡◌, refl, sym, ap, ◌∙◌}
use mathlib.Core.Bool.{Bool}
use mathlib.Core.List.{List, [], map}
use native.Mathlib.Omega.{arith}
use borrow.Author.Tests.{eqb-true, eqb-false}
use lib.Dec.{eqb}
use lib.ListN.{length, replicate, length-replicate, replicate-append-replicate}
use Rattle.paths_numbers.proofs.Texts.{by_test, not_both}
use Rattle.making.specs.declared.ctx.Chain.{Chain}
use Rattle.making.specs.declared.ctx.LowerCtx.{LowerCtx}
use Rattle.definition_log.specs.meaning.Record.{log_count}
use Rattle.making.specs.machine.Events.{post_diagnostics, first, last, words_from, texts, end_of, members, all_words, all_bytes}
use Rattle.making.specs.machine.Events.{ordered_none, defs_in, diag_of}
use Rattle.making.specs.machine.Buffers.{Layout}
use Rattle.making.specs.meaning.State.{State, start}
use Rattle.making.specs.machine.Holding.{Runs}
use Rattle.making.specs.machine.Made.{checked}
use Rattle.making.specs.machine.Represents.{before, exts_log, exts_in, each_none, no_places, bottom, records_over, Represents, going}
use Rattle.making.specs.machine.Represents.{over, at_start, in_checks, checking, StartsChecks}
use Rattle.making.proofs.Layouts.{count_words}
use Rattle.making.proofs.Entered.{no_runs, no_members, same_need}
use Rattle.making.proofs.MakingMore.{making_none}

-- the state at the start
abbrev none : Chain
none = record { first = 0; last = 0 }

abbrev pub started : Bool → LowerCtx
started short = record { records = 1; bytes = 0; defs = none; exts = none; binds = none; diags = none; part = 0; cell = 0; short = short }

module _ (w b : List ℕ) (n m k : ℕ) (we : w ≡ replicate n 0) (be : b ≡ replicate m 0) (ke : k ≡ log_count w) where
  nothing : (c : ℕ) → Runs c none []
  unfolding first last
  nothing c = record { first_is = refl; last_is = refl }

  empty : 1 ≤ log_count w → Layout w b 1 0 []
  unfolding all_words all_bytes words_from texts end_of
  empty h =
      let lw : length w ≡ n = ap length we ∙ length-replicate {A = ℕ} n 0 in
      let lb : length b ≡ m = ap length be ∙ length-replicate {A = ℕ} m 0 in
      let z : n ≡ 16 + (length w - 16) = omega (arith, count_words w 1 h) in
      let y : m ≡ length b - 0 = omega arith in
      record {
        words_are = we ∙ ap (λ (i : ℕ). replicate i 0) z ∙ sym (replicate-append-replicate {A = ℕ} 16 (length w - 16) 0);
        bytes_are = be ∙ ap (λ (i : ℕ). replicate i 0) y;
        records_are = refl;
        used_are = refl;
        records_fit = h;
        bytes_fit = omega arith;
        bytes_most = omega arith;
        ordered = ordered_none;
      }

  pub starts : Represents at_start (started (eqb k 0)) w b start
  unfolding last members defs_in exts_in exts_log before
  starts =
      by_test (eqb k 0)
      (λ t. over t (records_over (let z = eqb-true k 0 t in omega arith)))
      (λ t.
      let ne : k ≡ 0 → ⊥ = eqb-false k 0 t in
      going [] t (empty (omega arith)) refl refl
      (record {
        defs_run = nothing _;
        exts_run = nothing _;
        part_is = refl;
        cell_is = refl;
        defs_say = refl;
        exts_say = refl;
        others = each_none;
        passed = λ p. each_none;
      })
      (record {
        binds_run = nothing _;
        diags_run = nothing _;
        binds_say = refl;
        diags_say = refl;
        reports_say = λ p. absurd (not_both p refl);
        reports_first = λ p. absurd (not_both p refl);
        no_post = λ p. each_none;
      })
      bottom no_places each_none making_none)

-- the post checks start: no diagnostic of theirs is there
pub starts_checks : {c d : LowerCtx} → d ≡ checked c → StartsChecks c d
unfolding checked
starts_checks {c} {d} q = record { checks = go; short = ap (λ (a : LowerCtx). a.short) q }
  where
    go : (words bytes : List ℕ) (s : State) → Represents at_start c words bytes s → Represents (in_checks c s) d words bytes (checking s)
    go words bytes s (over h m) = over (ap (λ (a : LowerCtx). a.short) q ∙ h) (same_need refl refl m)
    go words bytes s (going es h l cr cb o m st ps ss mk) =
        let none = m.no_post refl in
        rw q
        (going es h l cr cb (record {
          defs_run = o.defs_run;
          exts_run = o.exts_run;
          part_is = o.part_is;
          cell_is = o.cell_is;
          defs_say = o.defs_say;
          exts_say = o.exts_say;
          others = o.others;
          passed = o.passed;
        })
        (record {
          binds_run = m.binds_run;
          diags_run = no_runs post_diagnostics es none;
          binds_say = m.binds_say;
          diags_say = ap (map diag_of) (no_members post_diagnostics es none);
          reports_say = λ p. m.diags_say;
          reports_first = λ p. sym m.diags_run.first_is;
          no_post = λ p. absurd (not_both refl p);
        })
        bottom no_places ss mk)
