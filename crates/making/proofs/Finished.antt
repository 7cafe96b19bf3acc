-- A log in the making that is complete is what 01's rules for writing ask, once record 0 is written (`written_log`), and so it is after
-- `finish` (`finished_log`); what it says decides whether its spans and paths are right (`good_written`).
use Prim.Native.Nat.{ℕ, ◌+◌, ◌*◌, ◌-◌, ◌≤◌, ◌<◌}
use mathlib.Core.Path.{◌≡◌, refl, sym, ap, ◌∙◌}
use mathlib.Core.Bool.{true, false}
use mathlib.Core.List.{List, [], ◌∷◌, ◌++◌, append_assoc}
use native.Mathlib.Omega.{arith}
use borrow.Author.Tests.{eqb-true, leb-true, le-ltb}
use lib.Dec.{eqb}
use lib.ListN.{length, get_or, replicate, length-append, get_or-append}
use Rattle.paths_numbers.specs.meaning.Text.{written}
use Rattle.paths_numbers.proofs.Texts.{not_both, both}
use Rattle.paths_numbers.proofs.Written.{written_length}
use Rattle.making.specs.declared.ctx.LowerCtx.{LowerCtx}
use Rattle.definition_log.specs.meaning.Record.{record_words, head_words, out_field, records_used, bytes_used, log_count}
use Rattle.definition_log.specs.meaning.ReadBack.{Log, read_log}
use Rattle.definition_log.specs.meaning.Sound.{followed, times_reached}
use Rattle.definition_log.specs.meaning.Written.{Written}
use Rattle.definition_log.specs.machine.Good.{good_log}
use Rattle.making.specs.machine.Events.{Event, defs_of, exts_of, bindings, diagnostics, post_diagnostics, in_chain, first, words_from}
use Rattle.making.specs.machine.Events.{all_words, all_bytes, end_of, Ordered}
use Rattle.making.specs.machine.Buffers.{Layout}
use Rattle.making.specs.machine.Holding.{Hand, Holds, going, over}
use Rattle.making.specs.machine.Whole.{Making, main_log, Whole, log_in}
use Rattle.making.specs.machine.Finished.{head16, head_in, finished}
use Rattle.making.proofs.Make.{length_from}
use Rattle.making.proofs.Layouts.{count_words, same_count}
use Rattle.making.proofs.Unlinked.{written_front}
use Rattle.making.proofs.ReadEvents.{Splits}
use Rattle.making.proofs.ReadLog.{defs_read, exts_read, bindings_read, diags_read}
use Rattle.making.proofs.FirstOf.{splits_number}
use Rattle.making.proofs.LogLinks.{sixteen, head_def_lem, head_ext_lem, head_bind_lem, head_diag_lem, head_post_lem, reached_there}
use Rattle.making.proofs.Standing.{by_chain}
use Rattle.making.proofs.WholeRules.{rules_kept}
use Rattle.making.proofs.WholeKept.{record_kept}
use Rattle.making.proofs.WholeClear.{behind_zero, none_shared, bytes_clear, words_clear}
use Rattle.making.proofs.GoodLog.{good_whole}

module _ (es : List Event) (records used room more : ℕ) (fits : 1 + length es ≤ log_count (all_words (head_in records used es) es room))
    (ordered : Ordered 1 es) (whole : Whole es) where
  abbrev head : List ℕ
  head = head_in records used es

  abbrev words : List ℕ
  words = all_words head es room

  abbrev bytes : List ℕ
  bytes = all_bytes es more

  six : length head ≡ 16
  six = sixteen es records used room fits ordered whole

  -- an extension's M
  bodies : (r b : ℕ) (e : Event) (later : List Event) → Splits 1 0 es r b e later → in_chain (exts_of 0) e ≡ true
      → e.m ≡ first (defs_of e.log) 1 es
  bodies r b e later s t =
      let q = both e.alive (eqb e.chain (exts_of 0)) t in
      by_chain 0 (whole.making.stands r e (record { at = splits_number s; alive = q.0 })) (eqb-true e.chain (exts_of 0) q.1)

  -- what is read back
  reads_back : read_log words bytes ≡ log_in es
  unfolding read_log log_in
  reads_back =
      rw (
        head_def_lem es records used room fits ordered whole,
        head_ext_lem es records used room fits ordered whole,
        head_bind_lem es records used room
            fits ordered whole,
        head_diag_lem es records used room fits ordered whole,
        head_post_lem es records used room fits ordered whole,
        defs_read head six es room more fits ordered 0,
        exts_read head six es room more fits ordered (exts_of 0) bodies,
        bindings_read head
            six es room more fits ordered bindings,
        diags_read head six es room more fits ordered diagnostics,
        diags_read head six es room
            more fits ordered post_diagnostics,
      )
      refl

  -- record 0
  rest_zero : (i : ℕ) → head_words ≤ i → i < record_words → out_field words 0 i ≡ 0
  unfolding out_field all_words head16
  rest_zero i h l =
      let e : 0 * 16 + i ≡ i = omega arith in
      rw e
      (get_or-append head (words_from 1 0 es ++ replicate room 0) 0 i l
      ∙ behind_zero (records ∷ first (defs_of 0) 1 es ∷ first (exts_of 0) 1 es ∷ first bindings 1 es ∷ first diagnostics 1 es ∷ used
      ∷ first post_diagnostics 1 es ∷ []) 9 i h)

  records_there : records_used words ≡ records
  unfolding out_field all_words head16
  records_there = refl

  bytes_there : bytes_used words ≡ used
  unfolding out_field all_words head16
  bytes_there = refl

  all_written : Written (0 ∷ []) words bytes records used (log_in es)
  all_written =
      record {
        reads = reads_back;
        rules = rules_kept es records used room more fits ordered whole;
        counted = records_there;
        counted_bytes = bytes_there;
        rest_of_head = rest_zero;
        kept =
            λ r t.
            record_kept es records used room more fits ordered whole
            (reached_there es records used room fits ordered whole r (leb-true 1 (times_reached (followed words) r) t)).there;
        unshared = none_shared es records used room more fits ordered whole;
        clear_words = words_clear es records used room more fits ordered whole;
        clear_bytes = bytes_clear es records used room more fits ordered whole;
      }

-- record 0 written over zeros
module _ {words bytes : List ℕ} {records used : ℕ} {es : List Event} (l : Layout words bytes records used es) where
  abbrev head0 : List ℕ
  head0 = head_in records used es

  room0 : 16 ≤ length words
  room0 = omega (arith, count_words words (1 + length es) l.records_fit)

  head_put : written words 0 head0 ≡ all_words head0 es (length words - (1 + length es) * 16)
  unfolding all_words head16
  head_put =
      ap (λ (w : List ℕ). written w 0 head0) l.words_are
      ∙ sym (written_front (replicate 16 0) (words_from 1 0 es ++ replicate (length words - (1 + length es) * 16) 0) head0 refl)

  same_length_lem : length (written words 0 head0) ≡ length words
  unfolding head16
  same_length_lem = written_length words 0 head0 (omega (arith, room0))

  -- the records made have room in the words, and behind them are zeros
  pub words_within : records * record_words ≤ length words
  words_within = omega (arith, l.records_are, count_words words (1 + length es) l.records_fit)

  pub words_behind : (i : ℕ) → records * record_words ≤ i → get_or words i 0 ≡ 0
  unfolding all_words
  words_behind i h =
      let room = length words - (1 + length es) * 16 in
      let zeros : List ℕ = replicate 16 0 in
      let made = words_from 1 0 es in
      ap (λ (w : List ℕ). get_or w i 0) (l.words_are ∙ sym (append_assoc zeros made (replicate room 0)))
      ∙ behind_zero (zeros ++ made) room i (omega (arith, l.records_are, length-append zeros made, length_from 1 0 es))

  -- the theorem, of a complete log
  pub written_log : Whole es → Written (0 ∷ []) (written words 0 (head_in records used es)) bytes records used (log_in es)
  written_log whole =
      let fits : 1 + length es ≤ log_count (all_words head0 es (length words - (1 + length es) * 16)) =
      rw (← head_put, same_count words (written words 0 head0) same_length_lem) l.records_fit in
      rw head_put
      (ap_bytes (sym l.bytes_are)
      (all_written es records used (length words - (1 + length es) * 16) (length bytes - end_of 0 es) fits l.ordered whole))
    where
      ap_bytes : {w b b' : List ℕ} {n m : ℕ} {g : Log} → b ≡ b' → Written (0 ∷ []) w b n m g → Written (0 ∷ []) w b' n m g
      ap_bytes q x = rw q at x

  -- and of one whose spans and paths are right by what it says
  pub good_written : Making main_log es → good_log (log_in es) ≡ true
      → Written (0 ∷ []) (written words 0 (head_in records used es)) bytes records used (log_in es)
  good_written making good = written_log (good_whole es making good)

-- after `finish`
module _ (g : Hand) (c : LowerCtx) (words bytes : List ℕ) (es : List Event) (diags : ℕ) (main : g.log ≡ 0) (own : g.exts ≡ 0)
    (checks : g.post ≡ true) (room : c.short ≡ false) (lowering : diags ≡ first diagnostics 1 es) (whole : Whole es) where
  pub finished_log : Holds g c words bytes es → Written (0 ∷ []) (finished c diags words) bytes c.records c.bytes (log_in es)
  unfolding finished
  finished_log (going s l e) =
      let d : c.defs.first ≡ first (defs_of 0) 1 es = rw main at e.defs_run.first_is in
      let x : c.exts.first ≡ first (exts_of 0) 1 es = rw own at e.exts_run.first_is in
      let p : c.diags.first ≡ first post_diagnostics 1 es = rw checks at e.diags_run.first_is in
      rw (room, le-ltb (length words) record_words (room0 l), d, x, e.binds_run.first_is, lowering, p) (written_log l whole)
  finished_log (over s x) = absurd (not_both s room)
