-- The end of a log: with record 0 written, it is what 01's rules for writing ask, and says what the state says.
use Prim.Native.Nat.{ℕ, ◌+◌, ◌*◌, ◌-◌, ◌≤◌}
use mathlib.Core.Path.{◌≡◌, refl, sym, ap, subst, ◌∙◌}
use mathlib.Core.Bool.{true, false}
use mathlib.Core.List.{List, [], ◌∷◌, ◌++◌, map}
use native.Mathlib.Omega.{arith}
use borrow.Author.Tests.{ltb-false}
use lib.Dec.{ltb}
use lib.ListN.{length, get_or, drop}
use lib.Seq.{get_or-append-add, get_or-drop}
use Rattle.paths_numbers.specs.meaning.Text.{written}
use Rattle.paths_numbers.proofs.Texts.{by_test, not_both}
use Rattle.paths_numbers.proofs.Written.{written_length}
use Rattle.making.specs.declared.ctx.LowerCtx.{LowerCtx}
use Rattle.definition_log.specs.meaning.Record.{record_words}
use Rattle.making.specs.meaning.State.{State}
use Rattle.definition_log.specs.machine.Good.{good_log}
use Rattle.definition_log.specs.meaning.Written.{Written}
use Rattle.making.specs.machine.Events.{Event, post_diagnostics, members, diag_of, exts_of, ext_of}
use Rattle.making.specs.machine.Holding as H
use Rattle.making.specs.machine.Whole.{Making, main_log, log_in}
use Rattle.making.specs.machine.Finished.{head16, head_of, finished}
use Rattle.making.specs.machine.Represents.{Context, log_of, exts_log, before, hand_of, exts_in, InHand, main-log, Open, Common}
use Rattle.making.specs.machine.Represents.{Represents, going, over, log_said, Finishes}
use Rattle.making.proofs.Standing.{extends}
use Rattle.making.proofs.MakingMore.{making_hand}
use Rattle.making.proofs.GoodLog.{good_whole}
use Rattle.making.proofs.Finished.{finished_log, words_within, words_behind}
use Rattle.making.proofs.Represented.{ends}

-- no body is being lowered: the main log alone is in hand
main_alone : {es : List Event} → Making (InHand []) es → Making main_log es
main_alone {es} m = making_hand only m (λ r e h k z. (extends (m.stands r e h) k).own (main-log z))
  where
    only : (l : ℕ) → InHand [] l → l ≡ 0
    only l (main-log z) = z

-- what the records say is what the state says
log_said_lem : {k : Context} {c : LowerCtx} {es : List Event} {s : State} → k.post ≡ true → Open [] c es s → Common k c es s
    → log_in es ≡ log_said k s
unfolding log_in exts_in exts_log before
log_said_lem {es = es} {s} p o m =
    let exts : map (ext_of es) (members (exts_of 0) 1 es) ≡ s.exts = o.exts_say in
    let post : map diag_of (members post_diagnostics 1 es) ≡ s.diags = rw p at m.diags_say in
    rw (o.defs_say, exts, m.binds_say, m.reports_say p, post) refl

module _ (c : LowerCtx) (words w : List ℕ) (diags : ℕ) (is : w ≡ finished c diags words) where
  ended : (k : Context) (bytes : List ℕ) (s : State) → k.waiting ≡ [] → k.post ≡ true → diags ≡ k.first_report
      → Represents k c words bytes s → c.short ≡ false
      → good_log (log_said k s) ≡ true → Written (0 ∷ []) w bytes s.records s.bytes (log_said k s)
  unfolding exts_log
  ended k bytes s q p f (over h m) n good = absurd (not_both h n)
  ended k bytes s q p f (going es h l cr cb o m st ps ss mk) n good =
      let o' : Open [] c es s = subst (λ (ws : List _). Open ws c es s) q o in
      let main : Making main_log es = main_alone (subst (λ (ws : List _). Making (InHand ws) es) q mk) in
      let said : log_in es ≡ log_said k s = log_said_lem p o' m in
      let whole = good_whole es main (ap good_log said ∙ good) in
      rw (is, ← said, ← cr, ← cb)
      (finished_log (hand_of k) c words bytes es diags (ap log_of q) (ap exts_log q) p n (f ∙ sym (m.reports_first p)) whole
      (H.going h l (ends o m)))

  same_length_lem : length w ≡ length words
  unfolding finished head16
  same_length_lem =
      ap length is
      ∙ by_test c.short
      (λ t. rw t refl)
      (λ t.
      by_test (ltb (length words) record_words)
      (λ u. rw (t, u) refl)
      (λ u.
      let fits : record_words ≤ length words = ltb-false (length words) record_words u in
      rw (t, u) (written_length words 0 (head_of c diags) (omega arith))))

  -- record 0 changes nothing behind it
  behind_head : (i : ℕ) → record_words ≤ i → get_or w i 0 ≡ get_or words i 0
  unfolding finished head16 written
  behind_head i h =
      let e : i ≡ record_words + (i - record_words) = omega arith in
      ap (λ (v : List ℕ). get_or v i 0) is
      ∙ by_test c.short
      (λ t. rw t refl)
      (λ t.
      by_test (ltb (length words) record_words)
      (λ u. rw (t, u) refl)
      (λ u.
      rw (t, u)
      (ap (λ (k : ℕ). get_or (head_of c diags ++ drop record_words words) k 0) e
      ∙ get_or-append-add (head_of c diags) (drop record_words words) (i - record_words) 0
      ∙ get_or-drop record_words words (i - record_words) 0 ∙ ap (λ (k : ℕ). get_or words k 0) (sym e))))

  within_words : (k : Context) (bytes : List ℕ) (s : State) → Represents k c words bytes s → c.short ≡ false
      → c.records * record_words ≤ length w
  within_words k bytes s (over h m) n = absurd (not_both h n)
  within_words k bytes s (going es h l cr cb o m st ps ss mk) n = rw same_length_lem (words_within l)

  zeros_behind : (k : Context) (bytes : List ℕ) (s : State) → Represents k c words bytes s → c.short ≡ false → (i : ℕ)
      → c.records * record_words ≤ i → get_or w i 0 ≡ 0
  zeros_behind k bytes s (over h m) n i b = absurd (not_both h n)
  zeros_behind k bytes s (going es h l cr cb o m st ps ss mk) n i b =
      behind_head i (omega (arith, l.records_are)) ∙ words_behind l i b

  left : c.short ≡ true → w ≡ words
  unfolding finished
  left t = is ∙ rw t refl

  pub finishing : Finishes c words w diags
  finishing = record { finishes = ended; within = within_words; behind = zeros_behind; same_length = same_length_lem; stays = left }
