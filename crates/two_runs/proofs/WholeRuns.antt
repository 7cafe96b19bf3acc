-- Demand 3 from what lowering answers and leaves: an accepted run writes what its description lowers to, so the theorem over trees decides.
use Prim.Native.Nat.{ℕ}
use mathlib.Core.Path.{◌≡◌, refl, sym, ap, ◌∙◌}
use mathlib.Core.Bool.{Bool, true, false, cond}
use mathlib.Core.List.{List, [], ◌∷◌, ◌++◌, map}
use native.Mathlib.Omega.{arith}
use Rattle.paths_numbers.specs.meaning.Text.{same}
use Rattle.paths_numbers.specs.meaning.Path.{at_or_under}
use Rattle.definition_log.specs.meaning.Contents.{Def}
use Rattle.definition_log.specs.meaning.Record.{first_def, first_ext, first_bind, first_diag, first_post}
use Rattle.definition_log.specs.meaning.ReadBack.{Log, chain_of, def_at, ext_at, binding_at, diag_at, read_log, read_defs, read_exts}
use Rattle.definition_log.specs.meaning.ReadBack.{read_bindings, read_diags}
use Rattle.definition_log.specs.meaning.Sound.{Place, definitions}
use Rattle.definition_log.specs.meaning.Written.{Written}
use Rattle.definition_log.specs.meaning.Alike.{AlikeAll, AlikeDef}
use Rattle.definition_log.proofs.Reached.{defs, exts, binds, diags, post}
use Rattle.definition_log.proofs.Places.{head_stands}
use Rattle.definition_log.proofs.Chains.{head_starts, chain_list}
use Rattle.definition_log.proofs.Pinned.{AllStand, no_record, one_record, chain_stands, zip, def_alike, binding_alike, diag_alike}
use Rattle.definition_log.proofs.Pinned.{ext_alike}
use Rattle.definition_log.proofs.Pinned.{head_alike}
use Rattle.queries.specs.meaning.Live.{live, is_live, deletes}
use Rattle.queries.specs.meaning.History.{history_from, history, defined_by}
use Rattle.queries.specs.meaning.Query.{live_numbers, history_numbers, main_chain, live_answers, history_answers}
use Rattle.definition_log.specs.meaning.Answer.{Answered}
use Rattle.making.specs.meaning.State.{start}
use Rattle.items.specs.meaning.Lower.{lowered}
use Rattle.input.specs.meaning.Input.{description}
use Rattle.input.specs.meaning.Rows.{accepted, verdict}
use Rattle.lowering.specs.meaning.Lowered.{log_of, records_made, bytes_made, meaning, Lowered, no_level, turned_down, no_files, short, done}
use Rattle.two_runs.specs.meaning.TwoRuns.{Inserted, Alike, TwoRuns}
use Rattle.two_runs.specs.meaning.WholeRuns.{Run, AcceptedRun, AlikeRuns, WholeRuns}
use Rattle.input.proofs.Rows.{accepted_names}
use Rattle.input.proofs.Refusals.{refusal_number}
use Rattle.two_runs.proofs.TwoRuns.{two_runs}

-- an accepted run's input is accepted, and what its description lowers to is written
pub record Wrote (r : Run) : Type 0 where
  pub verdict_is : verdict r.words r.text ≡ accepted
  pub log : Written r.starts r.out r.bytes (records_made (meaning r.level r.words r.text))
      (bytes_made (meaning r.level r.words r.text))
      (log_of (meaning r.level r.words r.text))

pub wrote : (r : Run) → AcceptedRun r → Wrote r
wrote r a = go a.lowered
  where
    go : Lowered r.level r.starts r.words r.text r.out_before r.bytes_before r.answer r.out r.bytes → Wrote r
    go (no_level n e o b) = let q : ◌≡◌ {A = ℕ} 18 0 = sym (ap (λ (x : Answered). x.number) e) ∙ a.accepted in absurd (omega arith)
    go (turned_down n v e o b) = absurd (refusal_number r.words r.text v (sym (ap (λ (x : Answered). x.number) e) ∙ a.accepted))
    go (no_files n v g e o b) = let q : ◌≡◌ {A = ℕ} 14 0 = sym (ap (λ (x : Answered). x.number) e) ∙ a.accepted in absurd (omega arith)
    go (short n v g f e o b) = let q : ◌≡◌ {A = ℕ} 7 0 = sym (ap (λ (x : Answered). x.number) e) ∙ a.accepted in absurd (omega arith)
    go (done n v g f e o b w) = record { verdict_is = v; log = w }

-- the answers of the two queries stand in the main chain
all_both : {w : List ℕ} {p : Place} {x y : List ℕ} → AllStand w p x → AllStand w p y → AllStand w p (x ++ y)
all_both no_record k = k
all_both (one_record i h) k = one_record i (all_both h k)

all_cond : {w : List ℕ} {p : Place} (q : Bool) {x y : List ℕ} → AllStand w p x → AllStand w p y → AllStand w p (cond q x y)
all_cond true h k = h
all_cond false h k = k

live_stand : {w : List ℕ} {p : Place} (def : ℕ → Def) (base : List ℕ) {l : List ℕ} → AllStand w p l → AllStand w p (live_numbers def base l)
unfolding live_numbers
live_stand def base no_record = no_record
live_stand def base (one_record {r} {rs} i h) =
    all_both (live_stand def base h) (all_cond (is_live base (def r) (map def rs)) (one_record i no_record) no_record)

history_stand : {w : List ℕ} {p : Place} (def : ℕ → Def) (path : List ℕ) {l : List ℕ} → AllStand w p l → (defined : Bool)
    → AllStand w p (history_numbers def defined path l)
unfolding history_numbers
history_stand def path no_record defined = no_record
history_stand def path (one_record {r} i h) defined =
    all_cond (same (def r).path path) (one_record i (history_stand def path h (defined_by (def r) defined)))
    (all_cond (cond defined (deletes path (def r)) false) (one_record i (history_stand def path h false))
    (history_stand def path h defined))

-- and name the live definitions and the history
map_both : {A : Type 0} (f : ℕ → A) (x y : List ℕ) → map f (x ++ y) ≡ map f x ++ map f y
map_both f [] y = refl
map_both f (a ∷ x) y = ap (λ (l : List _). f a ∷ l) (map_both f x y)

map_cond : {A : Type 0} (f : ℕ → A) (q : Bool) (x y : List ℕ) → map f (cond q x y) ≡ cond q (map f x) (map f y)
map_cond f true x y = refl
map_cond f false x y = refl

live_named : (def : ℕ → Def) (base l : List ℕ) → map def (live_numbers def base l) ≡ live base (map def l)
unfolding live_numbers live
live_named def base [] = refl
live_named def base (r ∷ l) =
    map_both def (live_numbers def base l) _ ∙ rw (live_named def base l, map_cond def (is_live base (def r) (map def l)) (r ∷ []) []) refl

history_named : (def : ℕ → Def) (path l : List ℕ) (defined : Bool)
    → map def (history_numbers def defined path l) ≡ history_from defined path (map def l)
unfolding history_numbers history_from
history_named def path [] defined = refl
history_named def path (r ∷ l) defined =
    map_cond def (same (def r).path path) _ _
    ∙ rw (
      map_cond def (cond defined (deletes path (def r)) false) (r ∷ history_numbers def false path l)
          (history_numbers def defined path l),
      history_named def path l (defined_by (def r) defined),
      history_named def path l false,
      history_named def path l defined,
    ) refl

-- what both runs read back, for two runs of which the second has the two items more
module _ (new : List ℕ) (a b : Run) (ra : AcceptedRun a) (rb : AcceptedRun b) (l : a.level ≡ b.level)
    (s : a.starts ≡ b.starts)
    (i : Inserted b.level new [] start (description a.words a.text) (description b.words b.text)) where
  wa : Wrote a
  wa = wrote a ra

  wb : Wrote b
  wb = wrote b rb

  -- run A's log by the starts of run B
  log_a : Written b.starts a.out a.bytes (records_made (meaning a.level a.words a.text))
      (bytes_made (meaning a.level a.words a.text))
      (log_of (meaning a.level a.words a.text))
  log_a = rw s at wa.log

  same_states : Alike new (meaning a.level a.words a.text) (meaning b.level b.words b.text)
  unfolding TwoRuns
  same_states = rw l (two_runs b.level new (description a.words a.text) (description b.words b.text)
      (accepted_names b.words b.text wb.verdict_is) i)

  -- the definitions of the main chain
  reads_a : map (def_at a.out a.bytes) (chain_of a.out (first_def a.out)) ≡ (meaning a.level a.words a.text).defs
  unfolding read_log read_defs log_of
  reads_a = ap (λ (l : Log). l.defs) wa.log.reads

  reads_b : map (def_at b.out b.bytes) (chain_of b.out (first_def b.out)) ≡ (meaning b.level b.words b.text).defs
  unfolding read_log read_defs log_of
  reads_b = ap (λ (l : Log). l.defs) wb.log.reads

  main_a : AllStand a.out definitions (chain_of a.out (first_def a.out))
  main_a =
      let ok = wa.log.rules in
      chain_stands a.out a.bytes ok definitions (chain_list a.out a.bytes ok (first_def a.out)
      (head_starts a.out a.bytes ok defs)) (head_stands a.out a.bytes ok defs)

  main_b : AllStand b.out definitions (chain_of b.out (first_def b.out))
  main_b =
      let ok = wb.log.rules in
      chain_stands b.out b.bytes ok definitions (chain_list b.out b.bytes ok (first_def b.out)
      (head_starts b.out b.bytes ok defs)) (head_stands b.out b.bytes ok defs)

  alike_defs : (rs ss : List ℕ) → AllStand a.out definitions rs → AllStand b.out definitions ss
      → map (def_at a.out a.bytes) rs ≡ map (def_at b.out b.bytes) ss
      → AlikeAll (AlikeDef a.out a.bytes b.out b.bytes) rs ss
  alike_defs rs ss h k e =
      zip (def_at a.out a.bytes) (def_at b.out b.bytes) (AlikeDef a.out a.bytes b.out b.bytes) h k
      (def_alike log_a wb.log ra.words32 rb.words32) e

  lives_same : (base : List ℕ) → map (def_at a.out a.bytes) (live_answers a.out a.bytes base) ≡ map (def_at b.out b.bytes)
      (live_answers b.out b.bytes base)
  unfolding live_answers
  lives_same base =
      rw (
        live_named (def_at a.out a.bytes) base (main_chain a.out),
        live_named (def_at b.out b.bytes) base
            (main_chain b.out),
        reads_a,
        reads_b,
      )
      (same_states.lives base)

  histories_same : (path : List ℕ) → at_or_under path new ≡ false
      → map (def_at a.out a.bytes) (history_answers a.out a.bytes path) ≡ map (def_at b.out b.bytes)
      (history_answers b.out b.bytes path)
  unfolding history_answers history
  histories_same path out =
      rw (
        history_named (def_at a.out a.bytes) path (main_chain a.out) false,
        history_named (def_at b.out b.bytes) path
            (main_chain b.out) false,
        reads_a,
        reads_b,
      )
      (same_states.histories path out)

  -- the other chains
  binds_same : map (binding_at a.out a.bytes) (chain_of a.out (first_bind a.out)) ≡ map (binding_at b.out b.bytes)
      (chain_of b.out (first_bind b.out))
  unfolding read_log read_bindings log_of
  binds_same = ap (λ (l : Log). l.binds) wa.log.reads ∙ same_states.bindings ∙ sym (ap (λ (l : Log). l.binds) wb.log.reads)

  exts_same : map (ext_at a.out a.bytes) (chain_of a.out (first_ext a.out)) ≡ map (ext_at b.out b.bytes)
      (chain_of b.out (first_ext b.out))
  unfolding read_log read_exts log_of
  exts_same = ap (λ (l : Log). l.exts) wa.log.reads ∙ same_states.extensions ∙ sym (ap (λ (l : Log). l.exts) wb.log.reads)

  diags_same : map (diag_at a.out a.bytes) (chain_of a.out (first_diag a.out)) ≡ map (diag_at b.out b.bytes)
      (chain_of b.out (first_diag b.out))
  unfolding read_log read_diags log_of
  diags_same = ap (λ (l : Log). l.diags) wa.log.reads ∙ same_states.diagnostics ∙ sym (ap (λ (l : Log). l.diags) wb.log.reads)

  post_same : map (diag_at a.out a.bytes) (chain_of a.out (first_post a.out)) ≡ map (diag_at b.out b.bytes)
      (chain_of b.out (first_post b.out))
  unfolding read_log read_diags log_of
  post_same = ap (λ (l : Log). l.post) wa.log.reads ∙ same_states.checks ∙ sym (ap (λ (l : Log). l.post) wb.log.reads)

  alike_runs : AlikeRuns new a b
  unfolding live_answers history_answers
  alike_runs =
      let x = log_a in
      let y = wb.log in
      let u = ra.words32 in
      let v = rb.words32 in
      record {
        lives = λ base.
            alike_defs (live_answers a.out a.bytes base) (live_answers b.out b.bytes base)
            (live_stand (def_at a.out a.bytes) base main_a) (live_stand (def_at b.out b.bytes) base main_b) (lives_same base);
        bindings = head_alike x y u v _ _ _ binds binds (binding_alike x y u v) binds_same;
        extensions = head_alike x y u v _ _ _ exts exts (ext_alike x y u v) exts_same;
        diagnostics = head_alike x y u v _ _ _ diags diags (diag_alike x y u v) diags_same;
        checks = head_alike x y u v _ _ _ post post (diag_alike x y u v) post_same;
        histories = λ path out.
            alike_defs (history_answers a.out a.bytes path) (history_answers b.out b.bytes path)
            (history_stand (def_at a.out a.bytes) path main_a false) (history_stand (def_at b.out b.bytes) path main_b false)
            (histories_same path out);
      }

pub whole_runs : WholeRuns
unfolding WholeRuns
whole_runs new a b ra rb l s i = alike_runs new a b ra rb l s i
