-- The operations that add a record with no record above it: what the log says afterwards.
use Prim.Native.Nat.{ℕ, ◌+◌, ◌≤◌}
use mathlib.Core.Path.{◌≡◌, refl, sym, ap, ◌∙◌}
use mathlib.Core.Bool.{Bool, true, false}
use mathlib.Core.List.{List, [], ◌∷◌, ◌++◌, map-append}
use native.Mathlib.Omega.{arith}
use lib.ListN.{length, length-append}
use Rattle.paths_numbers.proofs.Texts.{by_test, not_both}
use Rattle.making.specs.declared.ctx.LowerCtx.{LowerCtx}
use Rattle.making.specs.declared.ctx.Rec.{Rec}
use Rattle.definition_log.specs.meaning.Contents.{Def, Diag, Binding}
use Rattle.making.specs.meaning.State.{State, define, part_records, part_bytes, bind, bindings_bytes, emit, diags_bytes}
use Rattle.definition_log.specs.meaning.Record.{one_of, def_kinds, binding_kind, diagnostic_kind}
use Rattle.making.specs.machine.Events.{Event, defs_of, exts_of, bindings, diagnostics, post_diagnostics, children_of, in_chain, first}
use Rattle.making.specs.machine.Events.{last, end_of, Ordered, below, def_of, defs_in}
use Rattle.making.specs.machine.Buffers.{event_of, Layout, Exceeds, records_exceed, bytes_exceed, most_exceed}
use Rattle.making.specs.machine.Made.{Told, counted, makes, one_more, ran_short, end_link, with_def, with_bind, with_diag}
use Rattle.making.specs.machine.Holding.{diags_of, Runs, Ends, Holds}
use Rattle.making.specs.machine.Holding as H
use Rattle.making.specs.machine.Represents.{Waiting, Context, log_of, exts_log, hand_of, Each, each_none, each_next, Sort, is_def}
use Rattle.making.specs.machine.Represents.{is_binding, is_diag, OtherBody, exts_in, Open, AllStand, Stack, Common, TooMuch}
use Rattle.making.specs.machine.Represents.{records_over, bytes_over, most_over, Represents, going, over, Steps, InHand, main-log}
use Rattle.making.specs.machine.Represents.{this_log, log_around, above}
use Rattle.making.specs.machine.Whole.{Plain, Making}
use Rattle.making.proofs.Append.{chain_other, new_in, last_new, last_other}
use Rattle.making.proofs.Layouts.{end_more}
use Rattle.making.proofs.Holding.{diags_other, told_over, added_def, added_bind, added_diag}
use Rattle.making.proofs.Members.{map_members, first_before, members_more, members_other, SameBelow, def_same, defs_same}
use Rattle.making.proofs.Growing.{each_at, each_more, childless, childless_last, exts_same, places_more, InsideTop, in_main, in-body}
use Rattle.making.proofs.Growing.{stack_more, sorts_more, log_low, no_child_lem}
use Rattle.making.proofs.MakingMore.{Stays, stays_binding, stays_diagnostic, stays_post, making_stays, making_define}

-- the ends of the four chains
pub ends : {k : Context} {c : LowerCtx} {es : List Event} {s : State} → Open k.waiting c es s → Common k c es s → Ends (hand_of k) c es
ends o m = record { defs_run = o.defs_run; exts_run = o.exts_run; binds_run = m.binds_run; diags_run = m.diags_run }

-- a record that is no record's child
abbrev pub Top : Event → Type 0
Top e = (r : ℕ) → e.chain ≡ children_of r → ⊥

pub below_top : (es : List Event) (e : Event) → Top e → SameBelow (λ (r : ℕ). ⊥) es (es ++ e ∷ [])
below_top es e n r z = members_other (children_of r) 1 es e (chain_other e.chain (children_of r) e refl (n r))

-- the definitions of a log that it is not in
pub defs_apart : (l : ℕ) (es : List Event) (e : Event) → Top e → (e.chain ≡ defs_of l → ⊥) → defs_in l (es ++ e ∷ []) ≡ defs_in l es
defs_apart l es e n d =
    defs_same (λ (r : ℕ). ⊥) es (es ++ e ∷ []) (below_top es e n) l
    (members_other (defs_of l) 1 es e (chain_other e.chain (defs_of l) e refl d))
    (λ r x a t c z. z) (λ r v x y a t c b u d z. z)

-- of one that it is in
pub defs_more : (l : ℕ) (es : List Event) (e : Event) → e.alive ≡ true → e.chain ≡ defs_of l
    → defs_in l (es ++ e ∷ []) ≡ defs_in l es ++ def_of (es ++ e ∷ []) (record { number = 1 + length es; event = e }) ∷ []
unfolding defs_in
defs_more l es e t c =
    let n : Top e = λ r q. omega arith in
    let old = map_members (def_of (es ++ e ∷ [])) (def_of es) (defs_of l) 1 es
    (λ r x a u q. def_same (λ (r : ℕ). ⊥) es (es ++ e ∷ []) (below_top es e n) r x (λ z. z) (λ v y b w d z. z)) in
    rw (members_more (defs_of l) 1 es e (new_in (defs_of l) e t c), map-append, old) refl

-- the extensions of a chain that it is not in, where their bodies do not get it
pub exts_apart : (x l : ℕ) (es : List Event) (e : Event) → Top e → (e.chain ≡ exts_of x → ⊥) → ((j : ℕ) → e.chain ≡ defs_of j → j ≡ l)
    → Each (OtherBody l) 1 es
    → exts_in x (es ++ e ∷ []) ≡ exts_in x es
exts_apart x l es e n d j o =
    exts_same (λ (r : ℕ). ⊥) es (es ++ e ∷ []) (below_top es e n) x
    (members_other (exts_of x) 1 es e (chain_other e.chain (exts_of x) e refl d))
    (λ r y a t c. (λ z. z, defs_apart y.log es e n (λ q. each_at o a x c t (j y.log q))))

-- a new record has no children
pub none_below : (es : List Event) (e : Event) → Ordered 1 es → Top e → below (es ++ e ∷ []) (1 + length es) ≡ []
none_below es e o n = below_top es e n (1 + length es) (λ z. z) ∙ childless 1 es (1 + length es) o (omega arith)

-- the need is more than there is where it was before
pub exceeding : {words bytes : List ℕ} {es : List Event} {s : State} → 1 + length es ≡ s.records → end_of 0 es ≡ s.bytes
    → Exceeds words bytes es → TooMuch words bytes s
exceeding r b (records_exceed h) = records_over (omega (arith, r))
exceeding r b (bytes_exceed h) = bytes_over (omega (arith, b))
exceeding r b (most_exceed h) = most_over (omega (arith, b))

-- one record more, from what becomes of each part
pub one_more_lem : {k : Context} (c : LowerCtx) {f : LowerCtx} {words bytes w b : List ℕ} (s : State) {t : State} {es : List Event} {e : Event}
    → Layout words bytes c.records c.bytes es
    → c.records ≡ s.records → c.bytes ≡ s.bytes → Stack k.waiting es → AllStand es k.places → Each (Sort es) 1 es
    → InsideTop k.waiting e → Sort (es ++ e ∷ []) (1 + length es) e
    → Holds (hand_of k) f w b (es ++ e ∷ []) → t.records ≡ s.records + 1 → t.bytes ≡ s.bytes + (length e.text + length e.second)
    → (Ends (hand_of k) f (es ++ e ∷ []) → Open k.waiting f (es ++ e ∷ []) t)
    → (Ends (hand_of k) f (es ++ e ∷ []) → Common k f (es ++ e ∷ []) t)
    → Making (InHand k.waiting) (es ++ e ∷ []) → Represents k f w b t
one_more_lem c s {t} {es} {e} l cr cb st ps ss i so (H.going h m en) mr mb o co mk =
    going (es ++ e ∷ []) h m (omega (arith, l.records_are, m.records_are, length-append es (e ∷ [])))
    (omega (arith, l.used_are, m.used_are, end_more 0 es e)) (o en) (co en)
    (stack_more e i st) (places_more (e ∷ []) ps) (sorts_more e ss so) mk
one_more_lem c s {t} {es} {e} l cr cb st ps ss i so (H.over h x) mr mb o co mk =
    over h (exceeding {s = t} (omega (arith, l.records_are, length-append es (e ∷ []))) (omega (arith, l.used_are, end_more 0 es e)) x)

-- the first of a chain that it is not in
first_other : (c : ℕ) (es : List Event) (e : Event) → in_chain c e ≡ false → first c 1 (es ++ e ∷ []) ≡ first c 1 es
first_other c es e t = first_before c 1 es (e ∷ []) (each_next t each_none)

-- bindings and diagnostics after a record of another sort
pub common_same : {k : Context} {c f : LowerCtx} {s t : State} {es : List Event} (e : Event) → Common k c es s
    → Ends (hand_of k) f (es ++ e ∷ [])
    → (e.chain ≡ 2 → ⊥) → (e.chain ≡ 3 → ⊥) → (e.chain ≡ 4 → ⊥) → t.binds ≡ s.binds → t.diags ≡ s.diags → Common k f (es ++ e ∷ []) t
common_same {k} {es = es} e m en nb nd np tb td =
    record {
      binds_run = en.binds_run;
      diags_run = en.diags_run;
      binds_say = rw (members_other bindings 1 es e (chain_other e.chain bindings e refl nb)) (m.binds_say ∙ sym tb);
      diags_say = rw (members_other (diags_of k.post) 1 es e (chain_other e.chain (diags_of k.post) e refl
          (λ q. diags_other k.post e.chain (λ z. nd (sym z)) (λ z. np (sym z)) (sym q)))) (m.diags_say ∙ sym td);
      reports_say = λ p. rw (members_other diagnostics 1 es e (chain_other e.chain diagnostics e refl nd)) (m.reports_say p);
      reports_first = λ p. first_other diagnostics es e (chain_other e.chain diagnostics e refl nd) ∙ m.reports_first p;
      no_post = λ p. each_more es (m.no_post p) (chain_other e.chain post_diagnostics e refl np);
    }

-- the same in another context that reports the same
pub common_as : {k j : Context} {c d : LowerCtx} {es : List Event} {s t : State} → j.post ≡ k.post → j.reported ≡ k.reported
    → j.first_report ≡ k.first_report → d.binds ≡ c.binds
    → d.diags ≡ c.diags → t.binds ≡ s.binds → t.diags ≡ s.diags → Common k c es s → Common j d es t
common_as {k} {j} {c} {d} {es} {s} {t} po re fi db dd tb td m =
    record {
      binds_run = rw db m.binds_run;
      diags_run = rw (po, dd) m.diags_run;
      binds_say = m.binds_say ∙ sym tb;
      diags_say = rw po (m.diags_say ∙ sym td);
      reports_say = λ p. m.reports_say (sym po ∙ p) ∙ sym re;
      reports_first = λ p. m.reports_first (sym po ∙ p) ∙ sym fi;
      no_post = λ p. m.no_post (sym po ∙ p);
    }

-- the log in hand after a record that is none of its own
pub open_same : {ws : List Waiting} {c f : LowerCtx} {s t : State} {es : List Event} (e : Event) → Open ws c es s → Top e
    → ((j : ℕ) → e.chain ≡ defs_of j → ⊥)
    → ((j : ℕ) → e.chain ≡ exts_of j → ⊥) → f.defs ≡ c.defs → f.exts ≡ c.exts → f.part ≡ c.part → f.cell ≡ c.cell
    → t.defs ≡ s.defs → t.exts ≡ s.exts
    → Runs (defs_of (log_of ws)) f.defs (es ++ e ∷ []) → Runs (exts_of (exts_log ws)) f.exts (es ++ e ∷ []) → Open ws f (es ++ e ∷ []) t
open_same {ws} {c} {f} {es = es} e o n nd nx fd fx fp fc td tx rd rx =
    let lst : (r : ℕ) → last (children_of r) 1 (es ++ e ∷ []) ≡ last (children_of r) 1 es = λ r. last_other (children_of r) 1 es e
    (chain_other e.chain (children_of r) e refl (n r)) in
    record {
      defs_run = rd;
      exts_run = rx;
      part_is = rw (lst f.defs.last, fp, fd) o.part_is;
      cell_is = rw (lst f.part, fp, fc) o.cell_is;
      defs_say = defs_apart (log_of ws) es e n (nd (log_of ws)) ∙ o.defs_say ∙ sym td;
      exts_say = exts_apart (exts_log ws) (log_of ws) es e n (nx (exts_log ws)) (λ j q. absurd (nd j q)) o.others ∙ o.exts_say ∙ rw tx refl;
      others = each_more es o.others (λ x q t z. nx x q);
      passed = λ p. each_more es (o.passed p) (chain_other e.chain (exts_of (log_of ws)) e refl (nx (log_of ws)));
    }

-- a definition is inside the body in hand, and so is what is in a chain of no log
inside_def : (ws : List Waiting) (r : Rec) (x y : List ℕ) → InsideTop ws (event_of (defs_of (log_of ws)) 0 r x y)
inside_def [] r x y = in_main
inside_def (w ∷ ws) r x y = in-body {w = w} {ws = ws} {e = event_of (defs_of w.mark) 0 r x y}
    (record { of_defs = λ l q. omega arith; of_exts = λ l q. absurd (omega arith); of_parts = λ l q. absurd (omega arith) })

inside_shared : (ws : List Waiting) (e : Event) → ((j : ℕ) → e.chain ≡ defs_of j → ⊥) → ((j : ℕ) → e.chain ≡ exts_of j → ⊥) → Top e
    → InsideTop ws e
inside_shared [] e d x n = in_main
inside_shared (w ∷ ws) e d x n = in-body {w = w} {ws = ws} {e = e}
    (record { of_defs = λ l q. absurd (d l q); of_exts = λ l q. absurd (x l q); of_parts = λ l q. absurd (n l q) })

-- a diagnostic stays where a body is dropped
stays_diags : (post : Bool) (e : Event) → e.chain ≡ diags_of post → e.kind ≡ diagnostic_kind → Stays e
stays_diags true e q k = stays_post q k
stays_diags false e q k = stays_diagnostic q k

-- the log in hand, and the log whose chain has its extensions
pub in_hand : (ws : List Waiting) → InHand ws (log_of ws)
in_hand [] = main-log refl
in_hand (w ∷ ws) = this_log refl

pub exts_hand : (ws : List Waiting) → InHand ws (exts_log ws)
unfolding exts_log
exts_hand [] = main-log refl
exts_hand (w ∷ ws) = by_test w.keeps (λ t. rw t (log_around (exts_hand ws))) (λ t. rw t (this_log refl))

-- none has a higher number than the innermost
pub hand_low : {ws : List Waiting} {es : List Event} {l : ℕ} → Stack ws es → InHand ws l → l ≤ log_of ws
hand_low st (main-log z) = omega arith
hand_low st (this_log z) = omega arith
hand_low (above xs ys q m kp o a h st mk) (log_around i) = omega (arith, hand_low st i, log_low st, m)

-- a definition whose record says this, before it has parts
pub record Bare (r : Rec) (x : List ℕ) (d : Def) : Type 0 where
  pub says : (n l : ℕ) (es : List Event) → below es n ≡ [] → def_of es (record { number = n; event = event_of (defs_of l) 0 r x [] }) ≡ d
  pub path : d.path ≡ x
  pub records : part_records d.value ≡ 0
  pub bytes : part_bytes d.value ≡ 0
  pub kind : one_of r.kind def_kinds ≡ true
  pub plain : (l : ℕ) → Plain (event_of (defs_of l) 0 r x [])

module _ {c d : LowerCtx} {words bytes w b : List ℕ} {r : Rec} {x y : List ℕ} {link : ℕ} (told : Told c d words bytes w b r x y link) where
  -- a state that ran short stays so
  pub stays_short : (f : LowerCtx) → f.short ≡ d.short → c.short ≡ true → (f.short ≡ true) × (w ≡ words) × (b ≡ bytes)
  stays_short f q s = let o = told_over told s in (q ∙ o.0, o.1, o.2)

  -- making a record leaves the chains to the caller
  pub keeps : {A : Type 0} (field : LowerCtx → A) → field (one_more c (length x + length y)) ≡ field c → field (ran_short c) ≡ field c
      → field d ≡ field c
  unfolding counted
  keeps field p q =
      ap field told.state
      ∙ by_test (makes c words bytes (length x + length y) link) (λ t. rw t p) (λ t. rw t q)

  pub keeps_log : (d.defs ≡ c.defs) × (d.exts ≡ c.exts) × (d.part ≡ c.part) × (d.cell ≡ c.cell)
  unfolding one_more ran_short
  keeps_log = (
    keeps (λ (a : LowerCtx). a.defs) refl refl,
    keeps (λ (a : LowerCtx). a.exts) refl refl,
    keeps (λ (a : LowerCtx). a.part) refl
        refl,
    keeps (λ (a : LowerCtx). a.cell) refl refl,
  )

-- a definition made
module _ {c d f : LowerCtx} {words bytes w b : List ℕ} {r : Rec} {x : List ℕ} {link : ℕ} (told : Told c d words bytes w b r x [] link)
    (at : link ≡ end_link c.defs)
    (with-def : f ≡ with_def d c.records) (def : Def) (bare : Bare r x def) where
  defined : (k : Context) (s : State) → Represents k c words bytes s → c.short ≡ false → Represents k f w b (define def s)
  unfolding define with_def
  defined k s (over h m) n = absurd (not_both h n)
  defined k s (going es h l cr cb o m st ps ss mk) n =
      let ws = k.waiting in
      let e = event_of (defs_of (log_of ws)) 0 r x [] in
      let top : Top e = λ i q. omega arith in
      let made = added_def (rw at at told) with-def (hand_of k) es (H.going h l (ends o m)) in
      let newest : last (defs_of (log_of ws)) 1 (es ++ e ∷ []) ≡ 1 + length es = last_new (defs_of (log_of ws)) 1 es e (omega arith)
      (new_in (defs_of (log_of ws)) e refl refl) in
      let part : f.part ≡ 0 = ap (λ (a : LowerCtx). a.part) with-def in
      one_more_lem c s l cr cb st ps ss (inside_def ws r x []) (is_def (log_of ws) refl (log_low st) bare.kind) made
      (ap (λ (i : ℕ). s.records + (1 + i)) bare.records)
      (rw (bare.path, bare.bytes) refl)
      (λ en.
      record {
        defs_run = en.defs_run;
        exts_run = en.exts_run;
        part_is =
            part
            ∙ sym (ap (λ (i : ℕ). last (children_of i) 1 (es ++ e ∷ [])) (en.defs_run.last_is ∙ newest)
            ∙ last_other (children_of (1 + length es)) 1 es e (chain_other e.chain (children_of (1 + length es)) e refl
            (top (1 + length es)))
            ∙ childless_last 1 es (1 + length es) l.ordered (omega arith));
        cell_is =
            ap (λ (a : LowerCtx). a.cell) with-def
            ∙ sym (ap (λ (i : ℕ). last (children_of i) 1 (es ++ e ∷ [])) part
            ∙ last_other (children_of 0) 1 es e (chain_other e.chain (children_of 0) e refl (top 0)) ∙ no_child_lem ss);
        defs_say = defs_more (log_of ws) es e refl refl ∙ rw (
          o.defs_say,
          bare.says (1 + length es) (log_of ws) (es ++ e ∷ [])
              (none_below es e l.ordered top),
        ) refl;
        exts_say = exts_apart (exts_log ws) (log_of ws) es e top (λ q. omega arith) (λ j q. omega arith) o.others ∙ o.exts_say;
        others = each_more es o.others (λ i q t z. omega arith);
        passed = λ p. each_more es (o.passed p) (chain_other e.chain (exts_of (log_of ws)) e refl (λ q. omega arith));
      })
      (λ en. common_same e m en (λ q. omega arith) (λ q. omega arith) (λ q. omega arith) refl refl)
      (making_define e (log_of ws) (in_hand ws) refl bare.kind (bare.plain (log_of ws)) mk)

  pub steps_def : Steps c f words bytes w b (define def)
  unfolding with_def
  steps_def = record { steps = defined; stays = stays_short told f (ap (λ (a : LowerCtx). a.short) with-def) }

-- a binding made
module _ {c d f : LowerCtx} {words bytes w b : List ℕ} {r : Rec} {x y : List ℕ} {link : ℕ} (told : Told c d words bytes w b r x y link)
    (at : link ≡ end_link c.binds)
    (with-bind : f ≡ with_bind d c.records) (kind : r.kind ≡ binding_kind) (plain : Plain (event_of bindings 0 r x y)) where
  abbrev made_binding : Binding
  made_binding = record { label = x; path = y; span = record { from = r.span.from; to = r.span.to } }

  bound : (k : Context) (s : State) → Represents k c words bytes s → c.short ≡ false → Represents k f w b (bind (made_binding ∷ []) s)
  unfolding bind bindings_bytes with_bind
  bound k s (over h m) n = absurd (not_both h n)
  bound k s (going es h l cr cb o m st ps ss mk) n =
      let e = event_of bindings 0 r x y in
      let top : Top e = λ i q. omega arith in
      let made = added_bind (rw at at told) with-bind (hand_of k) es (H.going h l (ends o m)) in
      one_more_lem c s l cr cb st ps ss (inside_shared k.waiting e (λ j q. omega arith) (λ j q. omega arith) top) (is_binding refl kind) made
      refl (omega arith)
      (λ en. open_same e o top (λ j q. omega arith) (λ j q. omega arith) (ap (λ (a : LowerCtx). a.defs) with-bind ∙ (keeps_log told).0)
      (ap (λ (a : LowerCtx). a.exts) with-bind ∙ (keeps_log told).1) (ap (λ (a : LowerCtx). a.part) with-bind ∙ (keeps_log told).2)
      (ap (λ (a : LowerCtx). a.cell) with-bind ∙ (keeps_log told).3) refl refl en.defs_run en.exts_run)
      (λ en.
      record {
        binds_run = en.binds_run;
        diags_run = en.diags_run;
        binds_say = rw (members_more bindings 1 es e (new_in bindings e refl refl), map-append, m.binds_say) refl;
        diags_say = rw (members_other (diags_of k.post) 1 es e
            (chain_other bindings (diags_of k.post) e refl (λ q. diags_other k.post bindings (λ z. omega arith) (λ z. omega arith)
            (sym q)))) m.diags_say;
        reports_say = λ p. rw (members_other diagnostics 1 es e (chain_other bindings diagnostics e refl (λ q. omega arith)))
            (m.reports_say p);
        reports_first = λ p. first_other diagnostics es e (chain_other bindings diagnostics e refl (λ q. omega arith)) ∙ m.reports_first p;
        no_post = λ p. each_more es (m.no_post p) (chain_other bindings post_diagnostics e refl (λ q. omega arith));
      })
      (making_stays e (λ t. (stays_binding refl kind, plain)) mk)

  pub steps_bind : Steps c f words bytes w b (bind (made_binding ∷ []))
  unfolding with_bind
  steps_bind = record { steps = bound; stays = stays_short told f (ap (λ (a : LowerCtx). a.short) with-bind) }

-- a diagnostic made
module _ {c d f : LowerCtx} {words bytes w b : List ℕ} {r : Rec} {x : List ℕ} {link : ℕ} (told : Told c d words bytes w b r x [] link)
    (at : link ≡ end_link c.diags)
    (with-diag : f ≡ with_diag d c.records) (kind : r.kind ≡ diagnostic_kind)
    (plain : (post : Bool) → Plain (event_of (diags_of post) 0 r x [])) where
  abbrev made_diag : Diag
  made_diag = record {
    code = r.n;
    text = x;
    span = record { from = r.span.from; to = r.span.to };
    name_span = record
        { from = r.name_span.from; to = r.name_span.to };
  }

  emitted : (k : Context) (s : State) → Represents k c words bytes s → c.short ≡ false → Represents k f w b (emit (made_diag ∷ []) s)
  unfolding emit diags_bytes with_diag
  emitted k s (over h m) n = absurd (not_both h n)
  emitted k s (going es h l cr cb o m st ps ss mk) n =
      let c₀ = diags_of k.post in
      let e = event_of c₀ 0 r x [] in
      let top : Top e = λ i. diags_other k.post (children_of i) (λ z. omega arith) (λ z. omega arith) in
      let nd : (j : ℕ) → c₀ ≡ defs_of j → ⊥ = λ j. diags_other k.post (defs_of j) (λ z. omega arith) (λ z. omega arith) in
      let nx : (j : ℕ) → c₀ ≡ exts_of j → ⊥ = λ j. diags_other k.post (exts_of j) (λ z. omega arith) (λ z. omega arith) in
      let made = added_diag (rw at at told) with-diag (hand_of k) es (H.going h l (ends o m)) in
      one_more_lem c s l cr cb st ps ss (inside_shared k.waiting e nd nx top) (is_diag k.post refl kind) made refl (omega arith)
      (λ en. open_same e o top nd nx (ap (λ (a : LowerCtx). a.defs) with-diag ∙ (keeps_log told).0)
      (ap (λ (a : LowerCtx). a.exts) with-diag ∙ (keeps_log told).1) (ap (λ (a : LowerCtx). a.part) with-diag ∙ (keeps_log told).2)
      (ap (λ (a : LowerCtx). a.cell) with-diag ∙ (keeps_log told).3) refl refl en.defs_run en.exts_run)
      (λ en.
      record {
        binds_run = en.binds_run;
        diags_run = en.diags_run;
        binds_say = rw (members_other bindings 1 es e (chain_other c₀ bindings e refl
            (diags_other k.post bindings (λ z. omega arith) (λ z. omega arith)))) m.binds_say;
        diags_say = rw (members_more c₀ 1 es e (new_in c₀ e refl refl), map-append, m.diags_say) refl;
        reports_say = λ p. rw (members_other diagnostics 1 es e (chain_other c₀ diagnostics e refl (rw p (λ q. omega arith))))
            (m.reports_say p);
        reports_first = λ p. first_other diagnostics es e (chain_other c₀ diagnostics e refl (rw p (λ q. omega arith))) ∙ m.reports_first p;
        no_post = λ p. each_more es (m.no_post p) (chain_other c₀ post_diagnostics e refl (rw p (λ q. omega arith)));
      })
      (making_stays e (λ t. (stays_diags k.post e refl kind, plain k.post)) mk)

  pub steps_emit : Steps c f words bytes w b (emit (made_diag ∷ []))
  unfolding with_diag
  steps_emit = record { steps = emitted; stays = stays_short told f (ap (λ (a : LowerCtx). a.short) with-diag) }
