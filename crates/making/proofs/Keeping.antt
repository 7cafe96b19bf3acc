-- A diagnostic made keeps the other records (Kept): what its words and bytes leave, and which records the chains of a log in the making
-- have.
use Prim.Native.Nat.{ℕ, ◌+◌, ◌*◌, ◌-◌, ◌≤◌, ◌<◌}
use mathlib.Core.Path.{◌≡◌, refl, sym, ap, subst, ◌∙◌}
use mathlib.Core.Bool.{Bool, true, false}
use mathlib.Core.List.{List, [], ◌∷◌, ◌++◌}
use native.Mathlib.Omega.{arith}
use borrow.Author.Tests.{eqb-true, eqb-false}
use lib.Dec.{eqb}
use lib.ListN.{length, get_or, replicate, length-append}
use lib.Seq.{get_or-set_other}
use Rattle.paths_numbers.specs.meaning.Text.{written}
use Rattle.paths_numbers.proofs.Texts.{by_test, not_both, both}
use Rattle.paths_numbers.proofs.Written.{written_length}
use Rattle.making.specs.declared.ctx.LowerCtx.{LowerCtx}
use Rattle.making.specs.declared.ctx.Chain.{Chain}
use Rattle.making.specs.declared.ctx.Rec.{Rec}
use Rattle.making.specs.meaning.State.{State}
use Rattle.definition_log.specs.meaning.Record.{out_field, kind_of, child_of, text_start, text_length, second_start, second_length, text_in}
use Rattle.definition_log.specs.meaning.Record.{first_text}
use Rattle.definition_log.specs.meaning.Record.{second_text, log_count, diagnostic_kind}
use Rattle.definition_log.specs.meaning.ReadBack.{chain_of}
use Rattle.making.specs.machine.Events.{Event, defs_of, bindings, diagnostics, post_diagnostics, children_of, in_chain, first}
use Rattle.making.specs.machine.Events.{last, start_of, words16, bytes_in, members}
use Rattle.making.specs.machine.Buffers.{Layout}
use Rattle.making.specs.machine.PathPlaces.{path_in}
use Rattle.making.specs.machine.Made.{sixteen, set_link, end_link, with_diag, ran_short, one_more, makes, counted, made_words}
use Rattle.making.specs.machine.Made.{made_bytes, Told}
use Rattle.making.specs.machine.Holding.{diags_of, Runs}
use Rattle.making.specs.machine.Represents.{Context, log_of, Each, Sort, is_def, is_ext, is_binding, is_diag, is_part, Represents}
use Rattle.making.specs.machine.Represents.{going, over}
use Rattle.making.specs.machine.Kept.{Still, All, all_none, all_more, Kept, Keeps}
use Rattle.making.proofs.PathPlaces.{written_below, part_written}
use Rattle.making.proofs.ReadEvents.{Splits, splits_here, splits_later, splits_from, field_at, numbers_of, chain_end}
use Rattle.making.proofs.ReadLog.{first_behind}
use Rattle.making.proofs.Layouts.{length_link, count_words, same_count}
use Rattle.making.proofs.Told.{cond_true, cond_false, makes_is, makes_short}
use Rattle.making.proofs.FirstOf.{found, split, splits_number, at_to}
use Rattle.making.proofs.Standing.{def_range, child_range}
use Rattle.making.proofs.WholeRules.{splits_end, start_most}
use Rattle.making.proofs.Growing.{each_at}
use Rattle.making.proofs.Paths.{place_of, path_read}
use Rattle.making.proofs.InHand.{chain_reads}

-- nothing done keeps all, and so do two steps
pub kept_none : (c : LowerCtx) (words bytes : List ℕ) → Kept c c words bytes words bytes
kept_none c words bytes =
    record {
      records = omega arith;
      count = refl;
      defs = refl;
      binds = refl;
      field = λ r i h l. refl;
      first = λ r h. refl;
      second = λ r h.
          refl;
    }

module _ {c d : LowerCtx} {words bytes w b : List ℕ} (h : Kept c d words bytes w b) where
  pub still_kept : {r : ℕ} → Still words c.records r → Still w d.records r
  still_kept {r} s =
      record {
        number = s.number;
        made = omega (arith, s.made, h.records);
        other = λ e. s.other
            (sym (h.field r 0 s (omega arith)) ∙ e);
      }

  pub kept_then : {e : LowerCtx} {v u : List ℕ} → Kept d e w b v u → Kept c e words bytes v u
  kept_then k =
      record {
        records = omega (arith, h.records, k.records);
        count = k.count ∙ h.count;
        defs = k.defs ∙ h.defs;
        binds = k.binds ∙ h.binds;
        field = λ r i s l. k.field r i (still_kept s) l ∙ h.field r i s l;
        first = λ r s. k.first r (still_kept s) ∙ h.first r s;
        second = λ r s. k.second r (still_kept s) ∙ h.second r s;
      }

-- the last record of a chain
pub record LastOf (c k at : ℕ) (es : List Event) : Type 0 where
  pub event : Event
  pub start : ℕ
  pub later : List Event
  pub splits : Splits k at es (last c k es) start event later
  pub member : in_chain c event ≡ true

last_of : (c k at : ℕ) (es : List Event) → 0 < k → (last c k es ≡ 0 → ⊥) → LastOf c k at es
unfolding last
last_of c k at [] p n = absurd (n refl)
last_of c k at (x ∷ es) p n =
    by_test (eqb (last c (k + 1) es) 0)
    (λ t.
    by_test (in_chain c x)
    (λ u.
    let e : last c k (x ∷ es) ≡ k = rw (t, u) refl in
    record { event = x; start = at; later = es; splits = rw e splits_here; member = u })
    (λ u. let e : last c k (x ∷ es) ≡ 0 = rw (t, u) refl in absurd (n e)))
    (λ t.
    let e : last c k (x ∷ es) ≡ last c (k + 1) es = rw t refl in
    let i = last_of c (k + 1) (at + bytes_in x) es (omega arith) (eqb-false _ _ t) in
    record { event = i.event; start = i.start; later = i.later; splits = rw e (splits_later i.splits); member = i.member })

-- by its chain a record is a diagnostic or not
diag_kind : (post : Bool) {es : List Event} {k : ℕ} {e : Event} → Sort es k e → e.chain ≡ diags_of post → e.kind ≡ diagnostic_kind
diag_kind true (is_def l c h o) q = absurd (omega (arith, sym c ∙ q))
diag_kind false (is_def l c h o) q = absurd (omega (arith, sym c ∙ q))
diag_kind true (is_ext x c h k m) q = absurd (omega (arith, sym c ∙ q))
diag_kind false (is_ext x c h k m) q = absurd (omega (arith, sym c ∙ q))
diag_kind true (is_binding c k) q = absurd (omega (arith, sym c ∙ q))
diag_kind false (is_binding c k) q = absurd (omega (arith, sym c ∙ q))
diag_kind post (is_diag p c k) q = k
diag_kind true (is_part r o c a p k) q = absurd (omega (arith, sym c ∙ q))
diag_kind false (is_part r o c a p k) q = absurd (omega (arith, sym c ∙ q))

other_kind : {es : List Event} {k : ℕ} {e : Event} → Sort es k e → (e.chain ≡ diagnostics → ⊥) → (e.chain ≡ post_diagnostics → ⊥)
    → e.kind ≡ diagnostic_kind → ⊥
other_kind (is_def l c h o) n m q = omega (arith, (def_range _ o).1)
other_kind (is_ext x c h k b) n m q = omega (arith, sym k ∙ q)
other_kind (is_binding c k) n m q = omega (arith, sym k ∙ q)
other_kind (is_diag true c k) n m q = m c
other_kind (is_diag false c k) n m q = n c
other_kind (is_part r o c a p k) n m q = omega (arith, (child_range _ o.kind k).1)

-- what is so of the records of a chain is so of their numbers
all_members : (P : ℕ → Type 0) (c k at : ℕ) (es : List Event)
    → ((r b : ℕ) (e : Event) (later : List Event) → Splits k at es r b e later → in_chain c e ≡ true → P r)
    → All P (numbers_of (members c k es))
unfolding members numbers_of
all_members P c k at [] h = all_none
all_members P c k at (x ∷ es) h =
    let more = all_members P c (k + 1) (at + bytes_in x) es (λ r b e later s t. h r b e later (splits_later s) t) in
    by_test (in_chain c x)
    (λ t. rw t (all_more (h k at x es splits_here t) more))
    (λ t. rw t more)

module _ {words bytes : List ℕ} {records used : ℕ} {es : List Event} (l : Layout words bytes records used es) where
  -- a word of a record
  word : {r b : ℕ} {e : Event} {later : List Event} → Splits 1 0 es r b e later → (i : ℕ) → i < 16
      → out_field words r i ≡ get_or (words16 r b e later) i 0
  word {r} s i h =
      ap (λ (w : List ℕ). out_field w r i) l.words_are ∙ field_at (replicate 16 0) refl es (length words - (1 + length es) * 16) s i h

  kind_is : {r b : ℕ} {e : Event} {later : List Event} → Splits 1 0 es r b e later → e.alive ≡ true → kind_of words r ≡ e.kind
  unfolding words16
  kind_is s t = word s 0 (omega arith) ∙ rw t refl

  -- the texts of a record lie in the bytes in use
  pub record Inside (r : ℕ) : Type 0 where
    pub first : text_start words r + text_length words r ≤ used
    pub second : second_start words r + second_length words r ≤ used

  splits_inside : {r b : ℕ} {e : Event} {later : List Event} → Splits 1 0 es r b e later → Inside r
  unfolding words16
  splits_inside {r} {b} {e} s =
      let q = splits_end s in
      by_test e.alive
      (λ t.
      let ts : text_start words r ≡ start_of b e.text = word s 2 (omega arith) ∙ rw t refl in
      let tl : text_length words r ≡ length e.text = word s 3 (omega arith) ∙ rw t refl in
      let us : second_start words r ≡ start_of (b + length e.text) e.second = word s 4 (omega arith) ∙ rw t refl in
      let ul : second_length words r ≡ length e.second = word s 5 (omega arith) ∙ rw t refl in
      record {
        first = omega (arith, start_most b e.text, l.used_are);
        second = omega (arith, start_most (b + length e.text) e.second, l.used_are);
      })
      (λ t.
      let ts : text_start words r ≡ 0 = word s 2 (omega arith) ∙ rw t refl in
      let tl : text_length words r ≡ 0 = word s 3 (omega arith) ∙ rw t refl in
      let us : second_start words r ≡ 0 = word s 4 (omega arith) ∙ rw t refl in
      let ul : second_length words r ≡ 0 = word s 5 (omega arith) ∙ rw t refl in
      record { first = omega arith; second = omega arith })

  inside : {r : ℕ} → Still words records r → Inside r
  inside {r} h = splits_inside (split (found 1 r es (omega (arith, h.number)) (omega (arith, l.records_are, h.made))).at 0).splits

  -- the records of a chain that is not one of diagnostics
  chain_still : Each (Sort es) 1 es → (c : ℕ) → (c ≡ diagnostics → ⊥) → (c ≡ post_diagnostics → ⊥)
      → All (Still words records) (chain_of words (first c 1 es))
  chain_still ss c n m = rw (chain_reads l c) (all_members (Still words records) c 1 0 es each)
    where
      each : (r b : ℕ) (e : Event) (later : List Event) → Splits 1 0 es r b e later → in_chain c e ≡ true → Still words records r
      each r b e later s t =
          let q = both e.alive (eqb e.chain c) t in
          let ch = eqb-true e.chain c q.1 in
          record {
            number = omega (arith, splits_from s);
            made = omega (arith, at_to (splits_number s), l.records_are);
            other = λ k. other_kind (each_at ss (splits_number s)) (λ z. n (sym ch ∙ z)) (λ z. m (sym ch ∙ z)) (sym (kind_is s q.0) ∙ k);
          }

  -- the children of a record
  children_still : Each (Sort es) 1 es → {r : ℕ} → Still words records r → All (Still words records) (chain_of words (child_of words r))
  unfolding words16 chain_of
  children_still ss {r} h =
      let s = (split (found 1 r es (omega (arith, h.number)) (omega (arith, l.records_are, h.made))).at 0).splits in
      go s
    where
      go : {b : ℕ} {e : Event} {later : List Event} → Splits 1 0 es r b e later
          → All (Still words records) (chain_of words (child_of words r))
      go {b} {e} {later} s =
          by_test e.alive
          (λ t.
          let z : child_of words r ≡ first (children_of r) 1 es = word s 6 (omega arith) ∙ rw t (sym (first_behind l.ordered s)) in
          subst (λ (i : ℕ). All (Still words records) (chain_of words i)) (sym z)
          (chain_still ss (children_of r) (λ i. omega arith) (λ i. omega arith)))
          (λ t.
          let z : child_of words r ≡ 0 = word s 6 (omega arith) ∙ rw t refl in
          subst (λ (i : ℕ). All (Still words records) (chain_of words i)) (sym z) (rw (chain_end (log_count words) words) all_none))

  -- the last diagnostic is one
  last_diag : Each (Sort es) 1 es → (post : Bool) (x : Chain) → Runs (diags_of post) x es → (x.last ≡ 0 → ⊥)
      → kind_of words x.last ≡ diagnostic_kind
  last_diag ss post x run n =
      let i = last_of (diags_of post) 1 0 es (omega arith) (λ z. n (run.last_is ∙ z)) in
      let q = both i.event.alive (eqb i.event.chain (diags_of post)) i.member in
      ap (λ (r : ℕ). kind_of words r) run.last_is ∙ kind_is i.splits q.0
      ∙ diag_kind post (each_at ss (splits_number i.splits)) (eqb-true _ _ q.1)

-- a word before the record that is written, and not the link
module _ (words : List ℕ) (n : ℕ) (new : List ℕ) (link : ℕ) (h : n * 16 + length new ≤ length words) where
  put_below : (i : ℕ) → i < n * 16 → (i ≡ link → link ≡ 0) → get_or (set_link link n (written words (n * 16) new)) i 0 ≡ get_or words i 0
  unfolding set_link
  put_below i l ne =
      by_test (eqb link 0)
      (λ t. rw t (written_below words (n * 16) new i l (omega arith)))
      (λ t. rw t (get_or-set_other (written words (n * 16) new) link i n 0 (λ z. eqb-false link 0 t (ne z))
      ∙ written_below words (n * 16) new i l (omega arith)))

  put_length : length (set_link link n (written words (n * 16) new)) ≡ length words
  put_length = length_link link n (written words (n * 16) new) ∙ written_length words (n * 16) new h

-- what a diagnostic made keeps
module _ {c d f : LowerCtx} {words bytes w b : List ℕ} {r : Rec} {x : List ℕ} {link : ℕ} (told : Told c d words bytes w b r x [] link)
    (at : link ≡ end_link c.diags)
    (state : f ≡ with_diag d c.records) where
  -- nothing is made
  idle : makes c words bytes (length x + 0) link ≡ false → Kept c f words bytes w b
  unfolding counted made_words made_bytes ran_short with_diag
  idle n =
      let e : d ≡ ran_short c = told.state ∙ cond_false (makes c words bytes (length x + 0) link) _ _ n in
      let v : w ≡ words = told.words_are ∙ cond_false (makes c words bytes (length x + 0) link) _ _ n in
      let u : b ≡ bytes = told.bytes_are ∙ cond_false (makes c words bytes (length x + 0) link) _ _ n in
      rw (state, e, v, u)
      (record {
        records = omega arith;
        count = refl;
        defs = refl;
        binds = refl;
        field = λ r i h l. refl;
        first = λ r h. refl;
        second = λ r h. refl;
      })

  -- one is
  more : makes c words bytes (length x + 0) link ≡ true → ((r i : ℕ) → Still words c.records r → i < 16 → r * 16 + i ≡ link → link ≡ 0)
      → ((r : ℕ) → Still words c.records r → (text_start words r + text_length words r ≤ c.bytes)
      × (second_start words r + second_length words r ≤ c.bytes)) → Kept c f words bytes w b
  unfolding counted made_words made_bytes one_more with_diag out_field sixteen
  more m other texts =
      let room = makes_is c words bytes (length x + 0) link m in
      let e : d ≡ one_more c (length x + 0) = told.state ∙ cond_true (makes c words bytes (length x + 0) link) _ _ m in
      let v : w ≡ set_link link c.records (written words (c.records * 16) (sixteen c.bytes (length x) 0 r)) = told.words_are
      ∙ cond_true (makes c words bytes (length x + 0) link) _ _ m in
      let u : b ≡ written bytes c.bytes (x ++ []) = told.bytes_are ∙ cond_true (makes c words bytes (length x + 0) link) _ _ m in
      let fits : c.records * 16 + 16 ≤ length words = omega (arith, count_words words (c.records + 1) (omega (arith, room.records_fit)))
      in
      let field : (r i : ℕ) → Still words c.records r → i < 16
      → out_field w r i ≡ out_field words r i = λ r₁ i h l. rw v
      (put_below words c.records (sixteen c.bytes (length x) 0 r) link fits (r₁ * 16 + i) (omega (arith, h.made))
      (other r₁ i h l)) in
      let text : (start size : ℕ) → start + size ≤ c.bytes → text_in b start size ≡ text_in bytes start size = λ start size h. rw u
      (part_written bytes c.bytes (x ++ []) start size h
      (omega (arith, room.bytes_fit, length-append x []))) in
      record {
        records = rw (state, e) (omega arith);
        count = rw v (same_count words _ (put_length words c.records (sixteen c.bytes (length x) 0 r) link fits));
        defs = rw (state, e) refl;
        binds = rw (state, e) refl;
        field = field;
        first = λ r₁ h. rw (field r₁ 2 h (omega arith), field r₁ 3 h (omega arith)) (text _ _ (texts r₁ h).0);
        second = λ r₁ h. rw (field r₁ 4 h (omega arith), field r₁ 5 h (omega arith)) (text _ _ (texts r₁ h).1);
      }

  pub emit_keeps : Keeps c f words bytes w b
  emit_keeps = record { keeps = go }
    where
      go : (k : Context) (s : State) → Represents k c words bytes s → Kept c f words bytes w b
      go k s (over z m) = idle (sym (makes_short c words bytes (length x + 0) link z))
      go k s (going es z l cr cb o m st ps ss mk) =
          by_test (makes c words bytes (length x + 0) link)
          (λ t.
          more t (λ r i h j q. unlinked es l ss k.post m.diags_run r i h j q)
          (λ r h. let i = inside l h in (i.first, i.second)))
          idle
        where
          unlinked : (es : List Event) → Layout words bytes c.records c.bytes es → Each (Sort es) 1 es → (post : Bool)
              → Runs (diags_of post) c.diags es
              → (r i : ℕ) → Still words c.records r → i < 16 → r * 16 + i ≡ link → link ≡ 0
          unlinked es l ss post run r i h j q =
              by_test (eqb c.diags.last 0)
              (λ t. at ∙ rw t refl)
              (λ t.
              let z : link ≡ c.diags.last * 16 + 1 = at ∙ rw t refl in
              let y : r ≡ c.diags.last = omega arith in
              absurd (h.other (ap (λ (a : ℕ). kind_of words a) y ∙ last_diag l ss post c.diags run (eqb-false _ _ t))))

-- laws for callers: the records of the chains in hand
module _ {k : Context} {c : LowerCtx} {words bytes : List ℕ} {s : State} where
  pub binds_still : Represents k c words bytes s → c.short ≡ false → All (Still words c.records) (chain_of words c.binds.first)
  binds_still (over h m) n = absurd (not_both h n)
  binds_still (going es h l cr cb o m st ps ss mk) n = rw m.binds_run.first_is
      (chain_still l ss bindings (λ z. omega arith) (λ z. omega arith))

  pub defs_still : Represents k c words bytes s → c.short ≡ false → All (Still words c.records) (chain_of words c.defs.first)
  defs_still (over h m) n = absurd (not_both h n)
  defs_still (going es h l cr cb o m st ps ss mk) n = rw o.defs_run.first_is
      (chain_still l ss (defs_of (log_of k.waiting)) (λ z. omega arith) (λ z. omega arith))

  pub parts_still : Represents k c words bytes s → c.short ≡ false → {r : ℕ} → Still words c.records r
      → All (Still words c.records) (chain_of words (child_of words r))
  parts_still (over h m) n r = absurd (not_both h n)
  parts_still (going es h l cr cb o m st ps ss mk) n r = children_still l ss r

  -- a text of one by its place
  pub first_place : Represents k c words bytes s → c.short ≡ false → {r : ℕ} → Still words c.records r
      → path_in c.bytes bytes (place_of (text_start words r) (text_length words r)) ≡ first_text words bytes r
  first_place (over h m) n {r} q = absurd (not_both h n)
  first_place (going es h l cr cb o m st ps ss mk) n {r} q =
      let i = inside l q in
      path_read bytes c.bytes (text_start words r) (text_length words r) _ refl i.first
      (omega (arith, i.first, l.used_are, l.bytes_fit))

  pub second_place_lem : Represents k c words bytes s → c.short ≡ false → {r : ℕ} → Still words c.records r
      → path_in c.bytes bytes (place_of (second_start words r) (second_length words r)) ≡ second_text words bytes r
  second_place_lem (over h m) n {r} q = absurd (not_both h n)
  second_place_lem (going es h l cr cb o m st ps ss mk) n {r} q =
      let i = inside l q in
      path_read bytes c.bytes (second_start words r) (second_length words r) _ refl i.second
      (omega (arith, i.second, l.used_are, l.bytes_fit))
