-- After a body that is kept: the log around it has an extension more, with those that the body holds before it.
use Prim.Native.Nat.{ℕ, ◌+◌, ◌≤◌, ◌<◌}
use mathlib.Core.Path.{◌≡◌, refl, sym, ap, subst, ◌∙◌}
use mathlib.Core.Bool.{true}
use mathlib.Core.List.{List, [], ◌∷◌, ◌++◌, append_assoc, map-append}
use native.Mathlib.Omega.{arith}
use borrow.Author.Tests.{eqb-true, eqb-false, leb-true, leb-false}
use lib.Dec.{eqb, leb}
use lib.ListN.{length, length-append}
use Rattle.paths_numbers.specs.meaning.Reference.{Target}
use Rattle.paths_numbers.proofs.Texts.{by_test, not_both}
use Rattle.making.specs.declared.ctx.LowerCtx.{LowerCtx}
use Rattle.making.specs.declared.ctx.Rec.{Rec}
use Rattle.definition_log.specs.meaning.Contents.{Ext}
use Rattle.making.specs.meaning.State.{State, target_bytes, extended}
use Rattle.definition_log.specs.meaning.Record.{one_of, extension_kind, reference_kind}
use Rattle.making.specs.machine.Events.{Event, defs_of, exts_of, children_of, first, last, end_of, Ordered, members, below, target_of}
use Rattle.making.specs.machine.Events.{defs_in, ext_of}
use Rattle.making.specs.machine.Buffers.{event_of, Layout}
use Rattle.making.specs.machine.Made.{Told, end_link, child_link, with_ext, left_kept}
use Rattle.making.specs.machine.Holding.{Runs, Ends, Holds}
use Rattle.making.specs.machine.Holding as H
use Rattle.making.specs.machine.Represents.{Out, Waiting, Context, log_of, exts_log, before, hand_of, Each, each_none, each_next, Sort}
use Rattle.making.specs.machine.Represents.{is_ext, is_part, exts_in, OtherBody, Open, Inside, AllStand, Stack, above, Common, TooMuch}
use Rattle.making.specs.machine.Represents.{records_over, bytes_over, most_over, Represents, going, over, in_body, InHand, main-log}
use Rattle.making.specs.machine.Represents.{this_log, log_around}
use Rattle.making.specs.machine.Whole.{Plain, Making}
use Rattle.making.proofs.Append.{chain_other, new_in, last_to, last_other}
use Rattle.making.proofs.Layouts.{end_more}
use Rattle.making.proofs.Holding.{told_over, added_ext, added_child, there_new, exceeds_more}
use Rattle.making.proofs.Members.{map_members, first_before, last_before, members_before, members_more, members_other, SameBelow}
use Rattle.making.proofs.Members.{defs_same}
use Rattle.making.proofs.Growing.{each_more, sorts_more, childless, childless_last, places_more, at_more, InsideTop, each_at}
use Rattle.making.proofs.Below.{below_but, below_owner}
use Rattle.making.proofs.Represented.{ends, Top, below_top, exceeding, common_same, common_as, exts_hand, hand_low}
use Rattle.making.proofs.Leaving.{each_join, at_cut}
use Rattle.making.proofs.Left.{exts_low, inside_out, stack_behind}
use Rattle.making.proofs.FirstOf.{at_to, in_chain_lem}
use mathlib.Core.Logic.{◌⊎◌, inl, inr}
use Rattle.making.proofs.MakingMore.{Extending, making_extend}

-- what a need was, it is when it grows
pub more_need : {words bytes : List ℕ} {s t : State} → s.records ≤ t.records → s.bytes ≤ t.bytes → TooMuch words bytes s
    → TooMuch words bytes t
more_need r b (records_over h) = records_over (omega (arith, r))
more_need r b (bytes_over h) = bytes_over (omega (arith, b))
more_need r b (most_over h) = most_over (omega (arith, b))

-- a body's records are in no chain of the log around it
inside_defs : {mark x k : ℕ} {ys : List Event} (l : ℕ) → l < mark → Each (λ (i : ℕ) (e : Event). Inside mark x e) k ys
    → Each (Out (defs_of l)) k ys
inside_defs l h each_none = each_none
inside_defs l h (each_next {e = e} i q) = each_next (chain_other e.chain (defs_of l) e refl (λ c. omega (arith, i.of_defs l c)))
    (inside_defs l h q)

inside_parts : {mark x k : ℕ} {ys : List Event} (r : ℕ) → r < mark → Each (λ (i : ℕ) (e : Event). Inside mark x e) k ys
    → Each (Out (children_of r)) k ys
inside_parts r h each_none = each_none
inside_parts r h (each_next {e = e} i q) = each_next (chain_other e.chain (children_of r) e refl (λ c. omega (arith, i.of_parts r c)))
    (inside_parts r h q)

inside_exts : {mark x k : ℕ} {ys : List Event} (l : ℕ) → l < mark → (l ≡ x → ⊥) → Each (λ (i : ℕ) (e : Event). Inside mark x e) k ys
    → Each (Out (exts_of l)) k ys
inside_exts l h n each_none = each_none
inside_exts l h n (each_next {e = e} i q) = each_next (chain_other e.chain (exts_of l) e refl (λ c. n ((i.of_exts l c).0 h)))
    (inside_exts l h n q)

inside_bodies : {mark x k : ℕ} {ys : List Event} (l : ℕ) → l < mark → Each (λ (i : ℕ) (e : Event). Inside mark x e) k ys
    → Each (OtherBody l) k ys
inside_bodies l h each_none = each_none
inside_bodies {k = k} l h (each_next {e = e} i q) =
    let p : OtherBody l k e = λ y c t z. omega (arith, (i.of_exts y c).1, z) in
    each_next p (inside_bodies l h q)

-- the extension and its reference, behind all other records
module _ (es : List Event) (x₀ log : ℕ) (r₁ r₂ : Rec) (u v : List ℕ) (ordered : Ordered 1 es) where
  abbrev n : ℕ
  n = 1 + length es

  abbrev ext : Event
  ext = event_of (exts_of x₀) log r₁ [] []

  abbrev ref : Event
  ref = event_of (children_of n) 0 r₂ u v

  abbrev gs : List Event
  gs = es ++ ext ∷ []

  abbrev fs : List Event
  fs = gs ++ ref ∷ []

  ext_top : Top ext
  ext_top r q = omega arith

  same_below : SameBelow (λ (r : ℕ). r ≡ n) es fs
  same_below r z = below_but gs n ref refl refl r z ∙ below_top es ext ext_top r (λ y. y)

  same_defs : (l : ℕ) → defs_in l fs ≡ defs_in l es
  same_defs l =
      defs_same (λ (r : ℕ). r ≡ n) es fs same_below l
      (members_other (defs_of l) 1 gs ref (chain_other (children_of n) (defs_of l) ref refl (λ q. omega arith))
      ∙ members_other (defs_of l) 1 es ext (chain_other (exts_of x₀) (defs_of l) ext refl (λ q. omega arith)))
      (λ r x a t c z. omega (arith, at_to a)) (λ r w x y a t c b p d z. omega (arith, at_to b))

  ref_below : below fs n ≡ record { number = 1 + length gs; event = ref } ∷ []
  ref_below = below_owner gs n ref refl refl ∙ rw (below_top es ext ext_top n (λ y. y) ∙ childless 1 es n ordered (omega arith)) refl

  pub ext_said : (target : Target) → target_of ref ≡ target
      → exts_in x₀ fs ≡ exts_in x₀ es ++ record {
        target = target;
        body = defs_in log es;
        span = record { from = r₁.span.from; to = r₁.span.to };
        name_span = record { from = r₁.name_span.from; to = r₁.name_span.to };
      } ∷ []
  unfolding exts_in ext_of
  ext_said target tells =
      let old = map_members (ext_of fs) (ext_of es) (exts_of x₀) 1 es
      (λ r e a t c. rw (same_below r (λ z. omega (arith, at_to a)), same_defs e.log) refl) in
      rw (
        members_other (exts_of x₀) 1 gs ref (chain_other (children_of n) (exts_of x₀) ref refl (λ q. omega arith)),
        members_more (exts_of x₀)
            1 es ext (new_in (exts_of x₀) ext refl refl),
        map-append,
        old,
        ref_below,
        tells,
        same_defs log,
      ) refl

  ext_inside : (mark : ℕ) → mark ≤ log → Inside mark x₀ ext
  ext_inside mark h = record {
    of_defs = λ l q. absurd (omega arith);
    of_exts = λ l q. (λ z. omega arith, h);
    of_parts = λ r q. absurd
        (omega arith);
  }

  ref_inside : (mark : ℕ) → mark ≤ n → Inside mark x₀ ref
  ref_inside mark h = record { of_defs = λ l q. absurd (omega arith); of_exts = λ l q. absurd (omega arith); of_parts = λ r q. omega arith }

  -- the log around the body, whose records are xs
  module _ (ws : List Waiting) (c d : LowerCtx) (s t : State) (xs ys : List Event) (is : fs ≡ xs ++ ys) (o : Open ws c xs s) (mark : ℕ)
      (m : mark ≡ 1 + length xs) (low : log_of ws < mark) (shared : x₀ ≡ exts_log ws)
      (inside : Each (λ (i : ℕ) (e : Event). Inside mark x₀ e) mark ys) (run : Runs (exts_of (exts_log ws)) d.exts fs)
      (say : exts_in (exts_log ws) fs ≡ before ws ++ t.exts)
      (dd : d.defs ≡ c.defs) (dp : d.part ≡ c.part) (dc : d.cell ≡ c.cell) (td : t.defs ≡ s.defs) where
    inside' : Each (λ (i : ℕ) (e : Event). Inside mark x₀ e) (1 + length xs) ys
    inside' = subst (λ (j : ℕ). Each (λ (i : ℕ) (e : Event). Inside mark x₀ e) j ys) m inside

    -- the last of a chain is before the body
    last_low : (r chain : ℕ) → r ≡ last chain 1 xs → r < mark
    last_low r chain q = by_test (eqb r 0) (λ t. omega (arith, eqb-true r 0 t))
        (λ t. omega (arith, last_to chain 1 xs (λ y. eqb-false r 0 t (q ∙ y))))

    less : (r : ℕ) → (mark ≤ r → ⊥) → r < mark
    less r z = by_test (leb mark r) (λ t. absurd (z (leb-true mark r t))) (λ t. leb-false mark r t)

    pub around : Open ws d fs t
    around =
        let l = log_of ws in
        let out = inside_defs l low inside' in
        let parts : (r : ℕ) → r < mark → last (children_of r) 1 fs ≡ last (children_of r) 1 xs = λ r h. ap (last (children_of r) 1) is
        ∙ last_before (children_of r) 1 xs ys (inside_parts r h inside') in
        let below : SameBelow (λ (r : ℕ). mark ≤ r) xs fs = λ r z. ap (members (children_of r) 1) is
        ∙ members_before (children_of r) 1 xs ys (inside_parts r (less r z) inside') in
        record {
          defs_run = rw dd (record {
            first_is = o.defs_run.first_is
                ∙ sym (ap (first (defs_of l) 1) is ∙ first_before (defs_of l) 1 xs ys out);
            last_is = o.defs_run.last_is
                ∙ sym (ap (last (defs_of l) 1) is ∙ last_before (defs_of l) 1 xs ys out);
          });
          exts_run = run;
          part_is = rw (dp, dd) (o.part_is ∙ sym (parts c.defs.last (last_low c.defs.last (defs_of l) o.defs_run.last_is)));
          cell_is = rw (dc, dp) (o.cell_is ∙ sym (parts c.part (last_low c.part (children_of c.defs.last) o.part_is)));
          defs_say =
              defs_same (λ (r : ℕ). mark ≤ r) xs fs below l (ap (members (defs_of l) 1) is ∙ members_before (defs_of l) 1 xs ys out)
              (λ r e a t q z. omega (arith, at_to a)) (λ r v e y a t q b u i z. omega (arith, at_to b))
              ∙ o.defs_say ∙ sym td;
          exts_say = say;
          others = subst (λ (v : List Event). Each (OtherBody l) 1 v) (sym is) (each_join xs o.others (inside_bodies l low inside'));
          passed = λ p. subst (λ (v : List Event). Each (Out (exts_of l)) 1 v) (sym is)
              (each_join xs (o.passed p) (inside_exts l low (λ z. p (z ∙ shared)) inside'));
        }

-- the operation: an extension, its reference, and the log around the body in hand again
module _ (k : Context) (c d₁ c₁ d₂ d outer : LowerCtx) (words bytes w₁ b₁ w b : List ℕ) (s t : State) (r₁ r₂ : Rec) (u v : List ℕ)
    (link₁ link₂ : ℕ) (target : Target)
    (told₁ : Told c d₁ words bytes w₁ b₁ r₁ [] [] link₁) (at₁ : link₁ ≡ end_link c.exts) (with-ext : c₁ ≡ with_ext d₁ c.records)
    (told₂ : Told c₁ d₂ w₁ b₁ w b r₂ u v link₂) (at₂ : link₂ ≡ child_link c.records 0) (state : d ≡ left_kept d₂ outer)
    (kind₁ : r₁.kind ≡ extension_kind) (kind₂ : r₂.kind ≡ reference_kind) (own : r₁.m ≡ c.defs.first)
    (plain₁ : (x l : ℕ) → Plain (event_of (exts_of x) l r₁ [] [])) (plain₂ : (n : ℕ) → Plain (event_of (children_of n) 0 r₂ u v))
    (tells : (n : ℕ) → target_of (event_of (children_of n) 0 r₂ u v) ≡ target) (sized : target_bytes target ≡ length u + length v) where
  abbrev made : Ext
  made = record {
    target = target;
    body = t.defs;
    span = record { from = r₁.span.from; to = r₁.span.to };
    name_span = record
        { from = r₁.name_span.from; to = r₁.name_span.to };
  }

  short_kept : d₂.short ≡ true → TooMuch w b (extended made s t) → Represents k d w b (extended made s t)
  unfolding left_kept
  short_kept h m = over (ap (λ (a : LowerCtx). a.short) state ∙ h) m

  short_first : c₁.short ≡ true → TooMuch w₁ b₁ (extended made s t) → Represents k d w b (extended made s t)
  short_first h m = let o = told_over told₂ h in short_kept o.0 (rw (o.1, o.2) m)

  module _ (es xs ys : List Event) (q : es ≡ xs ++ ys) (mk : outer.records ≡ 1 + length xs)
      (l : Layout words bytes c.records c.bytes es) (cr : c.records ≡ t.records) (cb : c.bytes ≡ t.bytes) where
    abbrev mark : ℕ
    mark = outer.records

    abbrev x₁ : ℕ
    x₁ = exts_log k.waiting

    abbrev e₁ : Event
    e₁ = event_of (exts_of x₁) mark r₁ [] []

    abbrev e₂ : Event
    e₂ = event_of (children_of (1 + length es)) 0 r₂ u v

    abbrev zs : List Event
    zs = (ys ++ e₁ ∷ []) ++ e₂ ∷ []

    parts : (es ++ e₁ ∷ []) ++ e₂ ∷ [] ≡ xs ++ zs
    parts =
        ap (λ (a : List Event). (a ++ e₁ ∷ []) ++ e₂ ∷ []) q
        ∙ ap (λ (a : List Event). a ++ e₂ ∷ []) (append_assoc xs ys (e₁ ∷ []))
        ∙ append_assoc xs (ys ++ e₁ ∷ []) (e₂ ∷ [])

    records_are_lem : 1 + length ((es ++ e₁ ∷ []) ++ e₂ ∷ []) ≡ (extended made s t).records
    unfolding extended
    records_are_lem = omega (arith, length-append es (e₁ ∷ []), length-append (es ++ e₁ ∷ []) (e₂ ∷ []), l.records_are, cr)

    bytes_are_lem : end_of 0 ((es ++ e₁ ∷ []) ++ e₂ ∷ []) ≡ (extended made s t).bytes
    unfolding extended
    bytes_are_lem = omega (arith, end_more 0 es e₁, end_more 0 (es ++ e₁ ∷ []) e₂, l.used_are, cb, sized)

    said : exts_in x₁ es ≡ (before k.waiting ++ s.exts) ++ t.exts → defs_in mark es ≡ t.defs
        → exts_in x₁ ((es ++ e₁ ∷ []) ++ e₂ ∷ []) ≡ before k.waiting ++ (extended made s t).exts
    unfolding extended
    said h g =
        ext_said es x₁ mark r₁ r₂ u v l.ordered target (tells (1 + length es))
        ∙ rw (
          h,
          g,
          append_assoc (before k.waiting) s.exts t.exts,
          append_assoc (before k.waiting) (s.exts ++ t.exts)
              (made ∷ []),
        ) refl

    inside_kept : Each (λ (i : ℕ) (e : Event). Inside mark x₁ e) mark ys → Each (λ (i : ℕ) (e : Event). Inside mark x₁ e) mark zs
    inside_kept i =
        each_more (ys ++ e₁ ∷ []) (each_more ys i (ext_inside es x₁ mark r₁ r₂ u v l.ordered mark (omega arith)))
        (ref_inside es x₁ mark r₁ r₂ u v l.ordered mark (rw (mk, q) (omega (arith, length-append xs ys))))

    inside_all : {i : ℕ} {vs : List Event} → Stack k.waiting xs → Each (λ (i : ℕ) (e : Event). Inside mark x₁ e) i vs
        → Each (λ (i : ℕ) (e : Event). InsideTop k.waiting e) i vs
    inside_all st each_none = each_none
    inside_all st (each_next {e = e} x h) = each_next (inside_out mark x₁ e st mk (λ z. refl) x) (inside_all st h)

    sorts_kept : Stack k.waiting xs → Each (Sort es) 1 es → Each (Sort ((es ++ e₁ ∷ []) ++ e₂ ∷ [])) 1 ((es ++ e₁ ∷ []) ++ e₂ ∷ [])
    unfolding one_of
    sorts_kept st ss =
        let size = length-append xs ys in
        let n : 1 + length xs ≤ 1 + length es = rw q (omega arith) in
        sorts_more e₂
        (sorts_more e₁ ss (is_ext x₁ refl (omega (arith, exts_low st)) kind₁ (omega (arith, mk))))
        (is_part (1 + length es) e₁ refl (at_more (e₂ ∷ []) (at_cut 1 es e₁ [])) (rw kind₁ refl) (rw (kind₁, kind₂) refl))

    -- the extension, with which the body's log is no longer in hand
    extending : Open (in_body k outer s true).waiting c es t → log_of k.waiting < mark → Stack k.waiting xs
        → Extending (InHand k.waiting) (InHand (in_body k outer s true).waiting) es e₁ e₂
    unfolding exts_log
    extending o low st =
        record {
          log = x₁;
          held = exts_hand k.waiting;
          chain = refl;
          kind = kind₁;
          body = own ∙ o.defs_run.first_is;
          said = plain₁ x₁ mark;
          below = refl;
          reference = kind₂;
          reference_said = plain₂ (1 + length es);
          both_alive = (refl, refl);
          inner = λ l h. log_around h;
          outer = around_or;
          before = this_log refl;
          after = λ h. omega (arith, hand_low st h);
          passed = λ r e h z. not_both (in_chain_lem (exts_of mark) e h.alive z)
              (each_at (o.passed (λ y. omega (arith, hand_low st (exts_hand k.waiting), y))) h.at);
        }
      where
        around_or : (l : ℕ) → InHand (in_body k outer s true).waiting l → InHand k.waiting l ⊎ (l ≡ mark)
        around_or l (main-log z) = inl (main-log z)
        around_or l (this_log z) = inr z
        around_or l (log_around h) = inl h

    finished : Open (in_body k outer s true).waiting c es t → Common (in_body k outer s true) c es t → log_of k.waiting < mark
        → Open k.waiting outer xs s → AllStand xs k.places
        → Each (λ (i : ℕ) (e : Event). Inside mark x₁ e) mark ys → Stack k.waiting xs → Each (Sort es) 1 es
        → Making (InHand (in_body k outer s true).waiting) es
        → Ends (hand_of (in_body k outer s true)) c₁ (es ++ e₁ ∷ [])
        → Holds (hand_of (in_body k outer s true)) d₂ w b ((es ++ e₁ ∷ []) ++ e₂ ∷ []) → Represents k d w b (extended made s t)
    unfolding left_kept exts_log before extended
    finished o m low o₀ a i st ss me en₁ (H.over h x) = short_kept h (exceeding {s = extended made s t} records_are_lem bytes_are_lem x)
    finished o m low o₀ a i st ss me en₁ (H.going h l₂ en₂) =
        let m₁ : Common (in_body k outer s true) c₁ (es ++ e₁ ∷ []) t = common_same e₁ m en₁ (λ y. omega arith) (λ y. omega arith)
        (λ y. omega arith) refl refl in
        let m₂ : Common (in_body k outer s true) d₂ ((es ++ e₁ ∷ []) ++ e₂ ∷ []) t = common_same e₂ m₁ en₂ (λ y. omega arith)
        (λ y. omega arith) (λ y. omega arith) refl refl in
        going ((es ++ e₁ ∷ []) ++ e₂ ∷ []) (ap (λ (y : LowerCtx). y.short) state ∙ h) (rw state l₂)
        (ap (λ (y : LowerCtx). y.records) state ∙ l₂.records_are ∙ records_are_lem)
        (ap (λ (y : LowerCtx). y.bytes) state ∙ l₂.used_are ∙ bytes_are_lem)
        (around es x₁ mark r₁ r₂ u v l.ordered k.waiting outer d s (extended made s t) xs zs parts o₀ mark mk low refl (inside_kept i)
        (rw state en₂.exts_run) (said o.exts_say o.defs_say)
        (ap (λ (y : LowerCtx). y.defs) state) (ap (λ (y : LowerCtx). y.part) state) (ap (λ (y : LowerCtx). y.cell) state) refl)
        (rw state (common_as refl refl refl refl refl refl refl m₂))
        (subst (λ (y : List Event). Stack k.waiting y) (sym parts) (stack_behind xs zs st (inside_all st (inside_kept i))))
        (subst (λ (y : List Event). AllStand y k.places) (sym parts) (places_more zs a))
        (sorts_kept st ss)
        (making_extend e₁ e₂ me (extending o low st))

  pub leaves_kept : Represents (in_body k outer s true) c words bytes t → Represents k d w b (extended made s t)
  unfolding extended with_ext exts_log
  leaves_kept (over h m) =
      let o = told_over told₁ h in
      short_first (ap (λ (a : LowerCtx). a.short) with-ext ∙ o.0) (rw (o.1, o.2) (more_need (omega arith) (omega arith) m))
  leaves_kept (going es h l cr cb o m (above xs ys q mk kp o₀ a i st mx) ps ss me) =
      go (added_ext outer.records (rw at₁ at told₁) with-ext (hand_of (in_body k outer s true)) es (H.going h l (ends o m)))
    where
      go : Holds (hand_of (in_body k outer s true)) c₁ w₁ b₁ (es ++ event_of (exts_of (exts_log k.waiting)) outer.records r₁ [] [] ∷ [])
          → Represents k d w b (extended made s t)
      go (H.over h₁ x) =
          short_first h₁
          (exceeding {s = extended made s t} (records_are_lem es xs ys q mk l cr cb) (bytes_are_lem es xs ys q mk l cr cb)
          (exceeds_more (e₂ es xs ys q mk l cr cb) x))
      go (H.going h₁ l₁ en₁) =
          let n = 1 + length es in
          let at' : link₂ ≡ child_link n 0 = at₂ ∙ ap (λ (i : ℕ). child_link i 0) l.records_are in
          let e = event_of (exts_of (exts_log k.waiting)) outer.records r₁ [] [] in
          let none : 0 ≡ last (children_of n) 1 (es ++ e ∷ []) =
          sym (last_other (children_of n) 1 es e (chain_other e.chain (children_of n) e refl (λ z. omega arith))
          ∙ childless_last 1 es n l.ordered (omega arith)) in
          finished es xs ys q mk l cr cb o m (kp refl) o₀ a i st ss me en₁
          ((added_child n 0 (rw at' at told₂)).holds (hand_of (in_body k outer s true)) (es ++ e ∷ []) (H.going h₁ l₁ en₁)
          (λ _. there_new 1 es e refl) (λ _. none))
