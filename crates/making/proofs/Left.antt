-- After a body that is dropped the log around it says what it said, and bindings and diagnostics stay.
use Prim.Native.Nat.{ℕ, ◌+◌, ◌≤◌, ◌<◌}
use mathlib.Core.Path.{◌≡◌, refl, sym, ap, subst, ◌∙◌}
use mathlib.Core.Bool.{true, false}
use mathlib.Core.List.{List, [], ◌∷◌, ◌++◌, map, append-nil, append_assoc}
use native.Mathlib.Omega.{arith}
use lib.ListN.{length, length-append}
use Rattle.paths_numbers.proofs.Texts.{by_test}
use Rattle.making.specs.declared.ctx.LowerCtx.{LowerCtx}
use Rattle.making.specs.meaning.State.{State}
use Rattle.making.specs.meaning.State as S
use Rattle.making.specs.machine.Events.{Event, defs_of, exts_of, bindings, diagnostics, children_of, defs_in, binding_of, diag_of}
use Rattle.making.specs.machine.Buffers.{Layout}
use Rattle.making.specs.machine.Dropped.{dropped, DropsFrom}
use Rattle.making.specs.machine.Made.{left_dropped}
use Rattle.making.specs.machine.Holding.{diags_of}
use Rattle.making.specs.machine.Represents.{Out, Waiting, Context, log_of, exts_log, Each, each_none, each_next, Sort, OtherBody, Open}
use Rattle.making.specs.machine.Represents.{Inside, AllStand, Stack, bottom, above, Common, Represents, going, over, in_body}
use Rattle.making.specs.machine.Represents.{LeavesDropped, InHand}
use Rattle.making.specs.machine.Whole.{Making}
use Rattle.making.proofs.Members.{first_before, last_before, members_before, SameBelow, defs_same}
use Rattle.making.proofs.Growing.{exts_same, places_more, InsideTop, in_main, in-body, stack_more}
use Rattle.making.proofs.Rebound.{each_thinned, sorts_thinned}
use Rattle.making.proofs.Dropping.{dropped_low}
use Rattle.making.proofs.Entered.{same_need}
use Rattle.making.proofs.Leaving.{Shared, shared_binding, shared_diag, left_shared, shared_out, each_back, each_join}
use Rattle.making.proofs.Leaving.{dropped_thinned, dropped_parts, members_dropped, first_dropped, runs_dropped, body}
use Rattle.making.proofs.MakingLess.{making_drop}

-- a log, with records behind it that are in no log
open_front : {ws : List Waiting} {c d : LowerCtx} {s t : State} (xs zs : List Event) → Open ws c xs s
    → Each (λ (i : ℕ) (e : Event). e.alive ≡ true → Shared e) (1 + length xs) zs
    → d.defs ≡ c.defs → d.exts ≡ c.exts → d.part ≡ c.part → d.cell ≡ c.cell → t.defs ≡ s.defs → t.exts ≡ s.exts
    → Open ws d (xs ++ zs) t
open_front {ws} {c} {d} xs zs o h dd dx dp dc td tx =
    let out : (c : ℕ) → (c ≡ 2 → ⊥) → (c ≡ 3 → ⊥) → (c ≡ 4 → ⊥) → Each (Out c) (1 + length xs) zs = λ c a b e. shared_out c a b e h in
    let defs-out : (l : ℕ) → Each (Out (defs_of l)) (1 + length xs) zs = λ l. out (defs_of l) (λ q. omega arith) (λ q. omega arith)
    (λ q. omega arith) in
    let exts-out : (l : ℕ) → Each (Out (exts_of l)) (1 + length xs) zs = λ l. out (exts_of l) (λ q. omega arith) (λ q. omega arith)
    (λ q. omega arith) in
    let part_out : (r : ℕ) → Each (Out (children_of r)) (1 + length xs) zs = λ r. out (children_of r) (λ q. omega arith) (λ q. omega arith)
    (λ q. omega arith) in
    let below : SameBelow (λ (r : ℕ). ⊥) xs (xs ++ zs) = λ r z. members_before (children_of r) 1 xs zs (part_out r) in
    let defs : (l : ℕ) → defs_in l (xs ++ zs) ≡ defs_in l xs =
    λ l. defs_same (λ (r : ℕ). ⊥) xs (xs ++ zs) below l (members_before (defs_of l) 1 xs zs (defs-out l)) (λ r x a t c z. z)
    (λ r v x y a t c b u d z. z) in
    let x = exts_log ws in
    let exts = exts_same (λ (r : ℕ). ⊥) xs (xs ++ zs) below x (members_before (exts_of x) 1 xs zs (exts-out x))
    (λ r y a t c. (λ z. z, defs y.log)) in
    record {
      defs_run = rw dd (record {
        first_is = o.defs_run.first_is ∙ sym (first_before (defs_of (log_of ws)) 1 xs zs (defs-out (log_of ws)));
        last_is = o.defs_run.last_is ∙ sym (last_before (defs_of (log_of ws)) 1 xs zs (defs-out (log_of ws)));
      });
      exts_run = rw dx (record {
        first_is = o.exts_run.first_is ∙ sym (first_before (exts_of x) 1 xs zs (exts-out x));
        last_is = o.exts_run.last_is ∙ sym (last_before (exts_of x) 1 xs zs (exts-out x));
      });
      part_is = rw (dp, dd, last_before (children_of c.defs.last) 1 xs zs (part_out c.defs.last)) o.part_is;
      cell_is = rw (dc, dp, last_before (children_of c.part) 1 xs zs (part_out c.part)) o.cell_is;
      defs_say = defs (log_of ws) ∙ o.defs_say ∙ sym td;
      exts_say = exts ∙ o.exts_say ∙ rw tx refl;
      others = each_join xs o.others (no_bodies h);
      passed = λ p. each_join xs (o.passed p) (exts-out (log_of ws));
    }
  where
    no_bodies : {k : ℕ} {zs : List Event} {l : ℕ} → Each (λ (i : ℕ) (e : Event). e.alive ≡ true → Shared e) k zs → Each (OtherBody l) k zs
    no_bodies each_none = each_none
    no_bodies {l = l} (each_next {k} {e} p q) = each_next none (no_bodies q)
      where
        none : OtherBody l k e
        none x c t z = apart (p t)
          where
            apart : Shared e → ⊥
            apart (shared_binding y) = omega (arith, sym y ∙ c)
            apart (shared_diag true y) = omega (arith, sym y ∙ c)
            apart (shared_diag false y) = omega (arith, sym y ∙ c)

-- the logs that wait around the body
pub exts_low : {ws : List Waiting} {xs : List Event} → Stack ws xs → exts_log ws ≤ 1 + length xs
unfolding exts_log
exts_low bottom = omega arith
exts_low {xs = xs} (above {w} us vs q n kp o a h st mk) =
    let le : 1 + length us ≤ 1 + length xs = rw q (omega (arith, length-append us vs)) in
    by_test w.keeps (λ t. rw t (omega (arith, exts_low st))) (λ t. rw t (omega (arith, n)))

pub inside_out : {ws : List Waiting} {xs : List Event} (mark x : ℕ) (e : Event) → Stack ws xs → mark ≡ 1 + length xs
    → (x < mark → x ≡ exts_log ws) → Inside mark x e → InsideTop ws e
inside_out mark x e bottom m g i = in_main
inside_out mark x e (above {w} {ws} us vs q n kp o a h st mk) m g i =
    let le : w.mark ≤ mark = rw (m, q, n) (omega (arith, length-append us vs)) in
    in-body {w = w} {ws = ws} {e = e} (record {
      of_defs = λ l c. omega (arith, i.of_defs l c);
      of_exts = λ l c.
          (λ z. let y = (i.of_exts l c).0 (omega arith) in y ∙ g (omega arith), omega (arith, (i.of_exts l c).1));
      of_parts = λ r c. omega
          (arith, i.of_parts r c);
    })

pub stack_behind : {ws : List Waiting} (xs zs : List Event) → Stack ws xs → {k : ℕ} → Each (λ (i : ℕ) (e : Event). InsideTop ws e) k zs
    → Stack ws (xs ++ zs)
stack_behind {ws} xs [] st each_none = subst (λ (l : List Event). Stack ws l) (sym (append-nil xs)) st
stack_behind {ws} xs (e ∷ zs) st (each_next i h) =
    subst (λ (l : List Event). Stack ws l) (append_assoc xs (e ∷ []) zs) (stack_behind (xs ++ e ∷ []) zs (stack_more e i st) h)

-- the body's records are inside, there or not
module _ (k : Context) (c d outer : LowerCtx) (words bytes w b : List ℕ) (s t : State)
    (drops : DropsFrom c words bytes w b outer.records) (state : d ≡ left_dropped c outer) where
  abbrev mark : ℕ
  mark = outer.records

  module _ (es xs ys : List Event) (q : es ≡ xs ++ ys) (m : mark ≡ 1 + length xs) where
    abbrev zs : List Event
    zs = dropped mark (1 + length xs) ys

    after : dropped mark 1 es ≡ xs ++ zs
    after = ap (dropped mark 1) q ∙ dropped_parts mark 1 xs ys ∙ ap (λ (l : List Event). l ++ zs) (dropped_low mark 1 xs (omega arith))

    left : c.short ≡ false → Layout words bytes c.records c.bytes es → c.records ≡ t.records → c.bytes ≡ t.bytes
        → Common (in_body k outer s false) c es t
        → Open k.waiting outer xs s → AllStand xs k.places → Each (λ (i : ℕ) (e : Event). Inside mark mark e) mark ys
        → Stack k.waiting xs → Each (Sort es) 1 es
        → Making (InHand k.waiting) xs → Making (InHand (in_body k outer s false).waiting) es → Represents k d w b (S.dropped s t)
    unfolding S.dropped left_dropped
    left h l cr cb cm o a i st ss mx me =
        let sorts : Each (Sort es) (1 + length xs) ys = each_back xs (subst (λ (v : List Event). Each (Sort es) 1 v) q ss) in
        let shared = left_shared mark (1 + length xs) ys (omega arith) sorts in
        let lay : Layout w b c.records c.bytes (dropped mark 1 es) = (drops.going h).layout c.bytes es (omega arith) l
        (body es xs ys mark q m ss l.ordered i) in
        let inside₀ : Each (λ (i : ℕ) (e : Event). Inside mark mark e) (1 + length xs) zs =
        each_thinned (λ r e x. record { of_defs = x.of_defs; of_exts = x.of_exts; of_parts = x.of_parts })
        (dropped_thinned mark (1 + length xs) ys) (subst (λ (j : ℕ). Each (λ (i : ℕ) (e : Event). Inside mark mark e) j ys) m i) in
        let common : Common k d (dropped mark 1 es) (S.dropped s t) =
        rw state
        (record {
          binds_run = runs_dropped bindings (λ e z. shared_binding z) mark es ss cm.binds_run;
          diags_run = runs_dropped (diags_of k.post) (λ e z. shared_diag k.post z) mark es ss cm.diags_run;
          binds_say = ap (map binding_of) (members_dropped bindings (λ e z. shared_binding z) mark 1 es ss) ∙ cm.binds_say;
          diags_say = ap (map diag_of) (members_dropped (diags_of k.post) (λ e z. shared_diag k.post z) mark 1 es ss) ∙ cm.diags_say;
          reports_say = λ p. ap (map diag_of) (members_dropped diagnostics (λ e z. shared_diag false z) mark 1 es ss) ∙ cm.reports_say p;
          reports_first = λ p. first_dropped diagnostics (λ e z. shared_diag false z) mark 1 es ss ∙ cm.reports_first p;
          no_post = λ p. each_thinned (λ r e x. refl) (dropped_thinned mark 1 es) (cm.no_post p);
        }) in
        going (xs ++ zs) (ap (λ (v : LowerCtx). v.short) state ∙ h)
        (rw state (subst (λ (v : List Event). Layout w b c.records c.bytes v) after lay))
        (ap (λ (v : LowerCtx). v.records) state ∙ cr) (ap (λ (v : LowerCtx). v.bytes) state ∙ cb)
        (open_front xs zs o shared (ap (λ (v : LowerCtx). v.defs) state) (ap (λ (v : LowerCtx). v.exts) state)
        (ap (λ (v : LowerCtx). v.part) state) (ap (λ (v : LowerCtx). v.cell) state) refl refl)
        (subst (λ (v : List Event). Common k d v (S.dropped s t)) after common)
        (stack_behind xs zs st (inside_all st inside₀))
        (places_more zs a)
        (subst (λ (v : List Event). Each (Sort v) 1 v) after (sorts_thinned (dropped_thinned mark 1 es) ss))
        (subst (λ (v : List Event). Making (InHand k.waiting) v)
        (sym (ap (λ (j : ℕ). dropped j 1 (xs ++ ys)) m) ∙ sym (ap (dropped mark 1) q) ∙ after)
        (making_drop xs ys mx (subst (λ (v : List Event). Making (InHand (in_body k outer s false).waiting) v) q me)))
      where
        inside_all : {i : ℕ} {vs : List Event} → Stack k.waiting xs → Each (λ (i : ℕ) (e : Event). Inside mark mark e) i vs
            → Each (λ (i : ℕ) (e : Event). InsideTop k.waiting e) i vs
        inside_all st each_none = each_none
        inside_all st (each_next {e = e} x h) = each_next (inside_out mark mark e st m (λ z. absurd (omega arith)) x) (inside_all st h)

  pub leaves_dropped : Represents (in_body k outer s false) c words bytes t → Represents k d w b (S.dropped s t)
  unfolding S.dropped left_dropped exts_log
  leaves_dropped (over h m) =
      let o = drops.over h in
      over (ap (λ (v : LowerCtx). v.short) state ∙ h) (rw (o.0, o.1) (same_need refl refl m))
  leaves_dropped (going es h l cr cb o m (above xs ys q mk kp o₀ a i st mx) ps ss me) = left es xs ys q mk h l cr cb m o₀ a i st ss mx me

pub leaves_body : {c d outer : LowerCtx} {words bytes w b : List ℕ} → DropsFrom c words bytes w b outer.records → d ≡ left_dropped c outer
    → LeavesDropped c d outer words bytes w b
leaves_body {c} {d} {outer} {words} {bytes} {w} {b} drops state =
    record { leaves = λ k s t h. leaves_dropped k c d outer words bytes w b s t drops state h }
