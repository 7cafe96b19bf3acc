-- A binding taken out of the log in hand, by its record number: what the log says afterwards.
use Prim.Native.Nat.{ℕ, suc, ◌+◌, ◌<◌}
use mathlib.Core.Path.{◌≡◌, refl, sym, ap, subst, ◌∙◌}
use mathlib.Core.Bool.{Bool, true, false}
use mathlib.Core.List.{List, [], ◌∷◌, ◌++◌, map, map-append}
use native.Mathlib.Omega.{arith}
use borrow.Author.Tests.{eqb-true, eqb-false}
use lib.Dec.{eqb}
use lib.ListN.{length}
use Rattle.paths_numbers.proofs.Texts.{by_test, not_both, both}
use Rattle.making.specs.declared.ctx.LowerCtx.{LowerCtx}
use Rattle.making.specs.meaning.State.{State}
use Rattle.making.specs.machine.Adding.{remove_at, unbind_at}
use Rattle.definition_log.specs.meaning.ReadBack.{chain_of}
use Rattle.making.specs.machine.Events.{Event, bindings, diagnostics, in_chain, last, Numbered, members, binding_of}
use Rattle.making.specs.machine.Removed.{dead, without_bind, Removes}
use Rattle.making.specs.machine.Holding.{diags_of, Holds}
use Rattle.making.specs.machine.Holding as H
use Rattle.making.specs.machine.Represents.{Context, hand_of, Each, Sort, Open, AllStand, Stack, Common, Represents, going, over}
use Rattle.making.specs.machine.Represents.{last_number, Unlinks, InHand, is_def, is_ext, is_binding, is_diag, is_part}
use Rattle.making.specs.machine.Whole.{At, Making}
use Rattle.definition_log.specs.meaning.Record.{binding_kind}
use Rattle.making.proofs.Append.{new_in}
use Rattle.making.proofs.Holding.{diags_other}
use Rattle.making.proofs.ReadEvents.{numbers_of}
use Rattle.making.proofs.Below.{none_last}
use Rattle.making.proofs.Rebound.{rebound_at, members_rebound, first_rebound, each_rebound, sorts_rebound, places_rebound}
use Rattle.making.proofs.Rebound.{open_rebound, stack_rebound}
use Rattle.making.proofs.Represented.{ends}
use Rattle.making.proofs.Cuts.{cut}
use Rattle.making.proofs.InHand.{chain_reads}
use Rattle.making.proofs.MakingLess.{making_remove}
use Rattle.making.proofs.Growing.{each_at}
use Rattle.making.proofs.Leaving.{at_cut}

-- the last number is the chain's last
last_number_lem : (c k : ℕ) (es : List Event) → 0 < k → last_number (numbers_of (members c k es)) ≡ last c k es
unfolding members numbers_of last_number last
last_number_lem c k [] p = refl
last_number_lem c k (x ∷ es) p =
    let h = last_number_lem c (k + 1) es (omega arith) in
    by_test (eqb (last c (k + 1) es) 0)
    (λ q.
    let m = none_last c (k + 1) es (omega arith) (eqb-true _ _ q) in
    by_test (in_chain c x) (λ t. rw (q, t, m) refl) (λ t. rw (q, t, m) refl))
    (λ q. by_test (in_chain c x) (λ t. rw (q, t) (last_cons k (numbers_of (members c (k + 1) es))
    (λ z. eqb-false _ _ q (sym h ∙ ap last_number z)) ∙ h)) (λ t. rw (q, t) h))
  where
    last_cons : (n : ℕ) (l : List ℕ) → (l ≡ [] → ⊥) → last_number (n ∷ l) ≡ last_number l
    last_cons n [] z = absurd (z refl)
    last_cons n (m ∷ l) z = refl

-- the records of two lists
members_parts : (c k : ℕ) (xs ys : List Event) → members c k (xs ++ ys) ≡ members c k xs ++ members c (k + length xs) ys
unfolding members
members_parts c k [] ys = let z : k + 0 ≡ k = omega arith in rw z refl
members_parts c k (x ∷ xs) ys =
    let z : k + suc (length xs) ≡ k + 1 + length xs = omega arith in
    by_test (in_chain c x) (λ t. rw (t, z, members_parts c (k + 1) xs ys) refl) (λ t. rw (t, z, members_parts c (k + 1) xs ys) refl)

numbers_parts : (a b : List Numbered) → numbers_of (a ++ b) ≡ numbers_of a ++ numbers_of b
unfolding numbers_of
numbers_parts [] b = refl
numbers_parts (x ∷ a) b = ap (λ (l : List ℕ). x.number ∷ l) (numbers_parts a b)

length_numbers : (a : List Numbered) → length (numbers_of a) ≡ length a
unfolding numbers_of
length_numbers [] = refl
length_numbers (x ∷ a) = ap suc (length_numbers a)

remove_here : {A : Type 0} (a : List A) (x : A) (b : List A) (n : ℕ) → n ≡ length a → remove_at n (a ++ x ∷ b) ≡ a ++ b
unfolding remove_at
remove_here [] x b n q = rw q refl
remove_here (y ∷ a) x b n q = rw q (ap (λ (l : List _). y ∷ l) (remove_here a x b (length a) refl))

length_map_members : (a : List Numbered) → length (map binding_of a) ≡ length a
length_map_members [] = refl
length_map_members (x ∷ a) = ap suc (length_map_members a)

-- a record among the bindings is one
binding_kind_lem : {es : List Event} {k : ℕ} {e : Event} → Sort es k e → e.chain ≡ bindings → e.kind ≡ binding_kind
binding_kind_lem (is_def l c h k) q = absurd (omega (arith, sym c ∙ q))
binding_kind_lem (is_ext l c h k b) q = absurd (omega (arith, sym c ∙ q))
binding_kind_lem (is_binding c k) q = k
binding_kind_lem (is_diag true c k) q = absurd (omega (arith, sym c ∙ q))
binding_kind_lem (is_diag false c k) q = absurd (omega (arith, sym c ∙ q))
binding_kind_lem (is_part r o c a h k) q = absurd (omega (arith, sym c ∙ q))

-- the operation
module _ (c d : LowerCtx) (words bytes w b : List ℕ) (previous r n : ℕ) (state : d ≡ without_bind c previous n) where
  module _ (k : Context) (s : State) (ns ms : List ℕ) (xs : List Event) (e : Event) (ys : List Event) (chain : e.chain ≡ bindings)
      (kind : e.kind ≡ binding_kind) (alive : e.alive ≡ true)
      (front : numbers_of (members bindings 1 xs) ≡ ns) (back : numbers_of (members bindings (1 + length xs + 1) ys) ≡ ms) where
    abbrev es : List Event
    es = xs ++ e ∷ ys

    abbrev fs : List Event
    fs = xs ++ dead e ∷ ys

    was : members bindings 1 es ≡ members bindings 1 xs ++ record { number = 1 + length xs; event = e }
        ∷ members bindings (1 + length xs + 1) ys
    unfolding members
    was = members_parts bindings 1 xs (e ∷ ys) ∙ rw (new_in bindings e alive chain) refl

    remain : members bindings 1 fs ≡ members bindings 1 xs ++ members bindings (1 + length xs + 1) ys
    unfolding members
    remain = members_parts bindings 1 xs (dead e ∷ ys)

    unbound_binds : map binding_of (members bindings 1 es) ≡ s.binds
        → map binding_of (members bindings 1 fs) ≡ remove_at (length ns) s.binds
    unbound_binds q =
        let a = map binding_of (members bindings 1 xs) in
        let y = map binding_of (members bindings (1 + length xs + 1) ys) in
        let x = binding_of (record { number = 1 + length xs; event = e }) in
        let size : length ns ≡ length a = ap length (sym front) ∙ length_numbers (members bindings 1 xs)
        ∙ sym (length_map_members (members bindings 1 xs)) in
        let old : s.binds ≡ a ++ x ∷ y = sym q ∙ ap (map binding_of) was ∙ map-append binding_of (members bindings 1 xs) _ in
        ap (map binding_of) remain ∙ map-append binding_of (members bindings 1 xs) _ ∙ sym (remove_here a x y (length ns) size)
        ∙ ap (remove_at (length ns)) (sym old)

    left : c.short ≡ false → c.records ≡ s.records → c.bytes ≡ s.bytes → Open k.waiting c es s → Common k c es s
        → Stack k.waiting es → AllStand es k.places → Each (Sort es) 1 es → Making (InHand k.waiting) es
        → Holds (hand_of k) d w b fs → Represents k d w b (unbind_at (length ns) s) × (d.short ≡ false)
        × (chain_of w d.binds.first ≡ ns ++ ms)
    unfolding unbind_at without_bind
    left z cr cb o m st ps ss mk (H.over t x) = absurd (not_both t (ap (λ (a : LowerCtx). a.short) state ∙ z))
    left z cr cb o m st ps ss mk (H.going t l en) =
        let h = rebound_at xs e ys chain kind in
        let other : (p : Bool) → bindings ≡ diags_of p → ⊥ = λ p q. diags_other p bindings (λ y. omega arith) (λ y. omega arith) (sym q) in
        let common : Common k d fs (unbind_at (length ns) s) =
        record {
          binds_run = en.binds_run;
          diags_run = en.diags_run;
          binds_say = unbound_binds m.binds_say;
          diags_say = rw (members_rebound (diags_of k.post) (other k.post) 1 h) m.diags_say;
          reports_say = λ p. rw (members_rebound diagnostics (λ q. omega arith) 1 h) (m.reports_say p);
          reports_first = λ p. first_rebound diagnostics (λ q. omega arith) 1 h ∙ m.reports_first p;
          no_post = λ p. each_rebound (λ i x q. refl) h (m.no_post p);
        } in
        let is : Represents k d w b (unbind_at (length ns) s) =
        going fs t l (ap (λ (a : LowerCtx). a.records) state ∙ cr) (ap (λ (a : LowerCtx). a.bytes) state ∙ cb)
        (open_rebound h o (ap (λ (a : LowerCtx). a.defs) state) (ap (λ (a : LowerCtx). a.exts) state)
        (ap (λ (a : LowerCtx). a.part) state) (ap (λ (a : LowerCtx). a.cell) state) refl refl)
        common (stack_rebound h st) (places_rebound h ps) (sorts_rebound h ss) (making_remove xs e ys chain kind mk) in
        let read : chain_of w d.binds.first ≡ ns ++ ms =
        ap (λ (i : ℕ). chain_of w i) en.binds_run.first_is ∙ chain_reads l bindings ∙ ap numbers_of remain
        ∙ numbers_parts (members bindings 1 xs) _ ∙ rw (front, back) refl in
        (is, t, read)

  removed : Removes c d words bytes w b previous r → (k : Context) (s : State) (ns ms : List ℕ) → Represents k c words bytes s
      → c.short ≡ false → chain_of words c.binds.first ≡ ns ++ r ∷ ms
      → previous ≡ last_number ns → Represents k d w b (unbind_at (length ns) s) × (d.short ≡ false)
      × (chain_of w d.binds.first ≡ ns ++ ms)
  removed removes k s ns ms (over h m) z q p = absurd (not_both h z)
  removed removes k s ns ms (going es h l cr cb o m st ps ss mk) z q p =
      let read : numbers_of (members bindings 1 es) ≡ ns ++ r ∷ ms = sym (chain_reads l bindings)
      ∙ ap (λ (i : ℕ). chain_of words i) (sym m.binds_run.first_is) ∙ q in
      let t = cut bindings 1 es ns r ms read in
      let in₀ = both t.event.alive _ t.within in
      let chain : t.event.chain ≡ bindings = eqb-true _ _ in₀.1 in
      let prev : previous ≡ last bindings 1 t.xs = p ∙ ap last_number (sym t.front) ∙ last_number_lem bindings 1 t.xs (omega arith) in
      let i = t.is in
      let held : Holds (hand_of k) c words bytes (t.xs ++ t.event ∷ t.ys) = subst (λ (l : List Event). Holds (hand_of k) c words bytes l) i
      (H.going h l (ends o m)) in
      let kind = binding_kind_lem (each_at ss (subst (λ (v : List Event). At 1 v (1 + length t.xs) t.event) (sym i)
      (at_cut 1 t.xs t.event t.ys))) chain in
      left k s ns ms t.xs t.event t.ys chain kind in₀.0 t.front t.back h cr cb
      (subst (λ (l : List Event). Open k.waiting c l s) i o) (subst (λ (l : List Event). Common k c l s) i m)
      (subst (λ (l : List Event). Stack k.waiting l) i st)
      (subst (λ (l : List Event). AllStand l k.places) i ps) (subst (λ (l : List Event). Each (Sort l) 1 l) i ss)
      (subst (λ (l : List Event). Making (InHand k.waiting) l) i mk)
      (removes.holds (hand_of k) t.xs t.event t.ys held chain in₀.0 (λ _. t.number) (λ _. prev))

  pub unlinks : c.short ≡ false → Removes c d words bytes w b previous r → Unlinks c d words bytes w b previous r
  unlinks z removes = record { steps = removed removes; stays = λ t. absurd (not_both t z) }

pub unlinks_short : (c : LowerCtx) (words bytes : List ℕ) (previous r : ℕ) → c.short ≡ true
    → Unlinks c c words bytes words bytes previous r
unlinks_short c words bytes previous r t = record { steps = λ k s ns ms h z. absurd (not_both t z); stays = λ z. (t, refl, refl) }
