-- Records by number, and the first record of a chain from a number on.
use Prim.Native.Nat.{ℕ, ◌+◌, ◌≤◌, ◌<◌}
use mathlib.Core.Path.{◌≡◌, refl}
use mathlib.Core.Bool.{true}
use mathlib.Core.List.{List, [], ◌∷◌}
use native.Mathlib.Omega.{arith}
use borrow.Author.Tests.{eq-eqb, ne_eqb, eqb-true, eqb-false}
use lib.Dec.{eqb}
use lib.ListN.{length}
use Rattle.paths_numbers.proofs.Texts.{by_test, both}
use Rattle.making.specs.machine.Events.{Event, in_chain, first, bytes_in}
use Rattle.making.specs.machine.Holding.{there}
use Rattle.making.specs.machine.Whole.{At, at_here, at_later, There}
use Rattle.making.proofs.ReadEvents.{Splits, splits_here, splits_later, splits_from}

-- a record's number is one of the list's
pub at_from : {k r : ℕ} {es : List Event} {e : Event} → At k es r e → k ≤ r
at_from at_here = omega arith
at_from (at_later p) = omega (arith, at_from p)

pub at_to : {k r : ℕ} {es : List Event} {e : Event} → At k es r e → r < k + length es
at_to at_here = omega arith
at_to (at_later p) = omega (arith, at_to p)

-- and names one record
at_alike : {k r s : ℕ} {es : List Event} {e f : Event} → At k es r e → At k es s f → r ≡ s → e ≡ f
at_alike at_here at_here n = refl
at_alike at_here (at_later q) n = absurd (omega (arith, n, at_from q))
at_alike (at_later p) at_here n = absurd (omega (arith, n, at_from p))
at_alike (at_later p) (at_later q) n = at_alike p q n

pub at_same : {k r : ℕ} {es : List Event} {e f : Event} → At k es r e → At k es r f → e ≡ f
at_same p q = at_alike p q refl

-- a number below the end has a record
pub record Found (k r : ℕ) (es : List Event) : Type 0 where
  pub event : Event
  pub at : At k es r event

pub found : (k r : ℕ) (es : List Event) → k ≤ r → r < k + length es → Found k r es
found k r [] h l = absurd (omega arith)
found k r (e ∷ es) h l =
    by_test (eqb k r)
    (λ t. rw (← eqb-true k r t) (record { event = e; at = at_here }))
    (λ t.
    let f = found (k + 1) r es (omega (arith, eqb-false k r t)) (omega arith) in
    record { event = f.event; at = at_later f.at })

-- whether it is there
pub at_there : {k r : ℕ} {es : List Event} {e : Event} → At k es r e → there r k es ≡ e.alive
unfolding there
at_there {k} at_here = rw (eq-eqb k k refl) refl
at_there {k} {r} (at_later p) = rw (ne_eqb r k (λ z. omega (arith, at_from p))) (at_there p)

-- with where its texts start and what comes after it
pub record Split (k at : ℕ) (es : List Event) (r : ℕ) (e : Event) : Type 0 where
  pub start : ℕ
  pub later : List Event
  pub splits : Splits k at es r start e later

pub split : {k r : ℕ} {es : List Event} {e : Event} → At k es r e → (at : ℕ) → Split k at es r e
split {k} (at_here {es = es}) at = record { start = at; later = es; splits = splits_here }
split (at_later {x = x} p) at =
    let s = split p (at + bytes_in x) in
    record { start = s.start; later = s.later; splits = splits_later s.splits }

pub splits_number : {k at r b : ℕ} {xs es : List Event} {e : Event} → Splits k at xs r b e es → At k xs r e
splits_number splits_here = at_here
splits_number (splits_later s) = at_later (splits_number s)

pub splits_start : {k at r b : ℕ} {xs es : List Event} {e : Event} (s : Splits k at xs r b e es) → (split (splits_number s) at).start ≡ b
unfolding split splits_number
splits_start splits_here = refl
splits_start (splits_later s) = splits_start s

-- what comes after it is in the list, and what is in the list with a higher number comes after it
pub at_behind : {k at r b t : ℕ} {xs es : List Event} {e y : Event} → Splits k at xs r b e es → At (r + 1) es t y → At k xs t y
at_behind splits_here p = at_later p
at_behind (splits_later s) p = at_later (at_behind s p)

pub at_ahead : {k at r b t : ℕ} {xs es : List Event} {e y : Event} → Splits k at xs r b e es → At k xs t y → r < t → At (r + 1) es t y
at_ahead splits_here at_here h = absurd (omega arith)
at_ahead splits_here (at_later p) h = p
at_ahead (splits_later s) at_here h = absurd (omega (arith, splits_from s))
at_ahead (splits_later s) (at_later p) h = at_ahead s p h

-- the first record of a chain is in it
pub record Member (c k r : ℕ) (es : List Event) : Type 0 where
  pub event : Event
  pub at : At k es r event
  pub alive : event.alive ≡ true
  pub chain : event.chain ≡ c

pub first_member : (c k : ℕ) (es : List Event) → (first c k es ≡ 0 → ⊥) → Member c k (first c k es) es
unfolding first
first_member c k [] n = absurd (n refl)
first_member c k (x ∷ es) n =
    by_test (in_chain c x)
    (λ t.
    let q = both x.alive (eqb x.chain c) t in
    rw t (record { event = x; at = at_here; alive = q.0; chain = eqb-true x.chain c q.1 }))
    (λ t.
    let m = first_member c (k + 1) es (λ z. n (rw t z)) in
    rw t (record { event = m.event; at = at_later m.at; alive = m.alive; chain = m.chain }))

-- and no other is before it
pub in_chain_lem : (c : ℕ) (e : Event) → e.alive ≡ true → e.chain ≡ c → in_chain c e ≡ true
in_chain_lem c e a q = rw (a, q) (eq-eqb c c refl)

pub first_least : (c : ℕ) {k r : ℕ} {es : List Event} {e : Event} → At k es r e → in_chain c e ≡ true → first c k es ≤ r
unfolding first
first_least c (at_here {e = e}) t = rw t (omega arith)
first_least c (at_later {x = x} p) t =
    by_test (in_chain c x)
    (λ u. rw u (omega (arith, at_from p)))
    (λ u. rw u (first_least c p t))

pub first_some : (c : ℕ) {k r : ℕ} {es : List Event} {e : Event} → At k es r e → in_chain c e ≡ true → 0 < k → 0 < first c k es
unfolding first
first_some c (at_here {e = e}) t h = rw t h
first_some c (at_later {x = x} p) t h =
    by_test (in_chain c x)
    (λ u. rw u h)
    (λ u. rw u (first_some c p t (omega arith)))

-- t is the first record of chain c from number i on
pub record Leads (es : List Event) (i c t : ℕ) : Type 0 where
  pub event : Event
  pub there : There es t event
  pub chain : event.chain ≡ c
  pub from : i ≤ t
  pub least : (j : ℕ) (z : Event) → There es j z → z.chain ≡ c → i ≤ j → t ≤ j

-- from the start
pub leads_first : (es : List Event) (c : ℕ) → (first c 1 es ≡ 0 → ⊥) → Leads es 1 c (first c 1 es)
leads_first es c n =
    let m = first_member c 1 es n in
    record {
      event = m.event;
      there = record { at = m.at; alive = m.alive };
      chain = m.chain;
      from = at_from m.at;
      least = λ j z h q l. first_least c h.at (in_chain_lem c z h.alive q);
    }

-- behind a record
pub leads_next : {es later : List Event} {r b : ℕ} {e : Event} → Splits 1 0 es r b e later → (c : ℕ) → (first c (r + 1) later ≡ 0 → ⊥)
    → Leads es (r + 1) c (first c (r + 1) later)
leads_next {later = later} {r} s c n =
    let m = first_member c (r + 1) later n in
    record {
      event = m.event;
      there = record { at = at_behind s m.at; alive = m.alive };
      chain = m.chain;
      from = at_from m.at;
      least = λ j z h q l. first_least c (at_ahead s h.at (omega arith)) (in_chain_lem c z h.alive q);
    }
