-- No two links of a complete log in the making lead to one record: so none is reached twice.
use Prim.Native.Nat.{ℕ, zero, suc, ◌+◌, ◌≤◌, ◌<◌}
use mathlib.Core.Path.{◌≡◌, refl, sym, ap, ◌∙◌}
use mathlib.Core.Bool.{Bool, true, false, cond}
use mathlib.Core.List.{List, []}
use native.Mathlib.Omega.{arith}
use borrow.Author.Tests.{eqb-true, eqb-false, ltb-true, ltb-false}
use lib.Dec.{eqb, ltb}
use lib.ListN.{length}
use Rattle.paths_numbers.proofs.Texts.{by_test}
use Rattle.definition_log.specs.meaning.Record.{kind_of, next_of, child_of, m_of, extension_kind, log_count, leads}
use Rattle.definition_log.specs.meaning.Sound.{times, head_links, followed, times_reached}
use Rattle.making.specs.machine.Events.{Event, defs_of, children_of, first, all_words, Ordered}
use Rattle.making.specs.machine.Whole.{There, Whole}
use Rattle.making.specs.machine.Finished.{head_in}
use Rattle.definition_log.proofs.Walk.{to_of, outs, leads_below, from_new, new_none, new_most, count_followed}
use Rattle.definition_log.proofs.Reached.{times_outs, times_heads}
use Rattle.making.proofs.FirstOf.{at_from, at_same, Leads, leads_first}
use Rattle.making.proofs.Standing.{extends}
use Rattle.making.proofs.LogLinks.{kind_is, head_def_lem, head_ext_lem, head_bind_lem, head_diag_lem, head_post_lem, link_next, link_child}
use Rattle.making.proofs.LogLinks.{link_body}
use Rattle.making.proofs.LogLinks.{reached_there}

-- a link to t: the record that has it, 0 for record 0, and which of its links it is
pub data Into (es : List Event) (t : ℕ) : ℕ → ℕ → Type 0 where
  into_head : {c : ℕ} → c ≤ 4 → Leads es 1 c t → Into es t 0 c
  into_next : {a : ℕ} {x : Event} → There es a x → Leads es (a + 1) x.chain t → Into es t a 5
  into_child : {a : ℕ} {x : Event} → There es a x → Leads es 1 (children_of a) t → Into es t a 6
  into_body : {a : ℕ} {x : Event} → There es a x → x.kind ≡ extension_kind → (x.log ≡ 0 → ⊥) → Leads es 1 (defs_of x.log) t
      → Into es t a 7

-- t is in one chain
same_chain : {es : List Event} {i j c d t : ℕ} → Leads es i c t → Leads es j d t → c ≡ d
same_chain l m = sym l.chain ∙ ap (λ (e : Event). e.chain) (at_same l.there.at m.there.at) ∙ m.chain

-- the first record of a chain is behind none of it
not_behind : {es : List Event} {a c t : ℕ} {x : Event} → There es a x → Leads es (a + 1) x.chain t → Leads es 1 c t → ⊥
not_behind {a = a} {x = x} h l m = omega (arith, l.from, m.least a x h (same_chain l m) (at_from h.at))

-- behind two records
same_next : {es : List Event} {a b t : ℕ} {x y : Event} → There es a x → There es b y → Leads es (a + 1) x.chain t
    → Leads es (b + 1) y.chain t → a ≡ b
same_next {a = a} {b} {x = x} {y} h k l m =
    by_test (eqb a b)
    (λ t. eqb-true a b t)
    (λ t.
    let n = eqb-false a b t in
    by_test (ltb a b)
    (λ u. absurd (omega (arith, m.from, ltb-true a b u, l.least b y k (sym (same_chain l m)) (omega (arith, ltb-true a b u)))))
    (λ u. absurd (omega (arith, l.from, ltb-false a b u, m.least a x h (same_chain l m) (omega (arith, ltb-false a b u))))))

-- one link alone leads to t
pub into_same : {es : List Event} {t a b i j : ℕ} → Whole es → Into es t a i → Into es t b j → (a ≡ b) × (i ≡ j)
into_same w (into_head p l) (into_head q m) = (refl, same_chain l m)
into_same w (into_head p l) (into_next h m) = absurd (not_behind h m l)
into_same w (into_head p l) (into_child h m) = absurd (omega (arith, same_chain l m))
into_same w (into_head p l) (into_body h q n m) = absurd (n (omega (arith, same_chain l m)))
into_same w (into_next h l) (into_head q m) = absurd (not_behind h l m)
into_same w (into_next h l) (into_next k m) = (same_next h k l m, refl)
into_same w (into_next h l) (into_child k m) = absurd (not_behind h l m)
into_same w (into_next h l) (into_body k q n m) = absurd (not_behind h l m)
into_same w (into_child h l) (into_head q m) = absurd (omega (arith, same_chain l m))
into_same w (into_child h l) (into_next k m) = absurd (not_behind k m l)
into_same w (into_child h l) (into_child k m) = (omega (arith, same_chain l m), refl)
into_same w (into_child h l) (into_body k q n m) = absurd (omega (arith, same_chain l m))
into_same w (into_body h p n l) (into_head q m) = absurd (n (omega (arith, same_chain l m)))
into_same w (into_body h p n l) (into_next k m) = absurd (not_behind k m l)
into_same w (into_body h p n l) (into_child k m) = absurd (omega (arith, same_chain l m))
into_same w (into_body {a} {x = x} h p n l) (into_body {a = b} {x = y} k q o m) = (
  w.making.apart a b x y h k p q
      (omega (arith, same_chain l m)),
  refl,
)

-- a word that leads to t, once
to_most : (words : List ℕ) (r t : ℕ) → times t (to_of words r) ≤ 1
unfolding times
to_most words r t =
    by_test (leads words r) (λ e. by_test (eqb r t) (λ q. rw (e, q) (omega arith)) (λ q. rw (e, q) (omega arith))) (λ e. rw e (omega arith))

led_by : (words : List ℕ) (r t : ℕ) → 1 ≤ times t (to_of words r) → (r ≡ t) × (leads words r ≡ true)
unfolding times
led_by words r t h =
    by_test (leads words r)
    (λ e. by_test (eqb r t) (λ q. (eqb-true r t q, e)) (λ q. absurd (omega (arith, rw (e, q) at h))))
    (λ e. absurd (omega (arith, rw e at h)))

-- links where a test holds
if_most : (b : Bool) (t : ℕ) (l : List ℕ) → times t l ≤ 1 → times t (cond b l []) ≤ 1
unfolding times
if_most true t l h = h
if_most false t l h = omega arith

if_some : (b : Bool) (t : ℕ) (l : List ℕ) → 1 ≤ times t (cond b l []) → (b ≡ true) × (1 ≤ times t l)
unfolding times
if_some true t l h = (refl, h)
if_some false t l h = absurd (omega arith)

-- several counts of which no two are there at once
unfoldable sum_to : ℕ → (ℕ → ℕ) → ℕ
sum_to zero f = 0
sum_to (suc n) f = sum_to n f + f n

record Some (n : ℕ) (f : ℕ → ℕ) : Type 0 where
  index : ℕ
  inside : index < n
  there : 1 ≤ f index

some_of : (n : ℕ) (f : ℕ → ℕ) → 1 ≤ sum_to n f → Some n f
unfolding sum_to
some_of zero f h = absurd (omega arith)
some_of (suc n) f h =
    by_test (eqb (f n) 0)
    (λ t. let s = some_of n f (omega (arith, eqb-true (f n) 0 t)) in record
    { index = s.index; inside = omega (arith, s.inside); there = s.there })
    (λ t. record { index = n; inside = omega arith; there = omega (arith, eqb-false (f n) 0 t) })

sum_most : (n : ℕ) (f : ℕ → ℕ) → ((i : ℕ) → i < n → f i ≤ 1) → ((i j : ℕ) → i < n → j < n → 1 ≤ f i → 1 ≤ f j → i ≡ j) → sum_to n f ≤ 1
unfolding sum_to
sum_most zero f one same = omega arith
sum_most (suc n) f one same =
    let ih = sum_most n f (λ i h. one i (omega arith)) (λ i j h k. same i j (omega arith) (omega arith)) in
    by_test (eqb (sum_to n f) 0)
    (λ t. omega (arith, eqb-true (sum_to n f) 0 t, one n (omega arith)))
    (λ t.
    let s = some_of n f (omega (arith, eqb-false (sum_to n f) 0 t)) in
    by_test (eqb (f n) 0)
    (λ u. omega (arith, ih, eqb-true (f n) 0 u))
    (λ u. absurd (omega (
      arith,
      s.inside,
      same s.index n (omega (arith, s.inside)) (omega arith) s.there
          (omega (arith, eqb-false (f n) 0 u)),
    ))))

module _ (es : List Event) (records used room : ℕ) (fits : 1 + length es ≤ log_count (all_words (head_in records used es) es room))
    (ordered : Ordered 1 es) (whole : Whole es) where
  abbrev words : List ℕ
  words = all_words (head_in records used es) es room

  -- record 0's links, by the number of their chain
  abbrev from_head : ℕ → ℕ → ℕ
  from_head t c = times t (to_of words (first c 1 es))

  sum_heads : (t : ℕ) → times_reached (head_links words) t ≡ sum_to 5 (from_head t)
  unfolding sum_to
  sum_heads t =
      times_heads words t
      ∙ rw (
        head_def_lem es records used room fits ordered whole,
        head_ext_lem es records used room fits ordered whole,
        head_bind_lem es records used
            room fits ordered whole,
        head_diag_lem es records used room fits ordered whole,
        head_post_lem es records used room fits ordered whole,
      )
      (omega arith)

  head_into : (t c : ℕ) → c < 5 → 1 ≤ from_head t c → Into es t 0 c
  head_into t c h k =
      let q = led_by words (first c 1 es) t k in
      into_head {c = c} (omega arith) (rw q.0 at (leads_first es c (λ z. omega (arith, (leads_below words (first c 1 es) q.1).0))))

  heads_most : (t : ℕ) → times_reached (head_links words) t ≤ 1
  heads_most t =
      rw (sum_heads t)
      (sum_most 5 (from_head t) (λ i h. to_most words (first i 1 es) t)
      (λ i j h k m n. (into_same whole (head_into t i h m) (head_into t j k n)).1))

  -- the links of a record, by their slots
  module _ {a : ℕ} {x : Event} (h : There es a x) (t : ℕ) where
    abbrev from_slot : ℕ → ℕ
    from_slot zero = times t (to_of words (next_of words a))
    from_slot (suc zero) = times t (to_of words (child_of words a))
    from_slot (suc (suc n)) = times t (cond (eqb (kind_of words a) extension_kind) (to_of words (m_of words a)) [])

    sum_outs : times t (outs words a) ≡ sum_to 3 from_slot
    unfolding sum_to
    sum_outs = times_outs words a t ∙ omega arith

    next_into : 1 ≤ from_slot 0 → Into es t a 5
    next_into k =
        let q = led_by words (next_of words a) t k in
        into_next h (rw q.0 at (link_next es records used room fits ordered whole h q.1))

    child_into : 1 ≤ from_slot 1 → Into es t a 6
    child_into k =
        let q = led_by words (child_of words a) t k in
        into_child h (rw q.0 at (link_child es records used room fits ordered whole h q.1))

    body_into : 1 ≤ from_slot 2 → Into es t a 7
    body_into k =
        let i = if_some (eqb (kind_of words a) extension_kind) t (to_of words (m_of words a)) k in
        let e : kind_of words a ≡ extension_kind = eqb-true (kind_of words a) extension_kind i.0 in
        let q = led_by words (m_of words a) t i.1 in
        let d = sym (kind_is es records used room fits ordered whole h) ∙ e in
        into_body h d (extends (whole.making.stands a x h) d).own
        (rw q.0 at (link_body es records used room fits ordered whole h e q.1))

    slot_into : (i : ℕ) → i < 3 → 1 ≤ from_slot i → Into es t a (5 + i)
    slot_into zero l k = next_into k
    slot_into (suc zero) l k = child_into k
    slot_into (suc (suc zero)) l k = body_into k
    slot_into (suc (suc (suc n))) l k = absurd (omega arith)

    slot_most : (i : ℕ) → i < 3 → from_slot i ≤ 1
    slot_most zero l = to_most words (next_of words a) t
    slot_most (suc zero) l = to_most words (child_of words a) t
    slot_most (suc (suc n)) l = if_most (eqb (kind_of words a) extension_kind) t (to_of words (m_of words a)) (to_most words (m_of words a) t)

    outs_most : times t (outs words a) ≤ 1
    outs_most =
        rw sum_outs
        (sum_most 3 from_slot slot_most
        (λ i j l m k n. omega (arith, (into_same whole (slot_into i l k) (slot_into j m n)).1)))

    record IntoBy : Type 0 where
      slot : ℕ
      into : Into es t a slot

    outs_into : 1 ≤ times t (outs words a) → IntoBy
    outs_into k =
        let s = some_of 3 from_slot (rw sum_outs at k) in
        record { slot = 5 + s.index; into = slot_into s.index s.inside s.there }

  -- no record is reached twice
  pub led_once : (t : ℕ) → times_reached (followed words) t ≤ 1
  led_once t =
      let there = reached_there es records used room fits ordered whole in
      by_test (eqb (times_reached (head_links words) t) 0)
      (λ z.
      let most : from_new words [] (followed words) t ≤ 1 =
      new_most words [] (followed words) t
      (λ a b h k m n. (into_same whole (outs_into (there a h).there t m).into (outs_into (there b k).there t n).into).0)
      (λ a h. outs_most (there a h).there t)
      in
      omega (arith, count_followed words t, eqb-true (times_reached (head_links words) t) 0 z, most))
      (λ z.
      let some : 1 ≤ times_reached (head_links words) t = omega (arith, eqb-false (times_reached (head_links words) t) 0 z) in
      let s = some_of 5 (from_head t) (rw (sum_heads t) at some) in
      let none : from_new words [] (followed words) t ≡ 0 =
      new_none words [] (followed words) t
      (λ a h n.
      by_test (eqb (times t (outs words a)) 0)
      (λ e. eqb-true (times t (outs words a)) 0 e)
      (λ e.
      let i = outs_into (there a h).there t (omega (arith, eqb-false (times t (outs words a)) 0 e)) in
      absurd (omega (arith, at_from (there a h).there.at, (into_same whole i.into (head_into t s.index s.inside s.there)).0))))
      in
      omega (arith, count_followed words t, heads_most t, none))
