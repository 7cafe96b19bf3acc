-- Chains of a log that keeps row 8's rules: they end at 0, no record stands twice in one, and a walk along one needs no bound.
use Prim.Native.Nat.{ℕ, zero, suc, ◌+◌, ◌≤◌, ◌<◌}
use mathlib.Core.Path.{◌≡◌, refl, sym, ap, ◌∙◌}
use mathlib.Core.Logic.{◌⊎◌, inl, inr}
use mathlib.Core.Bool.{true}
use mathlib.Core.List.{List, [], ◌∷◌}
use native.Mathlib.Omega.{arith}
use borrow.Author.Tests.{eq-eqb, eqb-true, eqb-false}
use lib.Dec.{eqb}
use lib.ListN.{length}
use Rattle.paths_numbers.proofs.Texts.{by_test}
use Rattle.definition_log.specs.meaning.Record.{kind_of, next_of, child_of, m_of, extension_kind, has_children, log_count, leads}
use Rattle.definition_log.specs.meaning.ReadBack.{chain_from, chain_of}
use Rattle.definition_log.specs.meaning.Sound.{Place, times, sound, lowest_fault, soundness}
use Rattle.definition_log.proofs.Counts.{times_same, times_more, unmet, unmet_le, unmet_new}
use Rattle.definition_log.proofs.Walk.{to_of, outs, outs_followed, two_followed}
use Rattle.definition_log.proofs.Reached.{Reached, EndOrReached, sound_rules, reached_leads, reached_inside, reached_once, next_reached}
use Rattle.definition_log.proofs.Reached.{child_reached, body_reached, times_to, times_outs, Head, head_led, head_reached}

-- a record that is next to no record that is reached: a chain starts there
abbrev pub Start : List ℕ → ℕ → Type 0
Start words t = (a : ℕ) → Reached words a → next_of words a ≡ t → ⊥

-- from t on, by next, past the records of the list (the last of them first), to r
pub data Passed (words : List ℕ) (t : ℕ) : List ℕ → ℕ → Type 0 where
  at-start : Passed words t [] t
  past : {v : List ℕ} {r s : ℕ} → Passed words t v r → Reached words r → s ≡ next_of words r → Passed words t (r ∷ v) s

-- the records of a list: from r on, each is reached and next to the one before it, and 0 is next to the last
pub data Chain (words : List ℕ) : ℕ → List ℕ → Type 0 where
  ends : {r : ℕ} → r ≡ 0 → Chain words r []
  goes_on_lem : {r : ℕ} {rs : List ℕ} → Reached words r → Chain words (next_of words r) rs → Chain words r (r ∷ rs)

-- a link that starts a chain: 0, or to a record that is reached by it and is next to none
pub data Starts (words : List ℕ) (t : ℕ) : Type 0 where
  empty : t ≡ 0 → Starts words t
  starts : Reached words t → Start words t → Starts words t

-- r is a link of the chain that starts at t, or ends it
pub data Along (words : List ℕ) (t r : ℕ) : Type 0 where
  ended : r ≡ 0 → Along words t r
  along : {v : List ℕ} → Start words t → Passed words t v r → Reached words r → Along words t r

-- a record that was passed, and is next to x
record Before (words v : List ℕ) (x : ℕ) : Type 0 where
  pub it : ℕ
  pub passed : 1 ≤ times it v
  pub reached : Reached words it
  pub next : next_of words it ≡ x

-- a chain from 0 on is empty
none_from : (left : ℕ) (words : List ℕ) → chain_from left words 0 ≡ []
unfolding chain_from
none_from zero words = refl
none_from (suc left) words = refl

-- one that starts at a record has it first
from_suc : (left : ℕ) (words : List ℕ) (r : ℕ) → leads words r ≡ true
    → chain_from (suc left) words r ≡ r ∷ chain_from left words (next_of words r)
unfolding chain_from
from_suc left words r e = rw e refl

-- a record leads to its next one
next_out_lem : (words : List ℕ) (a t : ℕ) → leads words t ≡ true → next_of words a ≡ t → 1 ≤ times t (outs words a)
next_out_lem words a t l e = omega (arith, rw e at (times_outs words a t), times_to words t l)

-- what was passed is the start, or next to what was passed before
before : {words : List ℕ} {t : ℕ} {v : List ℕ} {r : ℕ} → Passed words t v r → Reached words r → (x : ℕ) → 1 ≤ times x (r ∷ v)
    → (x ≡ t) ⊎ Before words v x
unfolding times
before {t = t} at-start h x k = by_test (eqb t x) (λ e. inl (sym (eqb-true t x e))) (λ e. absurd (omega (arith, rw e at k)))
before {words} {t} {r = r} (past {v} {r = q} p m e) h x k =
    by_test (eqb r x)
    (λ f. inr (record { it = q; passed = omega (arith, times_same q v); reached = m; next = sym e ∙ eqb-true r x f }))
    (λ f. go (before p m x (omega (arith, rw f at k))))
  where
    go : (x ≡ t) ⊎ Before words v x → (x ≡ t) ⊎ Before words (q ∷ v) x
    go (inl z) = inl z
    go (inr b) = inr (record {
      it = b.it;
      passed = omega (arith, b.passed, times_more q b.it v);
      reached = b.reached;
      next = b.next;
    })

module _ (words bytes : List ℕ) (ok : lowest_fault words bytes ≡ sound) where
  -- no two records that are reached have one next record
  next_one : (a b t : ℕ) → Reached words a → Reached words b → leads words t ≡ true → next_of words a ≡ t → next_of words b ≡ t → a ≡ b
  next_one a b t h k l e f =
      by_test (eqb a b)
      (eqb-true a b)
      (λ n.
      let two = two_followed words a b t (eqb-false a b n) h k in
      let x = next_out_lem words a t l e in
      let y = next_out_lem words b t l f in
      let once = reached_once words bytes ok t (omega arith) in
      absurd (omega arith))

  module _ (t : ℕ) (start : Start words t) where
    -- the record in hand was not passed
    new : {v : List ℕ} {r : ℕ} → Passed words t v r → Reached words r → times r v ≡ 0
    unfolding times
    new at-start h = refl
    new {r = r} (past {v} {r = q} p m e) h =
        by_test (eqb (times r (q ∷ v)) 0)
        (eqb-true (times r (q ∷ v)) 0)
        (λ n. absurd (go (new p m) (before p m r (pos (times r (q ∷ v)) (eqb-false (times r (q ∷ v)) 0 n)))))
      where
        pos : (k : ℕ) → (k ≡ 0 → ⊥) → 1 ≤ k
        pos k n = omega arith

        go : times q v ≡ 0 → (r ≡ t) ⊎ Before words v r → ⊥
        go old (inl z) = start q m (sym e ∙ z)
        go old (inr b) =
            let same = next_one b.it q r b.reached m (reached_leads words r h) b.next (sym e) in
            omega (arith, rw same at b.passed)

    -- no more records are passed than the log has
    bound : {v : List ℕ} {r : ℕ} → Passed words t v r → unmet (log_count words) v + length v ≤ log_count words
    bound at-start = omega (arith, unmet_le (log_count words) [])
    bound (past {v} {r = q} p m e) =
        omega (arith, bound p, unmet_new (log_count words) q v (reached_inside words q m).1 (new p m))

    -- a larger bound reads the same chain
    enough : (left : ℕ) {v : List ℕ} {r : ℕ} → Passed words t v r → EndOrReached words r → log_count words ≤ length v + left
        → chain_from left words r ≡ chain_from (suc left) words r
    unfolding chain_from
    enough zero p (inl z) k = rw z refl
    enough zero {v} {r} p (inr h) k = absurd (omega (arith, bound (past p h refl)))
    enough (suc left) p (inl z) k = rw z refl
    enough (suc left) {v} {r} p (inr h) k =
        rw (enough left (past p h refl) (next_reached words bytes ok r h) (omega arith)) refl

    -- every record but one at most is passed or to come
    once_in : {v : List ℕ} {r : ℕ} → Passed words t v r → (a : ℕ) → times a v ≤ 1
    unfolding times
    once_in at-start a = omega arith
    once_in (past {v} {r = q} p m e) a =
        by_test (eqb q a)
        (λ f. let z : times a v ≡ 0 = rw (eqb-true q a f) at (new p m) in rw f (omega arith))
        (λ f. rw f (omega (arith, once_in p a)))

    once_from : (left : ℕ) {v : List ℕ} {r : ℕ} → Passed words t v r → EndOrReached words r → (a : ℕ)
        → times a v + times a (chain_from left words r) ≤ 1
    unfolding chain_from times
    once_from zero p q a = omega (arith, once_in p a)
    once_from (suc left) p (inl z) a = rw z (omega (arith, once_in p a))
    once_from (suc left) {v} {r} p (inr h) a =
        rw (reached_leads words r h)
        (omega (arith, once_from left (past p h refl) (next_reached words bytes ok r h) a))

    chain_from_lem : (left : ℕ) {v : List ℕ} {r : ℕ} → Passed words t v r → EndOrReached words r → log_count words ≤ length v + left
        → Chain words r (chain_from left words r)
    unfolding chain_from
    chain_from_lem zero p (inl z) k = ends z
    chain_from_lem zero {v} {r} p (inr h) k = absurd (omega (arith, bound (past p h refl)))
    chain_from_lem (suc left) {v} {r} p (inl z) k = rw z (ends refl)
    chain_from_lem (suc left) {v} {r} p (inr h) k =
        rw (reached_leads words r h) (goes_on_lem h (chain_from_lem left (past p h refl) (next_reached words bytes ok r h) (omega arith)))

-- nothing comes behind the end
pub chain_end : (words : List ℕ) → chain_of words 0 ≡ []
unfolding chain_of
chain_end words = none_from (log_count words) words

module _ (words bytes : List ℕ) (ok : lowest_fault words bytes ≡ sound) where
  -- the chain that starts at a link: its records in order, up to the 0 that ends it
  pub chain_list : (t : ℕ) → Starts words t → Chain words t (chain_of words t)
  unfolding chain_of
  chain_list t (empty z) = rw (z, none_from (log_count words) words) (ends refl)
  chain_list t (starts h s) = chain_from_lem words bytes ok t s (log_count words) at-start (inr h) (omega arith)

  -- where it is empty, the link is 0
  pub chain_none : (t : ℕ) → Starts words t → chain_of words t ≡ [] → t ≡ 0
  chain_none t s e = go (chain_of words t) (chain_list t s) e
    where
      go : (l : List ℕ) → Chain words t l → l ≡ [] → t ≡ 0
      go l (ends z) f = z
      go l (goes_on_lem h c) f = let z : ◌≡◌ {A = ℕ} 0 1 = cc in absurd (omega arith)

  -- no record stands twice in it
  pub chain_once : (t : ℕ) → Starts words t → (a : ℕ) → times a (chain_of words t) ≤ 1
  unfolding chain_of times
  chain_once t (empty z) a = rw (z, none_from (log_count words) words) (omega arith)
  chain_once t (starts h s) a = omega (arith, once_from words bytes ok t s (log_count words) at-start (inr h) a)

  -- a walk along it: from its start on
  pub along_start : {t : ℕ} → Starts words t → Along words t t
  along_start (empty z) = ended z
  along_start (starts h s) = along s at-start h

  -- every link but the last is to a record that is reached
  pub along_reached : {t r : ℕ} → Along words t r → (r ≡ 0 → ⊥) → Reached words r
  along_reached (ended z) n = absurd (n z)
  along_reached (along s p h) n = h

  -- whose next link goes on
  pub along_next : {t r : ℕ} → Along words t r → (r ≡ 0 → ⊥) → Along words t (next_of words r)
  along_next (ended z) n = absurd (n z)
  along_next {t} {r} (along s p h) n = go (next_reached words bytes ok r h)
    where
      go : EndOrReached words (next_of words r) → Along words t (next_of words r)
      go (inl z) = ended z
      go (inr k) = along s (past p h refl) k

  -- and the chain from there on is the record and the chain from its next link on
  pub along_chain : {t r : ℕ} → Along words t r → (r ≡ 0 → ⊥) → chain_of words r ≡ r ∷ chain_of words (next_of words r)
  unfolding chain_of
  along_chain (ended z) n = absurd (n z)
  along_chain {t} {r} (along {v} s p h) n = go (log_count words) refl
    where
      go : (k : ℕ) → log_count words ≡ k → chain_from k words r ≡ r ∷ chain_from k words (next_of words r)
      go zero e = absurd (omega (arith, reached_inside words r h))
      go (suc k) e =
          from_suc k words r (reached_leads words r h)
          ∙ ap (λ (l : List ℕ). r ∷ l) (enough words bytes ok t s k (past p h refl) (next_reached words bytes ok r h) (omega arith))

  -- record 0's chains
  pub head_starts : {t : ℕ} {p : Place} → Head words t p → Starts words t
  head_starts {t} x = go (head_reached words bytes ok x)
    where
      go : EndOrReached words t → Starts words t
      go (inl z) = empty z
      go (inr h) =
          let l = reached_leads words t h in
          starts h
          (λ a k e. omega (arith, outs_followed words a t k, next_out_lem words a t l e, head_led x l, reached_once words bytes ok t h))

  -- a chain that a record starts by another link than its next
  below_starts : (r t : ℕ) → Reached words r → EndOrReached words t
      → (leads words t ≡ true → 1 + times t (to_of words (next_of words r)) ≤ times t (outs words r)) → Starts words t
  below_starts r t h (inl z) f = empty z
  below_starts r t h (inr k) f =
      let l = reached_leads words t k in
      let once = reached_once words bytes ok t k in
      starts k
      (λ a m e.
      by_test (eqb a r)
      (λ q.
      let g : times t (to_of words (next_of words r)) ≡ 1 = rw (sym (ap (next_of words) (eqb-true a r q)) ∙ e) (times_to words t l) in
      omega (arith, outs_followed words r t h, f l))
      (λ q. omega (arith, two_followed words a r t (eqb-false a r q) m h, next_out_lem words a t l e, f l)))

  -- its children
  pub child_starts : (r : ℕ) → Reached words r → has_children (kind_of words r) ≡ true → Starts words (child_of words r)
  child_starts r h c =
      below_starts r (child_of words r) h (child_reached words bytes ok r h c)
      (λ l. omega (arith, times_outs words r (child_of words r), times_to words (child_of words r) l))

  -- the body of an extension
  pub body_starts : (r : ℕ) → Reached words r → kind_of words r ≡ extension_kind → Starts words (m_of words r)
  body_starts r h k =
      let c : eqb (kind_of words r) extension_kind ≡ true = eq-eqb (kind_of words r) extension_kind k in
      below_starts r (m_of words r) h (body_reached words bytes ok r h k)
      (λ l. omega (arith, rw c at (times_outs words r (m_of words r)), times_to words (m_of words r) l))

-- the records of a chain are reached
chain_reached : {words : List ℕ} {t : ℕ} {rs : List ℕ} → Chain words t rs → (a : ℕ) → 1 ≤ times a rs → Reached words a
unfolding times
chain_reached (ends z) a h = absurd (omega arith)
chain_reached (goes_on_lem {r} k c) a h =
    by_test (eqb r a) (λ e. rw (eqb-true r a e) at k) (λ e. chain_reached c a (omega (arith, rw e at h)))

-- what a walk along a chain can count on: its records lie in the log, none is record 0 or stands twice in it, each is next to the one
-- before, and 0 ends it
pub record ChainReads (words : List ℕ) (t : ℕ) : Type 0 where
  pub inside : (a : ℕ) → 1 ≤ times a (chain_of words t) → (0 < a) × (a < log_count words)
  pub once : (a : ℕ) → times a (chain_of words t) ≤ 1
  pub ends : Chain words t (chain_of words t)

pub starts_reads : (words bytes : List ℕ) → lowest_fault words bytes ≡ sound → (t : ℕ) → Starts words t → ChainReads words t
starts_reads words bytes ok t s =
    record {
      inside = λ a h. reached_inside words a (chain_reached (chain_list words bytes ok t s) a h);
      once = chain_once words bytes ok t s;
      ends = chain_list words bytes ok t s;
    }

-- the five chains of record 0 in a log that row 8 passes
pub sound_reads : (words bytes : List ℕ) → soundness words bytes ≡ sound → {t : ℕ} {p : Place} → Head words t p → ChainReads words t
sound_reads words bytes e x =
    let ok = sound_rules words bytes e in
    starts_reads words bytes ok _ (head_starts words bytes ok x)
