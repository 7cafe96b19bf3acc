-- A body dropped, one record after the other from its first on: nothing leads to a record when its turn comes.
use Prim.Native.Nat.{ℕ, zero, suc, ◌+◌, ◌*◌, ◌-◌, ◌≤◌, ◌<◌}
use mathlib.Core.Path.{◌≡◌, refl, sym, ap, ◌∙◌}
use mathlib.Core.Bool.{Bool, true, false}
use mathlib.Core.List.{List, [], ◌∷◌, ◌++◌, append-nil}
use native.Mathlib.Omega.{arith}
use borrow.Author.Tests.{le-leb, lt-leb, leb-true}
use lib.Dec.{leb}
use lib.ListN.{length, replicate, length-replicate, length-append, take, take-append-drop, drop_of_length-le}
use lib.Seq.{take_all, take_at, drop_at, append_snoc}
use Rattle.paths_numbers.specs.meaning.Text.{written}
use Rattle.paths_numbers.proofs.Texts.{by_test, cond_in}
use Rattle.paths_numbers.proofs.Written.{written_length}
use Rattle.definition_log.specs.meaning.Record.{out_field, kind_of}
use Rattle.making.specs.machine.Events.{Event, children_of, words16, bytes_in, words_from, all_words}
use Rattle.making.specs.machine.Buffers.{Layout}
use Rattle.making.specs.machine.Removed.{dead, cleared_text, cleared_texts, cleared_words}
use Rattle.making.specs.machine.Dropped.{stays_kind, after_drop, dropped, dropped_to, Quiet, quiet_next, Body, dropped_words}
use Rattle.making.specs.machine.Dropped.{dropped_bytes}
use Rattle.making.proofs.Append.{length_words}
use Rattle.making.proofs.Make.{length_from}
use Rattle.making.proofs.Unlinked.{first_apart, written_after, written_front, written_before, dead_words}
use Rattle.making.proofs.Removing.{bytes_left, layout_left, in_words, field}

-- a record that leads nowhere near the one taken out keeps its words
quiet_words : (e : Event) (ys : List Event) (k at : ℕ) (x : Event) (xs : List Event)
    → (x.alive ≡ true → (x.chain ≡ e.chain → ⊥) × (e.chain ≡ children_of k → ⊥))
    → words16 k at x (xs ++ dead e ∷ ys) ≡ words16 k at x (xs ++ e ∷ ys)
unfolding words16
quiet_words e ys k at x xs f =
    by_test x.alive
    (λ t.
    let h = f t in
    rw (t, first_apart e ys x.chain (k + 1) xs (λ z. h.0 (sym z)), first_apart e ys (children_of k) (k + 1) xs h.1) refl)
    (λ t. rw t refl)

-- a record that nothing leads to is taken out: the words of the others stay
module _ (e : Event) (ys : List Event) where
  words_dropped : (k at : ℕ) (xs : List Event) → Quiet e.chain k xs
      → words_from k at (xs ++ dead e ∷ ys) ≡ written (words_from k at (xs ++ e ∷ ys)) (length xs * 16) (replicate 16 0)
  unfolding words_from
  words_dropped k at [] q =
      let W = words_from (k + 1) (at + bytes_in e) ys in
      ap (λ (s : List ℕ). s ++ W) (dead_words k at e ys) ∙ written_front (words16 k at e ys) W (replicate 16 0) (length_words k at e ys)
  words_dropped k at (x ∷ xs) (quiet_next f q) =
      let W = words_from (k + 1) (at + bytes_in x) (xs ++ e ∷ ys) in
      let ix : suc (length xs) * 16 ≡ length (words16 k at x (xs ++ e ∷ ys)) + length xs * 16 = omega
      (arith, length_words k at x (xs ++ e ∷ ys)) in
      rw (
        ix,
        words_dropped (k + 1) (at + bytes_in x) xs q,
        written_after (words16 k at x (xs ++ e ∷ ys)) W (replicate 16 0)
            (length xs * 16),
      )
      (ap (λ (s : List ℕ). s ++ written W (length xs * 16) (replicate 16 0)) (quiet_words e ys k at x xs f))

-- all words
all_dropped : (head : List ℕ) → length head ≡ 16 → (xs : List Event) (e : Event) (ys : List Event) (room : ℕ) → Quiet e.chain 1 xs
    → all_words head (xs ++ dead e ∷ ys) room ≡ written (all_words head (xs ++ e ∷ ys) room) ((1 + length xs) * 16) (replicate 16 0)
unfolding all_words
all_dropped head sixteen xs e ys room q =
    let z = replicate {A = ℕ} 16 0 in
    let Z = replicate {A = ℕ} room 0 in
    let W = words_from 1 0 (xs ++ e ∷ ys) in
    let at : (1 + length xs) * 16 ≡ length head + length xs * 16 = omega arith in
    let lw : length W ≡ (length xs + suc (length ys)) * 16 = length_from 1 0 (xs ++ e ∷ ys)
    ∙ ap (λ (i : ℕ). i * 16) (length-append xs (e ∷ ys)) in
    rw (
      words_dropped e ys 1 0 xs q,
      at,
      written_after head (W ++ Z) z (length xs * 16),
      written_before W Z z (length xs * 16)
          (omega arith),
    ) refl

-- a record that is not there is as it was
abbrev marked : Bool → Event → Event
marked t e =
    record {
      chain = e.chain;
      kind = e.kind;
      text = e.text;
      second = e.second;
      n = e.n;
      m = e.m;
      from = e.from;
      to = e.to;
      name_from = e.name_from;
      name_to = e.name_to;
      log = e.log;
      alive = t;
    }

dead_same : (e : Event) → e.alive ≡ false → dead e ≡ e
dead_same e q = ap (λ (t : Bool). marked t e) (sym q)

-- what the words say of its kind
module _ {words bytes : List ℕ} {records used : ℕ} (xs : List Event) (e : Event) (ys : List Event)
    (l : Layout words bytes records used (xs ++ e ∷ ys)) where
  kind_there : e.alive ≡ true → kind_of words (1 + length xs) ≡ e.kind
  unfolding words16 out_field
  kind_there t = field xs e ys l 0 (omega arith) ∙ rw t refl

  kind_gone : e.alive ≡ false → kind_of words (1 + length xs) ≡ 0
  unfolding words16 out_field
  kind_gone t = field xs e ys l 0 (omega arith) ∙ rw t refl

  -- one record of the body
  drop_one : e.alive ≡ true → Quiet e.chain 1 xs
      → Layout (cleared_words words (1 + length xs)) (cleared_texts words bytes (1 + length xs)) records used (xs ++ dead e ∷ ys)
  unfolding cleared_words
  drop_one t q =
      layout_left xs e ys l _ _
      (rw (le-leb ((1 + length xs) * 16 + 16) (length words) (in_words xs e ys l))
      (ap (λ (w : List ℕ). written w ((1 + length xs) * 16) (replicate 16 0)) l.words_are
      ∙ sym (all_dropped (replicate 16 0) refl xs e ys (length words - (1 + length (xs ++ e ∷ ys)) * 16) q)))
      (bytes_left xs e ys l t)

  pub drop_step : (mark : ℕ) → mark ≤ 1 + length xs → (stays_kind e.kind ≡ false → Quiet e.chain 1 xs)
      → Layout (dropped_words words (1 + length xs)) (dropped_bytes words bytes (1 + length xs)) records used
      (xs ++ after_drop mark (1 + length xs) e ∷ ys)
  unfolding dropped_words dropped_bytes after_drop
  drop_step mark h q =
      by_test e.alive
      (λ t.
      by_test (stays_kind e.kind)
      (λ u. rw (kind_there t, le-leb mark (1 + length xs) h, u) l)
      (λ u. rw (kind_there t, le-leb mark (1 + length xs) h, u) (drop_one t (q u))))
      (λ t.
      by_test (stays_kind e.kind)
      (λ u. rw (kind_gone t, le-leb mark (1 + length xs) h, u) l)
      (λ u. rw (kind_gone t, le-leb mark (1 + length xs) h, u, dead_same e t) l))

-- a list cut at an index
record Cut (i : ℕ) (es : List Event) : Type 0 where
  before : List Event
  event : Event
  behind : List Event
  is : es ≡ before ++ event ∷ behind
  size : length before ≡ i

cut : (i : ℕ) (es : List Event) → i < length es → Cut i es
cut i [] h = absurd (omega arith)
cut zero (e ∷ es) h = record { before = []; event = e; behind = es; is = refl; size = refl }
cut (suc i) (e ∷ es) h =
    let k = cut i es (omega arith) in
    record {
      before = e ∷ k.before;
      event = k.event;
      behind = k.behind;
      is = ap (λ (l : List Event). e ∷ l) k.is;
      size = ap suc
          k.size;
    }

-- the drop keeps the count, goes record by record, and leaves what is before the mark
length_dropped : (mark k : ℕ) (xs : List Event) → length (dropped mark k xs) ≡ length xs
unfolding dropped
length_dropped mark k [] = refl
length_dropped mark k (x ∷ xs) = ap suc (length_dropped mark (k + 1) xs)

dropped_more : (mark k : ℕ) (xs : List Event) (e : Event) → dropped mark k (xs ++ e ∷ []) ≡ dropped mark k xs ++ after_drop mark
    (k + length xs) e ∷ []
unfolding dropped
dropped_more mark k [] e = let z : k + 0 ≡ k = omega arith in rw z refl
dropped_more mark k (x ∷ xs) e =
    let z : k + suc (length xs) ≡ k + 1 + length xs = omega arith in
    rw (z, dropped_more mark (k + 1) xs e) refl

pub dropped_low : (mark k : ℕ) (xs : List Event) → k + length xs ≤ mark → dropped mark k xs ≡ xs
unfolding dropped after_drop
dropped_low mark k [] h = refl
dropped_low mark k (x ∷ xs) h = rw (lt-leb mark k (omega arith), dropped_low mark (k + 1) xs (omega arith)) refl

take_most : (n : ℕ) (es : List Event) → length (take n es) ≤ n
take_most zero es = omega arith
take_most (suc n) [] = omega arith
take_most (suc n) (e ∷ es) = omega (arith, take_most n es)

-- at the start, one record more, and at the end
pub drop_start : (mark : ℕ) (es : List Event) → 1 ≤ mark → dropped_to mark mark es ≡ es
drop_start mark es h =
    rw (dropped_low mark 1 (take (mark - 1) es) (omega (arith, take_most (mark - 1) es))) (take-append-drop (mark - 1) es)

pub drop_end : (mark r : ℕ) (es : List Event) → 1 + length es ≤ r → dropped_to mark r es ≡ dropped mark 1 es
drop_end mark r es h =
    let k : length es ≤ r - 1 = omega arith in
    rw (take_all (r - 1) es k, drop_of_length-le es k) (append-nil (dropped mark 1 es))

module _ (mark : ℕ) (xs : List Event) (e : Event) (ys : List Event) where
  at_record : dropped_to mark (1 + length xs) (xs ++ e ∷ ys) ≡ dropped mark 1 xs ++ e ∷ ys
  at_record =
      let i : 1 + length xs - 1 ≡ length xs = omega arith in
      rw (i, take_at xs (e ∷ ys) (length xs) refl, drop_at xs (e ∷ ys) (length xs) refl) refl

  behind_record : dropped_to mark (1 + length xs + 1) (xs ++ e ∷ ys) ≡ dropped mark 1 xs ++ after_drop mark (1 + length xs) e ∷ ys
  behind_record =
      let i : 1 + length xs + 1 - 1 ≡ length (xs ++ e ∷ []) = omega (arith, length-append xs (e ∷ [])) in
      rw (
        i,
        ← append_snoc xs e ys,
        take_at (xs ++ e ∷ []) ys (length (xs ++ e ∷ [])) refl,
        drop_at (xs ++ e ∷ []) ys
            (length (xs ++ e ∷ [])) refl,
        dropped_more mark 1 xs e,
      )
      (append_snoc (dropped mark 1 xs) (after_drop mark (1 + length xs) e) ys)

  next_record : {words bytes : List ℕ} {records used : ℕ} → mark ≤ 1 + length xs → Body mark (xs ++ e ∷ ys)
      → Layout words bytes records used (dropped_to mark (1 + length xs) (xs ++ e ∷ ys))
      → Layout (dropped_words words (1 + length xs)) (dropped_bytes words bytes (1 + length xs)) records used
      (dropped_to mark (1 + length xs + 1) (xs ++ e ∷ ys))
  next_record h body l =
      let n : length xs ≡ length (dropped mark 1 xs) = sym (length_dropped mark 1 xs) in
      rw behind_record
      (step (1 + length xs) (ap (λ (i : ℕ). 1 + i) n) h (body.quiet xs e ys refl h) (rw at_record at l))
    where
      step : {words bytes : List ℕ} {records used : ℕ} (r : ℕ) → r ≡ 1 + length (dropped mark 1 xs) → mark ≤ r
          → (stays_kind e.kind ≡ false → Quiet e.chain 1 (dropped mark 1 xs))
          → Layout words bytes records used (dropped mark 1 xs ++ e ∷ ys)
          → Layout (dropped_words words r) (dropped_bytes words bytes r) records used (dropped mark 1 xs ++ after_drop mark r e ∷ ys)
      step r q h u l = rw q (drop_step (dropped mark 1 xs) e ys l mark (rw q at h) u)

pub drop_next : {words bytes : List ℕ} {records used : ℕ} (mark r : ℕ) (es : List Event) → 1 ≤ mark → mark ≤ r → r < 1 + length es
    → Body mark es
    → Layout words bytes records used (dropped_to mark r es) → Layout (dropped_words words r) (dropped_bytes words bytes r) records used
    (dropped_to mark (r + 1) es)
drop_next mark r es p h lt body l =
    let k = cut (r - 1) es (omega arith) in
    go k.before k.event k.behind k.is (omega (arith, k.size)) h body l
  where
    go : {words bytes : List ℕ} {records used r : ℕ} {es : List Event} (xs : List Event) (e : Event) (ys : List Event) → es ≡ xs ++ e ∷ ys
        → r ≡ 1 + length xs → mark ≤ r → Body mark es
        → Layout words bytes records used (dropped_to mark r es)
        → Layout (dropped_words words r) (dropped_bytes words bytes r) records used (dropped_to mark (r + 1) es)
    go xs e ys q n h body l = rw (q, n) (next_record mark xs e ys (rw n at h) (rw q at body) (rw (q, n) at l))

-- the buffers keep their lengths
pub length_words_left : (words : List ℕ) (r : ℕ) → length (dropped_words words r) ≡ length words
unfolding dropped_words cleared_words
length_words_left words r =
    cond_in (λ (w : List ℕ). length w ≡ length words) (stays_kind (kind_of words r)) refl
    (by_test (leb (r * 16 + 16) (length words))
    (λ t. rw t (written_length words (r * 16) (replicate 16 0) (leb-true _ _ t)))
    (λ t. rw t refl))

cleared_length : (bytes : List ℕ) (start size : ℕ) → length (cleared_text bytes start size) ≡ length bytes
unfolding cleared_text
cleared_length bytes start size =
    by_test (leb (start + size) (length bytes))
    (λ t. rw t (written_length bytes start (replicate size 0) (rw (length-replicate {A = ℕ} size 0) (leb-true _ _ t))))
    (λ t. rw t refl)

pub length_bytes_left : (words bytes : List ℕ) (r : ℕ) → length (dropped_bytes words bytes r) ≡ length bytes
unfolding dropped_bytes cleared_texts
length_bytes_left words bytes r =
    cond_in (λ (b : List ℕ). length b ≡ length bytes) (stays_kind (kind_of words r)) refl (cleared_length _ _ _ ∙ cleared_length bytes _ _)
