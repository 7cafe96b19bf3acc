-- The texts of a complete log in the making share no byte, and words and bytes that no chain reaches are zero.
use Prim.Native.Nat.{ℕ, zero, suc, ◌+◌, ◌*◌, ◌-◌, ◌/◌, ◌%◌, ◌≤◌, ◌<◌}
use mathlib.Core.Path.{◌≡◌, refl, sym, ap, ◌∙◌}
use mathlib.Core.Bool.{false, cond}
use mathlib.Core.List.{List, [], ◌∷◌, ◌++◌, append_assoc}
use native.Mathlib.Omega.{arith}
use borrow.Author.Tests.{eq-eqb, eqb-true, le-leb, lt-leb, leb-false, lt-ltb, le-ltb, ltb-true, ltb-false}
use lib.Dec.{eqb, leb, ltb}
use lib.ListN.{length, get_or, replicate, length-append, get_or-append}
use lib.Seq.{get_or-append-add, get_or-drop}
use Rattle.paths_numbers.specs.meaning.Text.{is_empty}
use Rattle.paths_numbers.proofs.Texts.{by_test}
use Rattle.definition_log.specs.meaning.Record.{record_words, out_field, text_start, text_length, second_start, second_length, log_count}
use Rattle.definition_log.specs.meaning.Sound.{Link, targets, times, followed, times_reached, is_reached}
use Rattle.definition_log.specs.meaning.Written.{holds, holders_in, holders}
use Rattle.making.specs.machine.Events.{Event, start_of, words16, bytes_in, words_from, texts, end_of, all_words, all_bytes, Ordered}
use Rattle.making.specs.machine.Whole.{There, Whole}
use Rattle.making.specs.machine.Finished.{head_in}
use Rattle.making.proofs.Make.{length_from}
use Rattle.making.proofs.Layouts.{length_texts}
use Rattle.making.proofs.ReadEvents.{Splits, splits_here, splits_later, splits_at, field_at, piece, length_piece, bytes_at}
use Rattle.making.proofs.FirstOf.{found, split, splits_number, splits_start}
use Rattle.making.proofs.LogLinks.{sixteen, reached_there}
use Rattle.making.proofs.LedOnce.{led_once}
use Rattle.making.proofs.AllLed.{all_led}
use Rattle.making.proofs.WholeRules.{text_words, second_words}

-- whether a text holds a byte
held_in : (b n i : ℕ) → b ≤ i → i < b + n → holds b n i ≡ 1
held_in b n i h k = rw (le-leb b i h, lt-ltb i (b + n) k) refl

held_before : (b n i : ℕ) → i < b → holds b n i ≡ 0
held_before b n i h = rw (lt-leb b i h) refl

held_behind : (b n i : ℕ) → b + n ≤ i → holds b n i ≡ 0
held_behind b n i h = by_test (leb b i) (λ t. rw (t, le-ltb i (b + n) h) refl) (λ t. rw t refl)

-- an empty text holds none, wherever it starts
held_start : (b i : ℕ) (s : List ℕ) → holds (start_of b s) (length s) i ≡ holds b (length s) i
unfolding is_empty
held_start b i [] =
    held_behind 0 0 i (omega arith)
    ∙ sym (by_test (ltb i b) (λ t. held_before b 0 i (ltb-true i b t)) (λ t. held_behind b 0 i (omega (arith, ltb-false i b t))))
held_start b i (c ∷ s) = refl

-- two texts side by side
held_both : (b n m i : ℕ) → holds b n i + holds (b + n) m i ≡ holds b (n + m) i
held_both b n m i =
    by_test (ltb i b)
    (λ t.
    let l = ltb-true i b t in
    rw (held_before b n i l, held_before (b + n) m i (omega arith), held_before b (n + m) i l) refl)
    (λ t.
    let l = ltb-false i b t in
    by_test (ltb i (b + n))
    (λ u.
    let k = ltb-true i (b + n) u in
    rw (held_in b n i l k, held_before (b + n) m i k, held_in b (n + m) i l (omega arith)) refl)
    (λ u.
    let k = ltb-false i (b + n) u in
    by_test (ltb i (b + n + m))
    (λ v.
    let j = ltb-true i (b + n + m) v in
    rw (held_behind b n i k, held_in (b + n) m i k j, held_in b (n + m) i l (omega arith)) refl)
    (λ v.
    let j = ltb-false i (b + n + m) v in
    rw (held_behind b n i k, held_behind (b + n) m i j, held_behind b (n + m) i (omega arith)) refl)))

-- the record whose texts hold byte i, in a list whose texts start at `at`
unfoldable holder : ℕ → ℕ → ℕ → List Event → ℕ
holder i at k [] = 0
holder i at k (e ∷ es) = cond (ltb i (at + bytes_in e)) k (holder i (at + bytes_in e) (k + 1) es)

holder_is : (i : ℕ) {k at r b : ℕ} {xs es : List Event} {e : Event} → Splits k at xs r b e es → b ≤ i → i < b + bytes_in e
    → holder i at k xs ≡ r
unfolding holder
holder_is i {at = at} {e = e} splits_here h l = rw (lt-ltb i (at + bytes_in e) l) refl
holder_is i {at = at} (splits_later {x = x} s) h l = rw (le-ltb i (at + bytes_in x) (omega (arith, splits_at s))) (holder_is i s h l)

-- there is one below the end
record Held (i k at : ℕ) (xs : List Event) : Type 0 where
  number : ℕ
  start : ℕ
  event : Event
  later : List Event
  splits : Splits k at xs number start event later
  low : start ≤ i
  high : i < start + bytes_in event

held_by : (i k at : ℕ) (xs : List Event) → at ≤ i → i < end_of at xs → Held i k at xs
unfolding end_of
held_by i k at [] h l = absurd (omega arith)
held_by i k at (x ∷ xs) h l =
    by_test (ltb i (at + bytes_in x))
    (λ t. record { number = k; start = at; event = x; later = xs; splits = splits_here; low = h; high = ltb-true i (at + bytes_in x) t })
    (λ t.
    let f = held_by i (k + 1) (at + bytes_in x) xs (ltb-false i (at + bytes_in x) t) l in
    record {
      number = f.number;
      start = f.start;
      event = f.event;
      later = f.later;
      splits = splits_later f.splits;
      low = f.low;
      high = f.high;
    })

-- zeros
zeros_at : (n i : ℕ) → get_or (replicate {A = ℕ} n 0) i 0 ≡ 0
zeros_at zero i = refl
zeros_at (suc n) zero = refl
zeros_at (suc n) (suc i) = zeros_at n i

-- behind a list
pub behind_zero : (x : List ℕ) (n i : ℕ) → length x ≤ i → get_or (x ++ replicate n 0) i 0 ≡ 0
behind_zero x n i h =
    let e : i ≡ length x + (i - length x) = omega arith in
    rw e (get_or-append-add x (replicate n 0) (i - length x) 0 ∙ zeros_at n (i - length x))

-- a record that is no longer there has zeros
dead_word : (k at : ℕ) (e : Event) (es : List Event) (i : ℕ) → e.alive ≡ false → get_or (words16 k at e es) i 0 ≡ 0
unfolding words16
dead_word k at e es i t = rw t (zeros_at 16 i)

dead_byte : (e : Event) (i : ℕ) → e.alive ≡ false → get_or (piece e) i 0 ≡ 0
unfolding piece
dead_byte e i t = rw t (zeros_at (bytes_in e) i)

-- how many texts of record r hold byte i
abbrev own : List ℕ → ℕ → ℕ → ℕ
own words r i = holds (text_start words r) (text_length words r) i + holds (second_start words r) (second_length words r) i

-- a byte is held as often as a link leads to a record o, where no other holds it
most_held : (words : List ℕ) (ls : List Link) (i o : ℕ) → ((r : ℕ) → 1 ≤ times_reached ls r → own words r i ≤ cond (eqb r o) 1 0)
    → holders_in words ls i ≤ times_reached ls o
unfolding holders_in targets times
most_held words [] i o f = omega arith
most_held words (l ∷ ls) i o f =
    let ih = most_held words ls i o (λ r h. f r (omega arith)) in
    omega (arith, ih, f l.to (rw (eq-eqb l.to l.to refl) (omega arith)))

-- and at least as often as a record holds it that is reached
least_held : (words : List ℕ) (ls : List Link) (i r : ℕ) → 1 ≤ times_reached ls r → own words r i ≤ holders_in words ls i
unfolding holders_in targets times
least_held words [] i r h = absurd (omega arith)
least_held words (l ∷ ls) i r h =
    by_test (eqb l.to r)
    (λ t. rw (eqb-true l.to r t) (omega arith))
    (λ t. omega (arith, least_held words ls i r (omega (arith, rw t at h))))

module _ (es : List Event) (records used room more : ℕ) (fits : 1 + length es ≤ log_count (all_words (head_in records used es) es room))
    (ordered : Ordered 1 es) (whole : Whole es) where
  abbrev head : List ℕ
  head = head_in records used es

  abbrev words : List ℕ
  words = all_words head es room

  abbrev bytes : List ℕ
  bytes = all_bytes es more

  -- the bytes that a record holds
  own_is : {r : ℕ} {e : Event} (h : There es r e) (i : ℕ) → own words r i ≡ holds (split h.at 0).start (bytes_in e) i
  own_is {e = e} h i =
      let t = text_words es records used room more fits ordered whole h in
      let s = second_words es records used room more fits ordered whole h in
      let b = (split h.at 0).start in
      rw (t.0, t.1, s.0, s.1, held_start b i e.text, held_start (b + length e.text) i e.second)
      (held_both b (length e.text) (length e.second) i)

  own_most : (i r : ℕ) → 1 ≤ times_reached (followed words) r → own words r i ≤ cond (eqb r (holder i 0 1 es)) 1 0
  own_most i r k =
      let h = (reached_there es records used room fits ordered whole r k).there in
      let e = (reached_there es records used room fits ordered whole r k).event in
      let s = split h.at 0 in
      rw (own_is h i)
      (by_test (ltb i s.start)
      (λ t. rw (held_before s.start (bytes_in e) i (ltb-true i s.start t)) (omega arith))
      (λ t.
      let low = ltb-false i s.start t in
      by_test (ltb i (s.start + bytes_in e))
      (λ u.
      let high = ltb-true i (s.start + bytes_in e) u in
      rw (held_in s.start (bytes_in e) i low high, holder_is i s.splits low high, eq-eqb r r refl) (omega arith))
      (λ u. rw (held_behind s.start (bytes_in e) i (ltb-false i (s.start + bytes_in e) u)) (omega arith))))

  -- "texts unshared"
  pub none_shared : (i : ℕ) → holders words i ≤ 1
  none_shared i =
      omega (
        arith,
        most_held words (followed words) i (holder i 0 1 es) (own_most i),
        led_once es records used room fits ordered whole
            (holder i 0 1 es),
      )

  -- bytes that no chain reaches
  pub bytes_clear : (i : ℕ) → holders words i ≡ 0 → get_or bytes i 0 ≡ 0
  unfolding all_bytes
  bytes_clear i z =
      by_test (ltb i (end_of 0 es))
      (λ t. clear_in (held_by i 1 0 es (omega arith) (ltb-true i (end_of 0 es) t)))
      (λ t. clear_out (ltb-false i (end_of 0 es) t))
    where
      clear_out : end_of 0 es ≤ i → get_or bytes i 0 ≡ 0
      clear_out h = behind_zero (texts es) more i (omega (arith, length_texts 0 es))

      clear_in : Held i 1 0 es → get_or bytes i 0 ≡ 0
      clear_in f =
          by_test f.event.alive
          (λ t.
          let h : There es f.number f.event = record { at = splits_number f.splits; alive = t } in
          let held : own words f.number i ≡ 1 =
          own_is h i ∙ rw (splits_start f.splits) (held_in f.start (bytes_in f.event) i f.low f.high) in
          absurd (omega (arith, least_held words (followed words) i f.number (all_led es records used room fits ordered whole h))))
          (λ t.
          let n = length_piece f.event in
          let lo = f.low in
          let hi = f.high in
          let e : i ≡ (f.start - 0) + (i - f.start) = omega arith in
          rw e (sym (get_or-drop (f.start - 0) (texts es ++ replicate more 0) (i - f.start) 0)
          ∙ ap (λ (l : List ℕ). get_or l (i - f.start) 0) (bytes_at f.splits (replicate more 0))
          ∙ get_or-append (piece f.event) (texts f.later ++ replicate more 0) 0 (i - f.start) (omega arith)
          ∙ dead_byte f.event (i - f.start) t))

  -- words that no chain reaches
  pub words_clear : (i : ℕ) → record_words ≤ i → is_reached words (i / record_words) ≡ false → get_or words i 0 ≡ 0
  unfolding out_field all_words
  words_clear i h n =
      by_test (ltb (i / record_words) (1 + length es))
      (λ t. clear_in (ltb-true (i / record_words) (1 + length es) t))
      (λ t. clear_out (ltb-false (i / record_words) (1 + length es) t))
    where
      six : length head ≡ 16
      six = sixteen es records used room fits ordered whole

      clear_out : 1 + length es ≤ i / record_words → get_or words i 0 ≡ 0
      clear_out k =
          let w = words_from 1 0 es in
          rw (← append_assoc head w (replicate room 0))
          (behind_zero (head ++ w) room i (omega (arith, six, length-append head w, length_from 1 0 es)))

      clear_in : i / record_words < 1 + length es → get_or words i 0 ≡ 0
      clear_in k =
          let r = i / record_words in
          let f = found 1 r es (omega arith) k in
          by_test f.event.alive
          (λ t.
          let led = all_led es records used room fits ordered whole {t = r} (record { at = f.at; alive = t }) in
          absurd (omega (arith, leb-false 1 (times_reached (followed words) r) n)))
          (λ t.
          let s = split f.at 0 in
          let e : i ≡ r * 16 + i % 16 = omega arith in
          ap (λ (m : ℕ). get_or words m 0) e
          ∙ field_at head six es room s.splits (i % 16) (omega arith)
          ∙ dead_word r s.start f.event s.later (i % 16) t)
