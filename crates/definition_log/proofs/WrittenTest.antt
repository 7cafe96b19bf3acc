-- The rules for writing as tests that compute: a log that passes them is written.
use Prim.Native.Nat.{ℕ, zero, suc, ◌+◌, ◌/◌, ◌≤◌, ◌<◌}
use mathlib.Core.Path.{◌≡◌, refl}
use mathlib.Core.Bool.{Bool, true, false, not, cond}
use mathlib.Core.List.{List, [], ◌∷◌}
use native.Mathlib.Omega.{arith}
use borrow.Author.Tests.{eq-eqb, eqb-true, eqb-false, le-leb, leb-true, ltb-true, ltb-false, le-ltb, not-true}
use lib.Dec.{eqb, leb, ltb}
use lib.ListN.{length, get_or, get_or-eq_default}
use Rattle.paths_numbers.proofs.Texts.{by_test, not_both, both}
use Rattle.definition_log.specs.meaning.Record.{record_words, head_words, out_field, kind_of, next_of, child_of, text_start, text_length}
use Rattle.definition_log.specs.meaning.Record.{second_start}
use Rattle.definition_log.specs.meaning.Record.{second_length, n_of, records_used, bytes_used, extension_kind, log_count}
use Rattle.definition_log.specs.meaning.ReadBack.{read_log}
use Rattle.definition_log.specs.meaning.Sound.{Link, targets, times, followed, times_reached, is_reached, sound, lowest_fault}
use Rattle.files.specs.meaning.Files.{file_of}
use Rattle.definition_log.specs.meaning.Record.{has_span, has_name_span, span_start, name_start, span_file, name_file}
use Rattle.definition_log.specs.meaning.Written.{named, largest_n, holds, holders_in, holders, Kept, Written}
use Rattle.definition_log.proofs.Reached.{reached_inside, texts_inside}

-- a test of all numbers below n
unfoldable pub all_below : ℕ → (ℕ → Bool) → Bool
all_below zero f = true
all_below (suc n) f = cond (f n) (all_below n f) false

all_below_lem : (n : ℕ) (f : ℕ → Bool) → all_below n f ≡ true → (i : ℕ) → i < n → f i ≡ true
unfolding all_below
all_below_lem zero f e i h = absurd (omega arith)
all_below_lem (suc n) f e i h =
    let b = both (f n) (all_below n f) e in
    by_test (eqb n i)
    (λ t. rw (eqb-true n i t) at b.0)
    (λ t. let q = eqb-false n i t in all_below_lem n f b.1 i (omega arith))

-- "if a then b", of tests
abbrev implies : Bool → Bool → Bool
implies a b = cond a b true

by_implies : (a b : Bool) → implies a b ≡ true → a ≡ true → b ≡ true
by_implies true b e h = e
by_implies false b e h = absurd (not_both h refl)

-- all of several tests
unfoldable pub all_of : List Bool → Bool
all_of [] = true
all_of (t ∷ ts) = cond t (all_of ts) false

all_of_lem : (t : Bool) (ts : List Bool) → all_of (t ∷ ts) ≡ true → (t ≡ true) × (all_of ts ≡ true)
unfolding all_of
all_of_lem t ts e = both t (all_of ts) e

-- of a record that is reached
unfoldable pub zero_or_named : List ℕ → ℕ → ℕ → Bool
zero_or_named words r i = cond (named (kind_of words r) (n_of words r) i) true (eqb (out_field words r i) 0)

unfoldable pub kept_test : List ℕ → List ℕ → ℕ → Bool
kept_test starts words r =
    all_of
    (all_below record_words (zero_or_named words r)
    ∷ implies (eqb (text_length words r) 0) (eqb (text_start words r) 0)
    ∷ implies (eqb (second_length words r) 0) (eqb (second_start words r) 0)
    ∷ leb (n_of words r) (largest_n (kind_of words r) (n_of words r))
    ∷ implies (eqb (kind_of words r) extension_kind) (eqb (next_of words (child_of words r)) 0)
    ∷ implies (eqb (kind_of words r) extension_kind) (not (eqb (child_of words r) 0))
    ∷ implies (has_span (kind_of words r)) (eqb (out_field words r 13) (file_of starts (span_start words r)))
    ∷ implies (has_name_span (kind_of words r)) (eqb (out_field words r 14) (file_of starts (name_start words r)))
    ∷ [])

or_zero : (a : Bool) (n : ℕ) → cond a true (eqb n 0) ≡ true → a ≡ false → n ≡ 0
or_zero true n e h = absurd (not_both {t = true} refl h)
or_zero false n e h = eqb-true n 0 e

implies_zero : (a b : ℕ) → implies (eqb a 0) (eqb b 0) ≡ true → a ≡ 0 → b ≡ 0
implies_zero a b e h = eqb-true b 0 (by_implies (eqb a 0) (eqb b 0) e (eq-eqb a 0 h))

kept_by_test : (starts words : List ℕ) (r : ℕ) → kept_test starts words r ≡ true → Kept starts words r
unfolding kept_test zero_or_named
kept_by_test starts words r e =
    let a = all_of_lem _ _ e in
    let b = all_of_lem _ _ a.1 in
    let c = all_of_lem _ _ b.1 in
    let d = all_of_lem _ _ c.1 in
    let f = all_of_lem _ _ d.1 in
    let g = all_of_lem _ _ f.1 in
    let o = all_of_lem _ _ g.1 in
    let p = all_of_lem _ _ o.1 in
    record {
      unnamed = λ i h n. or_zero (named (kind_of words r) (n_of words r) i) (out_field words r i)
          (all_below_lem record_words (zero_or_named words r) a.0 i h) n;
      empty_text = implies_zero (text_length words r) (text_start words r) b.0;
      empty_second = implies_zero (second_length words r) (second_start words r) c.0;
      n = leb-true (n_of words r) (largest_n (kind_of words r) (n_of words r)) d.0;
      file_of_span = λ k.
          eqb-true (span_file words r) (file_of starts (span_start words r)) (by_implies (has_span (kind_of words r)) _ o.0 k);
      file_of_name = λ k.
          eqb-true (name_file words r) (file_of starts (name_start words r)) (by_implies (has_name_span (kind_of words r)) _ p.0 k);
      a_reference =
          λ k.
          eqb-false (child_of words r) 0
          (not-true (eqb (child_of words r) 0)
          (by_implies (eqb (kind_of words r) extension_kind) (not (eqb (child_of words r) 0)) g.0
          (eq-eqb (kind_of words r) extension_kind k)));
      one_reference =
          λ k.
          eqb-true (next_of words (child_of words r)) 0
          (by_implies (eqb (kind_of words r) extension_kind) (eqb (next_of words (child_of words r)) 0) f.0
          (eq-eqb (kind_of words r) extension_kind k));
    }

-- of both buffers
unfoldable pub rest_test : List ℕ → ℕ → Bool
rest_test words i = implies (leb head_words i) (eqb (out_field words 0 i) 0)

unfoldable pub reached_test : List ℕ → List ℕ → ℕ → Bool
reached_test starts words r = implies (is_reached words r) (kept_test starts words r)

unfoldable pub shared_test : List ℕ → ℕ → Bool
shared_test words i = leb (holders words i) 1

unfoldable pub word_test : List ℕ → ℕ → Bool
word_test words i = implies (leb record_words i) (cond (is_reached words (i / record_words)) true (eqb (get_or words i 0) 0))

unfoldable pub byte_test : List ℕ → List ℕ → ℕ → Bool
byte_test words bytes i = implies (eqb (holders words i) 0) (eqb (get_or bytes i 0) 0)

unfoldable pub written_test : List ℕ → List ℕ → List ℕ → Bool
written_test starts words bytes =
    all_of
    (all_below record_words (rest_test words)
    ∷ all_below (log_count words) (reached_test starts words)
    ∷ all_below (length bytes) (shared_test words)
    ∷ all_below (length words) (word_test words)
    ∷ all_below (length bytes) (byte_test words bytes)
    ∷ [])

-- a byte behind all texts is held by none
not_held : (start size i m : ℕ) → start + size ≤ m → m ≤ i → holds start size i ≡ 0
not_held start size i m h k = by_test (leb start i) (λ e. rw (e, le-ltb i (start + size) (omega arith)) refl) (λ e. rw e refl)

none_hold : (words : List ℕ) (m i : ℕ) → m ≤ i → (ls : List Link)
    → ((r : ℕ) → 1 ≤ times_reached ls r → (text_start words r + text_length words r ≤ m) × (second_start words r + second_length words r ≤ m))
    → holders_in words ls i ≡ 0
unfolding holders_in targets times
none_hold words m i k [] f = refl
none_hold words m i k (l ∷ ls) f =
    let t = f l.to (rw (eq-eqb l.to l.to refl) (omega arith)) in
    rw (
      not_held (text_start words l.to) (text_length words l.to) i m t.0 k,
      not_held (second_start words l.to)
          (second_length words l.to) i m t.1 k,
    )
    (omega (arith, none_hold words m i k ls (λ r h. f r (omega arith))))

module _ (starts words bytes : List ℕ) (ok : lowest_fault words bytes ≡ sound) (e : written_test starts words bytes ≡ true) where
  -- a byte behind the lent ones is held by no text
  held_inside : (i : ℕ) → length bytes ≤ i → holders words i ≡ 0
  held_inside i h = none_hold words (length bytes) i h (followed words) (λ r k. texts_inside words bytes ok r k)

  tests : (all_below record_words (rest_test words) ≡ true)
      × (all_below (log_count words) (reached_test starts words) ≡ true)
      × (all_below (length bytes) (shared_test words) ≡ true)
      × (all_below (length words) (word_test words) ≡ true)
      × (all_below (length bytes) (byte_test words bytes) ≡ true)
  unfolding written_test
  tests =
      let a = all_of_lem _ _ e in
      let b = all_of_lem _ _ a.1 in
      let c = all_of_lem _ _ b.1 in
      let d = all_of_lem _ _ c.1 in
      (a.0, b.0, c.0, d.0, (all_of_lem _ _ d.1).0)

  rest_by_test : (i : ℕ) → head_words ≤ i → i < record_words → out_field words 0 i ≡ 0
  unfolding rest_test
  rest_by_test i h k =
      eqb-true (out_field words 0 i) 0 (by_implies (leb head_words i) (eqb (out_field words 0 i) 0)
      (all_below_lem record_words (rest_test words) tests.0 i k) (le-leb head_words i h))

  reached_by_test : (r : ℕ) → is_reached words r ≡ true → Kept starts words r
  unfolding reached_test
  reached_by_test r h =
      let k = reached_inside words r (leb-true 1 (times_reached (followed words) r) h) in
      kept_by_test starts words r (by_implies (is_reached words r) (kept_test starts words r)
      (all_below_lem (log_count words) (reached_test starts words) tests.1 r k.1) h)

  shared_by_test : (i : ℕ) → holders words i ≤ 1
  unfolding shared_test
  shared_by_test i =
      by_test (ltb i (length bytes))
      (λ t. leb-true (holders words i) 1 (all_below_lem (length bytes) (shared_test words) tests.2 i (ltb-true i (length bytes) t)))
      (λ t. omega (arith, held_inside i (ltb-false i (length bytes) t)))

  word_by_test : (i : ℕ) → record_words ≤ i → is_reached words (i / record_words) ≡ false → get_or words i 0 ≡ 0
  unfolding word_test
  word_by_test i h n =
      by_test (ltb i (length words))
      (λ t.
      or_zero (is_reached words (i / record_words)) (get_or words i 0)
      (by_implies (leb record_words i) (cond (is_reached words (i / record_words)) true (eqb (get_or words i 0) 0))
      (all_below_lem (length words) (word_test words) tests.3 i (ltb-true i (length words) t)) (le-leb record_words i h))
      n)
      (λ t. get_or-eq_default words 0 (ltb-false i (length words) t))

  byte_by_test : (i : ℕ) → holders words i ≡ 0 → get_or bytes i 0 ≡ 0
  unfolding byte_test
  byte_by_test i h =
      by_test (ltb i (length bytes))
      (λ t. implies_zero (holders words i) (get_or bytes i 0) (all_below_lem (length bytes) (byte_test words bytes) tests.4 i
      (ltb-true i (length bytes) t)) h)
      (λ t. get_or-eq_default bytes 0 (ltb-false i (length bytes) t))

  -- a log that passes the tests is written: as what it reads as, with the counts that record 0 has
  pub written_by_test : Written starts words bytes (records_used words) (bytes_used words) (read_log words bytes)
  written_by_test =
      record {
        reads = refl;
        rules = ok;
        counted = refl;
        counted_bytes = refl;
        rest_of_head = rest_by_test;
        kept = reached_by_test;
        unshared = λ i. omega (arith, shared_by_test i);
        clear_words = word_by_test;
        clear_bytes = byte_by_test;
      }
