-- The words and bytes of the records made read back as these records: each word, each text, and each chain.
use Prim.Native.Nat.{ℕ, zero, suc, ◌+◌, ◌*◌, ◌-◌, ◌≤◌, ◌<◌}
use mathlib.Core.Path.{◌≡◌, refl, sym, ap, ◌∙◌}
use mathlib.Core.Bool.{true, cond}
use mathlib.Core.List.{List, [], ◌∷◌, ◌++◌, append_assoc}
use native.Mathlib.Omega.{arith}
use borrow.Author.Tests.{ne_eqb, eqb-true, lt-ltb}
use lib.Dec.{eqb}
use lib.ListN.{length, get_or, drop, replicate, length-append, get_or-append, length-replicate}
use lib.Seq.{get_or-append-add, take-append_seam, drop-append_seam, drop-append-add, drop-drop}
use Rattle.paths_numbers.specs.meaning.Text.{is_empty}
use Rattle.paths_numbers.proofs.Texts.{by_test, both}
use Rattle.definition_log.specs.meaning.Record.{out_field, next_of, log_count, leads, text_in}
use Rattle.definition_log.specs.meaning.ReadBack.{chain_from}
use Rattle.making.specs.machine.Events.{Event, in_chain, first, start_of, words16, bytes_in, words_from, texts, Numbered}
use Rattle.making.specs.machine.Events.{members, all_words, all_bytes}
use Rattle.making.proofs.Append.{length_words}

-- record r of a list numbered from k on, whose texts start at `at`: it is e, its texts start at b, and es comes after it
pub data Splits : ℕ → ℕ → List Event → ℕ → ℕ → Event → List Event → Type 0 where
  splits_here : {k at : ℕ} {e : Event} {es : List Event} → Splits k at (e ∷ es) k at e es
  splits_later : {k at r b : ℕ} {x e : Event} {xs es : List Event} → Splits (k + 1) (at + bytes_in x) xs r b e es
      → Splits k at (x ∷ xs) r b e es

-- its number is not below where the numbers start, and not behind the end
pub splits_from : {k at r b : ℕ} {xs es : List Event} {e : Event} → Splits k at xs r b e es → k ≤ r
splits_from splits_here = omega arith
splits_from (splits_later s) = omega (arith, splits_from s)

-- a word of it
word_at : {k at r b : ℕ} {xs es : List Event} {e : Event} → Splits k at xs r b e es → (z : List ℕ) (i : ℕ) → i < 16
    → get_or (words_from k at xs ++ z) ((r - k) * 16 + i) 0 ≡ get_or (words16 r b e es) i 0
unfolding words_from
word_at {k} {at} {es = es} {e} splits_here z i h =
    let ix : (k - k) * 16 + i ≡ i = omega arith in
    let n = length_words k at e es in
    rw (ix, append_assoc) (get_or-append (words16 k at e es) _ 0 i (omega arith))
word_at {k} {at} {r} (splits_later {x = x} {xs = xs} s) z i h =
    let n = length_words k at x xs in
    let ix : (r - k) * 16 + i ≡ length (words16 k at x xs) + ((r - (k + 1)) * 16 + i) = omega (arith, splits_from s) in
    rw (ix, append_assoc) (get_or-append-add (words16 k at x xs) _ ((r - (k + 1)) * 16 + i) 0 ∙ word_at s z i h)

-- and of it in all words
module _ (head : List ℕ) (sixteen : length head ≡ 16) (es : List Event) (room : ℕ) where
  pub field_at : {r b : ℕ} {e : Event} {later : List Event} → Splits 1 0 es r b e later → (i : ℕ) → i < 16
      → out_field (all_words head es room) r i ≡ get_or (words16 r b e later) i 0
  unfolding out_field all_words
  field_at {r} s i h =
      let ix : r * 16 + i ≡ length head + ((r - 1) * 16 + i) = omega (arith, splits_from s) in
      rw ix (get_or-append-add head _ ((r - 1) * 16 + i) 0 ∙ word_at s (replicate room 0) i h)

  -- the link of a record that is there
  pub next_at_lem : {r b : ℕ} {e : Event} {later : List Event} → Splits 1 0 es r b e later → e.alive ≡ true
      → next_of (all_words head es room) r ≡ first e.chain (r + 1) later
  unfolding words16
  next_at_lem s t = field_at s 1 (omega arith) ∙ rw t refl

-- the numbers of a chain's records
unfoldable pub numbers_of : List Numbered → List ℕ
numbers_of [] = []
numbers_of (x ∷ xs) = x.number ∷ numbers_of xs

-- a link to a record that is there leads there
pub leads_there : (words : List ℕ) (r : ℕ) → 0 < r → r < log_count words → leads words r ≡ true
leads_there words r p h = rw (ne_eqb r 0 (omega arith), lt-ltb r (log_count words) h) refl

-- a chain that ends
pub chain_end : (f : ℕ) (words : List ℕ) → chain_from f words 0 ≡ []
unfolding chain_from
chain_end zero words = refl
chain_end (suc f) words = refl

module _ (head : List ℕ) (sixteen : length head ≡ 16) (all : List Event) (room : ℕ) where
  -- a chain followed from its first record has the chain's records: `es` is what is left of all records
  pub chain_members : (c f k at : ℕ) (es : List Event) → 0 < k → length es ≤ f → k + length es ≤ log_count (all_words head all room)
      → ((r b : ℕ) (e : Event) (later : List Event) → Splits k at es r b e later → Splits 1 0 all r b e later)
      → chain_from f (all_words head all room) (first c k es) ≡ numbers_of (members c k es)
  unfolding first members numbers_of chain_from
  chain_members c f k at [] p l h inj = chain_end f (all_words head all room)
  chain_members c zero k at (x ∷ es) p l h inj = absurd (omega arith)
  chain_members c (suc f) k at (x ∷ es) p l h inj =
      let more : (r b : ℕ) (e : Event) (later : List Event) → Splits (k + 1) (at + bytes_in x) es r b e later
      → Splits 1 0 all r b e later = λ r b e later s. inj r b e later (splits_later s) in
      by_test (in_chain c x)
      (λ t.
      let q = both x.alive (eqb x.chain c) t in
      let n : next_of (all_words head all room) k ≡ first c (k + 1) es = next_at_lem head sixteen all room (inj k at x es splits_here) q.0
      ∙ rw (eqb-true x.chain c q.1) refl in
      rw (t, leads_there (all_words head all room) k p (omega arith), n)
      (ap (λ (l : List ℕ). k ∷ l) (chain_members c f (k + 1) (at + bytes_in x) es (omega arith) (omega arith) (omega arith) more)))
      (λ t. rw t (chain_members c (suc f) (k + 1) (at + bytes_in x) es (omega arith) (omega arith) (omega arith) more))

-- the bytes of a record's texts
unfoldable pub piece : Event → List ℕ
piece e = cond e.alive (e.text ++ e.second) (replicate (bytes_in e) 0)

pub length_piece : (e : Event) → length (piece e) ≡ bytes_in e
unfolding piece
length_piece e = by_test e.alive (λ t. rw t (length-append e.text e.second)) (λ t. rw t (length-replicate {A = ℕ} (bytes_in e) 0))

pub splits_at : {k at r b : ℕ} {xs es : List Event} {e : Event} → Splits k at xs r b e es → at ≤ b
splits_at splits_here = omega arith
splits_at (splits_later s) = omega (arith, splits_at s)

-- what stands from where they start on
pub bytes_at : {k at r b : ℕ} {xs es : List Event} {e : Event} → Splits k at xs r b e es → (z : List ℕ)
    → drop (b - at) (texts xs ++ z) ≡ piece e ++ (texts es ++ z)
unfolding texts piece
bytes_at {at = at} {es = es} {e} splits_here z =
    let n : at - at ≡ 0 = omega arith in
    rw n (append_assoc (piece e) (texts es) z)
bytes_at {at = at} {b = b} {es = es} {e} (splits_later {x = x} {xs = xs} s) z =
    let n : b - at ≡ length (piece x) + (b - (at + bytes_in x)) = omega (arith, length_piece x, splits_at s) in
    rw (n, append_assoc (piece x) (texts xs) z) (drop-append-add (piece x) (texts xs ++ z) (b - (at + bytes_in x)) ∙ bytes_at s z)

module _ (es : List Event) (room : ℕ) {r b : ℕ} {e : Event} {later : List Event} (s : Splits 1 0 es r b e later) (t : e.alive ≡ true) where
  from_there : drop b (all_bytes es room) ≡ e.text ++ (e.second ++ (texts later ++ replicate room 0))
  unfolding all_bytes piece
  from_there =
      let n : b - 0 ≡ b = omega arith in
      rw (← n) (bytes_at s (replicate room 0) ∙ rw (t, append_assoc) refl)

  -- the first text
  pub text_at_lem : text_in (all_bytes es room) (start_of b e.text) (length e.text) ≡ e.text
  unfolding is_empty
  text_at_lem = go e.text from_there
    where
      go : (x : List ℕ) → drop b (all_bytes es room) ≡ x ++ (e.second ++ (texts later ++ replicate room 0))
          → text_in (all_bytes es room) (start_of b x) (length x) ≡ x
      go [] q = refl
      go (a ∷ x) q = rw q (take-append_seam (a ∷ x) _)

  -- and the second
  pub second_at_lem : text_in (all_bytes es room) (start_of (b + length e.text) e.second) (length e.second) ≡ e.second
  unfolding is_empty
  second_at_lem = go e.second (drop_behind b from_there)
    where
      drop_behind : (b : ℕ) → drop b (all_bytes es room) ≡ e.text ++ (e.second ++ (texts later ++ replicate room 0))
          → drop (b + length e.text) (all_bytes es room) ≡ e.second ++ (texts later ++ replicate room 0)
      drop_behind b q = sym (drop-drop (length e.text) b (all_bytes es room)) ∙ rw q (drop-append_seam e.text _)

      go : (x : List ℕ) → drop (b + length e.text) (all_bytes es room) ≡ x ++ (texts later ++ replicate room 0)
          → text_in (all_bytes es room) (start_of (b + length e.text) x) (length x) ≡ x
      go [] q = refl
      go (a ∷ x) q = rw q (take-append_seam (a ∷ x) _)
