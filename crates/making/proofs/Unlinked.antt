-- A record taken out of its chain, with what stands before it, xs, and behind it, ys: what the words, the bytes and the chains are then.
use Prim.Native.Nat.{ℕ, suc, ◌+◌, ◌*◌, ◌-◌, ◌≤◌, ◌<◌}
use mathlib.Core.Path.{◌≡◌, refl, sym, ap, ◌∙◌}
use mathlib.Core.Bool.{cond}
use mathlib.Core.List.{List, [], ◌∷◌, ◌++◌, append_assoc}
use native.Mathlib.Nat.{zero-add}
use native.Mathlib.Omega.{arith}
use borrow.Author.Tests.{ne_eqb, eqb-true, eqb-false}
use lib.Dec.{eqb}
use lib.ListN.{length, take, drop, replicate, length-append, length-replicate}
use lib.Seq.{set-append_left, take-append-le, drop-append-le, take-append-add, drop-append-add, drop_at}
use Rattle.paths_numbers.specs.meaning.Text.{written}
use Rattle.paths_numbers.proofs.Texts.{by_test, both}
use Rattle.paths_numbers.proofs.Written.{written_length}
use Rattle.making.specs.machine.Events.{Event, children_of, in_chain, first, last, words16, bytes_in, words_from, texts, end_of, all_words}
use Rattle.making.specs.machine.Events.{all_bytes, Ordered, ordered_next}
use Rattle.making.specs.machine.Removed.{dead, set_next}
use Rattle.making.proofs.Append.{linked, linked_none, length_words, last_from_lem, last_to, last_first, first_last, set_append_add}
use Rattle.making.proofs.Append.{set_behind}
use Rattle.making.proofs.ReadEvents.{piece, length_piece}
use Rattle.making.proofs.Make.{length_from}
use Rattle.making.proofs.Layouts.{length_texts}

-- the first of a chain that has records in front
pub first_front : (c k : ℕ) (xs zs : List Event) → (first c k xs ≡ 0 → ⊥) → first c k (xs ++ zs) ≡ first c k xs
unfolding first
first_front c k [] zs n = absurd (n refl)
first_front c k (x ∷ xs) zs n =
    by_test (in_chain c x) (λ t. rw t refl) (λ t. rw t (first_front c (k + 1) xs zs (λ z. n (rw t z))))

-- or has none
first_behind : (c k : ℕ) (xs zs : List Event) → 0 < k → first c k xs ≡ 0 → first c k (xs ++ zs) ≡ first c (k + length xs) zs
unfolding first
first_behind c k [] zs p z = let n : k + 0 ≡ k = omega arith in rw n refl
first_behind c k (x ∷ xs) zs p z =
    let n : k + suc (length xs) ≡ k + 1 + length xs = omega arith in
    by_test (in_chain c x)
    (λ t. absurd (omega (arith, rw t at z)))
    (λ t. rw (t, n) (first_behind c (k + 1) xs zs (omega arith) (rw t at z)))

-- the last of a chain that has records behind, or has none
pub last_behind : (c k : ℕ) (xs zs : List Event) → 0 < k → (last c (k + length xs) zs ≡ 0 → ⊥)
    → last c k (xs ++ zs) ≡ last c (k + length xs) zs
unfolding last
last_behind c k [] zs p n = let e : k + 0 ≡ k = omega arith in rw e refl
last_behind c k (x ∷ xs) zs p n =
    let e : k + suc (length xs) ≡ k + 1 + length xs = omega arith in
    let h : last c (k + 1) (xs ++ zs) ≡ last c (k + 1 + length xs) zs = last_behind c (k + 1) xs zs (omega arith) (rw e at n) in
    rw (e, h, ne_eqb (last c (k + 1 + length xs) zs) 0 (rw e at n)) refl

pub last_front : (c k : ℕ) (xs zs : List Event) → last c (k + length xs) zs ≡ 0 → last c k (xs ++ zs) ≡ last c k xs
unfolding last
last_front c k [] zs z = let e : k + 0 ≡ k = omega arith in rw e at z
last_front c k (x ∷ xs) zs z =
    let e : k + suc (length xs) ≡ k + 1 + length xs = omega arith in
    rw (last_front c (k + 1) xs zs (rw e at z)) refl

module _ (e : Event) (ys : List Event) where
  -- the first of its chain after it is removed, where none stands before it
  pub first_gone : (c k : ℕ) (xs : List Event) → 0 < k → first c k xs ≡ 0 → first c k (xs ++ dead e ∷ ys) ≡ first c (k + length xs + 1) ys
  unfolding first
  first_gone c k xs p z = first_behind c k xs (dead e ∷ ys) p z

  -- another chain, before and after
  pub first_apart : (d k : ℕ) (xs : List Event) → (e.chain ≡ d → ⊥) → first d k (xs ++ dead e ∷ ys) ≡ first d k (xs ++ e ∷ ys)
  unfolding first
  first_apart d k [] n =
      by_test e.alive (λ t. rw (t, ne_eqb e.chain d n) refl) (λ t. rw t refl)
  first_apart d k (x ∷ xs) n = rw (first_apart d (k + 1) xs n) refl

  pub last_apart : (d k : ℕ) (xs : List Event) → (e.chain ≡ d → ⊥) → last d k (xs ++ dead e ∷ ys) ≡ last d k (xs ++ e ∷ ys)
  unfolding last
  last_apart d k [] n =
      by_test e.alive (λ t. rw (t, ne_eqb e.chain d n) refl) (λ t. rw t refl)
  last_apart d k (x ∷ xs) n = rw (last_apart d (k + 1) xs n) refl

-- words written behind others
pub written_after : (x w s : List ℕ) (n : ℕ) → written (x ++ w) (length x + n) s ≡ x ++ written w n s
unfolding written
written_after x w s n =
    let k : length x + n + length s ≡ length x + (n + length s) = omega arith in
    rw (k, take-append-add x w n, drop-append-add x w (n + length s)) (simp append_assoc)

-- words written in front
pub written_front : (x w s : List ℕ) → length x ≡ length s → s ++ w ≡ written (x ++ w) 0 s
unfolding written
written_front x w s h = rw (zero-add (length s), drop_at x w (length s) h) refl

-- the words of a record that is no longer there
pub dead_words : (k at : ℕ) (e : Event) (es : List Event) → words16 k at (dead e) es ≡ replicate 16 0
unfolding words16
dead_words k at e es = refl

-- one record in front: its words in the old list A and the new one B, where the record before the one removed leads to n now
module _ (c : ℕ) (top : (o : ℕ) → c ≡ children_of o → ⊥) where
  step : (k at l n : ℕ) (x : Event) (B A : List Event) (w : List ℕ) → 0 < k
      → ((d : ℕ) → (c ≡ d → ⊥) → first d (k + 1) B ≡ first d (k + 1) A)
      → ((l ≡ 0 → ⊥) → (k + 1 ≤ l) × (first c (k + 1) B ≡ first c (k + 1) A)) → (l ≡ 0 → first c (k + 1) B ≡ n)
      → words16 k at x B ++ linked l (k + 1) n w ≡ linked (cond (eqb l 0) (cond (in_chain c x) k 0) l) k n (words16 k at x A ++ w)
  unfolding linked words16
  step k at l n x B A w p same there gone =
      let kids = same (children_of k) (top k) in
      by_test (eqb l 0)
      (λ z.
      by_test (in_chain c x)
      (λ u.
      let h = both x.alive (eqb x.chain c) u in
      let ix : (k - k) * 16 + 1 ≡ 1 = omega arith in
      let q : x.chain ≡ c = eqb-true x.chain c h.1 in
      rw (z, u, h.0, q, ne_eqb k 0 (omega arith), ix, kids, gone (eqb-true l 0 z)) refl)
      (λ u.
      by_test x.alive
      (λ t.
      let ne : c ≡ x.chain → ⊥ = λ i. eqb-false x.chain c (rw t at u) (sym i) in
      rw (z, u, t, kids, same x.chain ne) refl)
      (λ t. rw (z, u, t) refl)))
      (λ z.
      let h = there (eqb-false l 0 z) in
      let all : (d : ℕ) → first d (k + 1) B ≡ first d (k + 1) A =
      λ d. by_test (eqb c d) (λ t. rw (← eqb-true c d t) h.1) (λ t. same d (eqb-false c d t)) in
      rw (z, z, all x.chain, all (children_of k))
      (sym (set_behind (words16 k at x A) w ((l - k) * 16 + 1) ((l - (k + 1)) * 16 + 1) n (length_words k at x A) (omega (arith, h.0)))))

  module _ (e : Event) (ys : List Event) (ec : e.chain ≡ c) where
    -- all words after it is removed
    pub words_removed : (k at : ℕ) (xs : List Event) → 0 < k
        → words_from k at (xs ++ dead e ∷ ys)
        ≡ linked (last c k xs) k (first c (k + length xs + 1) ys)
        (written (words_from k at (xs ++ e ∷ ys)) (length xs * 16) (replicate 16 0))
    unfolding words_from last
    words_removed k at [] p =
        let W = words_from (k + 1) (at + bytes_in e) ys in
        ap (λ (s : List ℕ). s ++ W) (dead_words k at e ys)
        ∙ written_front (words16 k at e ys) W (replicate 16 0) (length_words k at e ys)
        ∙ sym (linked_none k (first c (k + 0 + 1) ys) (written (words16 k at e ys ++ W) 0 (replicate 16 0)))
    words_removed k at (x ∷ xs) p =
        let A = xs ++ e ∷ ys in
        let B = xs ++ dead e ∷ ys in
        let W = words_from (k + 1) (at + bytes_in x) A in
        let l = last c (k + 1) xs in
        let n = first c (k + 1 + length xs + 1) ys in
        let nn : k + suc (length xs) + 1 ≡ k + 1 + length xs + 1 = omega arith in
        let ix : suc (length xs) * 16 ≡ length (words16 k at x A) + length xs * 16 = omega (arith, length_words k at x A) in
        rw (
          nn,
          ix,
          words_removed (k + 1) (at + bytes_in x) xs (omega arith),
          written_after (words16 k at x A) W (replicate 16 0)
              (length xs * 16),
        )
        (step k at l n x B A (written W (length xs * 16) (replicate 16 0)) p
        (λ d ne. first_apart e ys d (k + 1) xs (λ q. ne (sym ec ∙ q)))
        (λ nz.
        let f : first c (k + 1) xs ≡ 0 → ⊥ = λ q. nz (first_last c (k + 1) xs (omega arith) q) in
        (last_from_lem c (k + 1) xs nz, first_front c (k + 1) xs (dead e ∷ ys) f ∙ sym (first_front c (k + 1) xs (e ∷ ys) f)))
        (λ z. first_gone e ys c (k + 1) xs (omega arith) (last_first c (k + 1) xs z (omega arith))))

-- the bytes
texts_append : (xs zs : List Event) → texts (xs ++ zs) ≡ texts xs ++ texts zs
unfolding texts piece
texts_append [] zs = refl
texts_append (x ∷ xs) zs = rw (texts_append xs zs) (sym (append_assoc (piece x) (texts xs) (texts zs)))

texts_piece : (x : Event) (zs : List Event) → texts (x ∷ zs) ≡ piece x ++ texts zs
unfolding texts piece
texts_piece x zs = refl

dead_piece : (e : Event) → piece (dead e) ≡ replicate (bytes_in e) 0
unfolding piece
dead_piece e = refl

-- words written before others
pub written_before : (w z s : List ℕ) (n : ℕ) → n + length s ≤ length w → written (w ++ z) n s ≡ written w n s ++ z
unfolding written
written_before w z s n h =
    rw (take-append-le n w z (omega arith), drop-append-le (n + length s) w z h)
    (sym (append_assoc (take n w ++ s) (drop (n + length s) w) z))

-- the counts are as they were
pub same_end : (at : ℕ) (xs : List Event) (e : Event) (ys : List Event) → end_of at (xs ++ dead e ∷ ys) ≡ end_of at (xs ++ e ∷ ys)
unfolding end_of
same_end at [] e ys = refl
same_end at (x ∷ xs) e ys = same_end (at + bytes_in x) xs e ys

pub same_size : (xs : List Event) (e : Event) (ys : List Event) → length (xs ++ dead e ∷ ys) ≡ length (xs ++ e ∷ ys)
same_size [] e ys = refl
same_size (x ∷ xs) e ys = ap suc (same_size xs e ys)

-- records stay behind their owners
pub same_order : (k : ℕ) (xs : List Event) (e : Event) (ys : List Event) → Ordered k (xs ++ e ∷ ys) → Ordered k (xs ++ dead e ∷ ys)
same_order k [] e ys (ordered_next f o) = ordered_next f o
same_order k (x ∷ xs) e ys (ordered_next f o) = ordered_next f (same_order (k + 1) xs e ys o)

-- all bytes
pub bytes_removed : (xs : List Event) (e : Event) (ys : List Event) (room : ℕ)
    → all_bytes (xs ++ dead e ∷ ys) room ≡ written (all_bytes (xs ++ e ∷ ys) room) (end_of 0 xs) (replicate (bytes_in e) 0)
unfolding all_bytes
bytes_removed xs e ys room =
    let zs = replicate {A = ℕ} (bytes_in e) 0 in
    let R = texts ys ++ replicate room 0 in
    let at : end_of 0 xs ≡ length (texts xs) + 0 = omega (arith, length_texts 0 xs) in
    let split : (x : Event) → texts (xs ++ x ∷ ys) ++ replicate room 0 ≡ texts xs ++ (piece x ++ R) =
    λ x. rw (texts_append xs (x ∷ ys), texts_piece x ys) (simp append_assoc) in
    let len : length (piece e) ≡ length zs = length_piece e ∙ sym (length-replicate {A = ℕ} (bytes_in e) 0) in
    rw (split (dead e), split e, at, written_after (texts xs) (piece e ++ R) zs 0, dead_piece e)
    (ap (λ (s : List ℕ). texts xs ++ s) (written_front (piece e) R zs len))

-- all words
module _ (c : ℕ) (top : (o : ℕ) → c ≡ children_of o → ⊥) (head : List ℕ) (sixteen : length head ≡ 16) (xs : List Event) (e : Event)
    (ys : List Event) (ec : e.chain ≡ c) (room : ℕ) where
  pub all_removed : all_words head (xs ++ dead e ∷ ys) room
      ≡ set_next (last c 1 xs) (first c (1 + length xs + 1) ys) (written (all_words head (xs ++ e ∷ ys) room) ((1 + length xs) * 16)
      (replicate 16 0))
  unfolding all_words set_next linked
  all_removed =
      let z = replicate {A = ℕ} 16 0 in
      let Z = replicate {A = ℕ} room 0 in
      let W = words_from 1 0 (xs ++ e ∷ ys) in
      let n = first c (1 + length xs + 1) ys in
      let at : (1 + length xs) * 16 ≡ length head + length xs * 16 = omega arith in
      let lw : length W ≡ (length xs + suc (length ys)) * 16 = length_from 1 0 (xs ++ e ∷ ys)
      ∙ ap (λ (i : ℕ). i * 16) (length-append xs (e ∷ ys)) in
      let v = written W (length xs * 16) z in
      let lv : length v ≡ length W = written_length W (length xs * 16) z (omega arith) in
      rw (
        words_removed c top e ys ec 1 0 xs (omega arith),
        at,
        written_after head (W ++ Z) z (length xs * 16),
        written_before W Z z
            (length xs * 16) (omega arith),
      )
      (by_test (eqb (last c 1 xs) 0)
      (λ t. rw t refl)
      (λ t.
      let l = last c 1 xs in
      let nz : l ≡ 0 → ⊥ = eqb-false l 0 t in
      let lo = last_from_lem c 1 xs nz in
      let hi = last_to c 1 xs nz in
      let ix : l * 16 + 1 ≡ length head + ((l - 1) * 16 + 1) = omega arith in
      rw (t, ix) (sym (set_append_add head (v ++ Z) ((l - 1) * 16 + 1) n
      ∙ ap (λ (y : List ℕ). head ++ y) (set-append_left v Z ((l - 1) * 16 + 1) n (omega arith))))))
