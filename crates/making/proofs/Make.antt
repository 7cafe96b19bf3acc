-- A record made: sixteen words written behind the others and one link set give the words of one record more.
use Prim.Native.Nat.{ℕ, zero, suc, ◌+◌, ◌*◌, ◌-◌, ◌≤◌, ◌<◌}
use mathlib.Core.Path.{◌≡◌, refl, sym, ap, ◌∙◌}
use mathlib.Core.Bool.{true, false}
use mathlib.Core.List.{List, [], ◌∷◌, ◌++◌, append_assoc}
use native.Mathlib.Omega.{arith}
use borrow.Author.Tests.{ne_eqb}
use lib.Dec.{eqb}
use lib.ListN.{length, set, drop, replicate, length-append}
use lib.Seq.{set-append_left, take-append_seam, drop-append-add}
use Rattle.paths_numbers.specs.meaning.Text.{written}
use Rattle.making.specs.machine.Events.{Event, last, words16, bytes_in, words_from, end_of, all_words}
use Rattle.making.specs.machine.Made.{set_link}
use Rattle.making.proofs.Append.{length_words, Safe, Owner, linked_none, linked_some, last_to, words_append}
use Rattle.making.proofs.Append.{words_first_child, set_append_add}

-- so many zeros
abbrev zeros : ℕ → List ℕ
zeros n = replicate n 0

-- zeros dropped from zeros
drop_zeros : (n k : ℕ) → k ≤ n → drop k (zeros n) ≡ zeros (n - k)
drop_zeros n zero h = let e : n - 0 ≡ n = omega arith in rw e refl
drop_zeros zero (suc k) h = absurd (omega arith)
drop_zeros (suc n) (suc k) h =
    let e : suc n - suc k ≡ n - k = omega arith in
    rw e (drop_zeros n k (omega arith))

-- words written where the zeros start
pub written_behind : (p s : List ℕ) (room at : ℕ) → at ≡ length p → length s ≤ room
    → written (p ++ replicate room 0) at s ≡ p ++ (s ++ replicate (room - length s) 0)
unfolding written
written_behind p s room at e h =
    rw (
      e,
      take-append_seam p (replicate room 0),
      drop-append-add p (replicate room 0) (length s),
      drop_zeros room (length s) h,
      append_assoc p s,
    ) refl

-- how many words the records take
pub length_from : (k at : ℕ) (es : List Event) → length (words_from k at es) ≡ length es * 16
unfolding words_from
length_from k at [] = refl
length_from k at (e ∷ es) = simp length-append (omega (arith, length_words k at e es, length_from (k + 1) (at + bytes_in e) es))

-- where the link to the new record stands: behind the last record of its chain, below the record whose first child it is, or nowhere
pub data Spot (c : ℕ) (es : List Event) : ℕ → Type 0 where
  spot_none : last c 1 es ≡ 0 → Safe c 1 es → Spot c es 0
  spot_last : {l : ℕ} → last c 1 es ≡ l → (l ≡ 0 → ⊥) → Safe c 1 es → Spot c es (l * 16 + 1)
  spot_child : {o : ℕ} → 1 ≤ o → o < 1 + length es → Owner c o 1 es → Spot c es (o * 16 + 6)

module _ (c : ℕ) (e : Event) (alive : e.alive ≡ true) (q : e.chain ≡ c) (head : List ℕ) (sixteen : length head ≡ 16) (es : List Event)
  where
    abbrev new : List ℕ
    new = words16 (1 + length es) (end_of 0 es) e []

    -- all words with the record written, before the link is set
    put : (room : ℕ) → 16 ≤ room → written (all_words head es room) ((1 + length es) * 16) new ≡ head
        ++ ((words_from 1 0 es ++ new) ++ zeros (room - 16))
    unfolding all_words
    put room h =
        let n = length_words (1 + length es) (end_of 0 es) e [] in
        let w = words_from 1 0 es in
        let at : (1 + length es) * 16 ≡ length (head ++ w) = simp length-append (omega (arith, length_from 1 0 es)) in
        rw (← append_assoc head w (zeros room), written_behind (head ++ w) new room ((1 + length es) * 16) at (omega arith), n)
        (append_assoc head w (new ++ zeros (room - 16)) ∙ ap (λ (x : List ℕ). head ++ x) (sym (append_assoc w new (zeros (room - 16)))))

    -- a word of the records set in all words
    set_inside : (x : List ℕ) (z i j n : ℕ) → i ≡ 16 + j → j < length x → set (head ++ (x ++ zeros z)) i n ≡ head ++ (set x j n ++ zeros z)
    set_inside x z i j n ei h =
        let k : i ≡ length head + j = omega arith in
        rw k (set_append_add head (x ++ zeros z) j n ∙ ap (λ (y : List ℕ). head ++ y) (set-append_left x (zeros z) j n h))

    -- the record made
    pub make_words : (room at : ℕ) → 16 ≤ room → Spot c es at
        → set_link at (1 + length es) (written (all_words head es room) ((1 + length es) * 16) new) ≡ all_words head (es ++ e ∷ []) (room - 16)
    unfolding set_link all_words
    make_words room at h (spot_none z s) =
        let w = words_from 1 0 es ++ new in
        let all : words_from 1 0 (es ++ e ∷ []) ≡ w = words_append c e alive q 1 0 es (omega arith) s
        ∙ rw z (linked_none 1 (1 + length es) w) in
        put room h ∙ rw all refl
    make_words room at h (spot_last {l} z n s) =
        let nz : eqb (l * 16 + 1) 0 ≡ false = ne_eqb (l * 16 + 1) 0 (omega arith) in
        let lnz : eqb l 0 ≡ false = ne_eqb l 0 n in
        let up = last_to c 1 es (λ y. n (sym z ∙ y)) in
        let w = words_from 1 0 es ++ new in
        let len : length w ≡ length es * 16 + 16 = simp length-append
        (omega (arith, length_from 1 0 es, length_words (1 + length es) (end_of 0 es) e [])) in
        let all : words_from 1 0 (es ++ e ∷ []) ≡ set w ((l - 1) * 16 + 1) (1 + length es) = words_append c e alive q 1 0 es (omega arith) s
        ∙ rw z (linked_some l 1 (1 + length es) w n) in
        rw (nz, put room h, all) (set_inside w (room - 16) (l * 16 + 1) ((l - 1) * 16 + 1) (1 + length es) (omega arith)
        (omega (arith, rw z at up)))
    make_words room at h (spot_child {o} p lt ow) =
        let nz : eqb (o * 16 + 6) 0 ≡ false = ne_eqb (o * 16 + 6) 0 (omega arith) in
        let w = words_from 1 0 es ++ new in
        let len : length w ≡ length es * 16 + 16 = simp length-append
        (omega (arith, length_from 1 0 es, length_words (1 + length es) (end_of 0 es) e [])) in
        rw (nz, put room h, words_first_child c e alive q o 1 0 es (omega arith) ow)
        (set_inside w (room - 16) (o * 16 + 6) ((o - 1) * 16 + 6) (1 + length es) (omega arith) (omega arith))
