-- Rows 3 to 6 by a search in rising order over how the records stand: it finds what the rows say.
use Prim.Native.Nat.{ℕ, zero, suc, ◌≤◌, ◌<◌}
use mathlib.Core.Path.{◌≡◌, refl, sym, ap, ◌∙◌}
use mathlib.Core.Bool.{Bool, true, false, cond}
use mathlib.Core.List.{List}
use mathlib.Core.Option.{Option, some, none}
use native.Mathlib.Decide.{ℕ_discrete}
use native.Mathlib.Omega.{arith}
use borrow.Author.Tests.{ne_eqb}
use lib.Dec.{eqb}
use lib.ListN.{get_or}
use Rattle.paths_numbers.specs.meaning.Lists.{any}
use Rattle.input.specs.meaning.Input.{record_count}
use Rattle.input.specs.meaning.Rows.{refused, wrong_size, row_two, links_of, row_three, Visit, row_four, row_five, row_six, reached, lowest}
use Rattle.input.specs.meaning.Rows.{lowest_of, verdict}
use Rattle.input.specs.machine.Rising.{known, finds}
use Rattle.input.specs.machine.RowsPass.{stand_of, Stands, breaks, fault_by, first_fault, rows_from, later_rows}
use Rattle.input.proofs.Search.{lowest_same}
use Rattle.input.specs.machine.Linked.{Link}
use Rattle.input.proofs.Rows.{links}
use Rattle.input.proofs.Rising.{looked_apart, known_number, rising}
use Rattle.input.proofs.RowsStands.{stand_some, stand_back}

-- a search from the second record on, where the other test does not find record 0
lowest_rest : (p q : ℕ → Bool) (n : ℕ) → 0 < n → q 0 ≡ false → ((k : ℕ) → 1 ≤ k → k < n → p k ≡ q k)
    → lowest p n 0 ≡ cond (p 0) (some 0) (lowest q n 0)
unfolding lowest
lowest_rest p q zero b z h = absurd (omega arith)
lowest_rest p q (suc n) b z h = rw (z, lowest_same p q n 1 (λ k x y. h k x (omega arith))) refl

-- a link that goes up does not lead to k from k or above
link_apart : (words : List ℕ) (r k l : ℕ) → Link words r l → (k ≡ 0 → ⊥) → k ≤ r → eqb k l ≡ false
link_apart words r k l h n b =
    ne_eqb k l (λ (e : k ≡ l). let x = h.up (λ (z : l ≡ 0). n (e ∙ z)) in omega arith)

module _ (words : List ℕ) (e : row_two words ≡ none) where
  links_apart : (r k : ℕ) → r < record_count words → (k ≡ 0 → ⊥) → k ≤ r → any (eqb k) (links_of words r) ≡ false
  unfolding any
  links_apart r k b n h =
      let l = (links words e).all r b in
      rw (link_apart words r k _ l.next n h, link_apart words r k _ l.child n h, link_apart words r k _ l.second n h) refl

  -- what is known of a record when it is looked at stays
  known_stays : (r k : ℕ) → r ≤ record_count words → (k ≡ 0 → ⊥) → k ≤ r → known words r k ≡ known words k k
  unfolding known
  known_stays zero k b n h = absurd (n (omega arith))
  known_stays (suc r) k b n h =
      elim (ℕ_discrete k (suc r)) [
        | yes p ↦ rw p refl
        | no p ↦ looked_apart words r k _ _ (links_apart r k (omega arith) n (omega arith)) ∙ known_stays r k (omega arith) n (omega arith)
      ]

  module _ (text stands : List ℕ) (h : Stands words (record_count words) stands) where
    -- how a record stands when it is looked at
    stand_at : (k : ℕ) → (k ≡ 0 → ⊥) → k < record_count words → get_or stands k 0 ≡ stand_of (known words k k)
    stand_at k n b =
        h.tell k (omega (arith, h.room)) ∙ ap stand_of (known_stays (record_count words) k (omega arith) n (omega arith))

    -- the fault of a reached record
    fault_known : (row k : ℕ) (o : Option Visit) → (row ≡ 3 → ⊥) → (k ≡ 0 → ⊥) → get_or stands k 0 ≡ stand_of o
        → ((v : Visit) → o ≡ some v → v.number ≡ k)
        → fault_by row words text stands k ≡ finds (breaks row words text) o
    unfolding fault_by stand_of
    fault_known row k none a n s q = rw (ne_eqb row 3 a, ne_eqb k 0 n, s) refl
    fault_known row k (some v) a n s q =
        rw (ne_eqb row 3 a, ne_eqb k 0 n, s, stand_some v, stand_back v k (q v refl)) refl

    rest_found : (row : ℕ) → (row ≡ 3 → ⊥) → 0 < record_count words
        → lowest (fault_by row words text stands) (record_count words) 0
        ≡ cond (fault_by row words text stands 0) (some 0) (lowest_of (breaks row words text) (reached words))
    unfolding known
    rest_found row a b =
        lowest_rest (fault_by row words text stands) (λ (k : ℕ). finds (breaks row words text) (known words k k)) (record_count words) b refl
        (λ k x y.
        fault_known row k (known words k k) a (λ z. omega arith) (stand_at k (λ z. omega arith) y) (λ v z. known_number words k k v z))
        ∙ ap (λ (o : Option ℕ). cond (fault_by row words text stands 0) (some 0) o) (sym (rising words e (breaks row words text) b))

    module _ (some_records : 0 < record_count words) where
      found_three : first_fault 3 words text stands ≡ row_three words text
      unfolding first_fault row_three fault_by
      found_three = refl

      found_four : first_fault 4 words text stands ≡ row_four words
      unfolding first_fault row_four fault_by breaks
      found_four = rest_found 4 (λ n. omega arith) some_records

      found_five : first_fault 5 words text stands ≡ row_five words text
      unfolding first_fault row_five fault_by breaks
      found_five = rest_found 5 (λ n. omega arith) some_records

      found_six : first_fault 6 words text stands ≡ row_six words
      unfolding first_fault row_six fault_by breaks
      found_six = rest_found 6 (λ n. omega arith) some_records

      -- what the search says is what rows 3 to 6 say
      pub found_rows : rows_from 4 3 words text stands ≡ later_rows words text
      unfolding rows_from later_rows
      found_rows = rw (found_three, found_four, found_five, found_six) refl

-- the verdict, by rows 1 and 2 and what the others say
module _ (words text : List ℕ) where
  pub verdict_one : wrong_size words text ≡ true → refused 1 0 ≡ verdict words text
  unfolding verdict
  verdict_one a = rw a refl

  pub verdict_two : (r : ℕ) → wrong_size words text ≡ false → row_two words ≡ some r → refused 2 r ≡ verdict words text
  unfolding verdict
  verdict_two r a b = rw (a, b) refl

  pub verdict_later : wrong_size words text ≡ false → row_two words ≡ none → later_rows words text ≡ verdict words text
  unfolding verdict later_rows
  verdict_later a b = rw (a, b) refl
