-- How the records stand, in one number each: what a pass in rising order stores is what is known of them.
use Prim.Native.Nat.{ℕ, zero, suc, ◌+◌, ◌*◌, ◌/◌, ◌%◌, ◌≤◌, ◌<◌}
use mathlib.Core.Path.{◌≡◌, refl, ◌∙◌}
use mathlib.Core.Bool.{true, false}
use mathlib.Core.List.{List}
use mathlib.Core.Option.{Option, some, none}
use native.Mathlib.Omega.{arith}
use native.Mathlib.Numerals.{add-one}
use borrow.Author.Tests.{ne_eqb, eqb-true}
use lib.Dec.{eqb}
use lib.ListN.{length, get_or, replicate, length-replicate, get_or-replicate}
use Rattle.paths_numbers.proofs.Texts.{by_test, not_both}
use Rattle.input.specs.meaning.Input.{record_count, kind_at, next_at, child_at, second_at}
use Rattle.input.specs.meaning.Place.{InputPlace, child_place, second_place}
use Rattle.input.specs.machine.Rising.{looked, known}
use Rattle.input.specs.meaning.Rows.{Visit}
use Rattle.input.specs.machine.RowsPass.{number_of, stored, stand_of, visit_at, below, led_on, Stands, is_reached, breaks, fault_by}
use Rattle.input.proofs.RowsTests.{place_back, in_places}
use Rattle.input.proofs.RowsMarks.{stored_length, stored_at}

-- none is known at first
pub stands_start : (words s : List ℕ) (n : ℕ) → s ≡ replicate n 0 → record_count words ≤ n → Stands words 0 s
unfolding known stand_of
stands_start words s n e h =
    record {
      room = rw (e, length-replicate) h;
      tell = λ k b. rw e (get_or-replicate n k 0 0 (rw (e, length-replicate) at b));
    }

-- record 0 leads to the first top item
pub stands_first : (words s s' : List ℕ) (a : ℕ) → Stands words 0 s → a ≡ child_at words 0 → s' ≡ stored s a 17 → Stands words 1 s'
unfolding known looked stand_of
stands_first words s s' a h p e =
    record { room = rw long h.room; tell = λ k b. tell k (rw long at b) }
  where
    long : length s' ≡ length s
    long = rw (e, stored_length) refl

    tell : (k : ℕ) → k < length s → get_or s' k 0 ≡ stand_of (known words 1 k)
    tell k b =
        rw (e, stored_at s a 17 k 0 b, ← p)
        (by_test (eqb k a) (λ q. rw q refl) (λ q. rw q (h.tell k b)))

-- what is stored below a record that stands so
pub below_stand : (v : Visit) (place : InputPlace) → below (stand_of (some v)) place ≡ suc v.depth * 16 + number_of place
unfolding below stand_of
below_stand v place = omega (arith, (in_places v.place).most)

-- a record that is known stands at no 0
pub stand_some : (v : Visit) → eqb (stand_of (some v)) 0 ≡ false
unfolding stand_of
stand_some v = ne_eqb _ _ (λ (z : v.depth * 16 + number_of v.place ≡ 0). omega (arith, (in_places v.place).least))

-- the record that a number tells of
pub stand_back : (v : Visit) (k : ℕ) → v.number ≡ k → visit_at k (stand_of (some v)) ≡ v
unfolding stand_of
stand_back v k e =
    let d : (v.depth * 16 + number_of v.place) / 16 ≡ v.depth = omega (arith, (in_places v.place).most) in
    let p : (v.depth * 16 + number_of v.place) % 16 ≡ number_of v.place = omega (arith, (in_places v.place).most) in
    rw (d, p, place_back, ← e) refl

-- three links followed, the last first
module _ (words : List ℕ) (r stand : ℕ) (s s' s'' s''' : List ℕ) (kind a b d p q : ℕ) (k : kind ≡ kind_at words r)
    (ea : a ≡ next_at words r) (eb : b ≡ child_at words r) (ed : d ≡ second_at words r)
    (ep : p ≡ number_of (second_place kind)) (eq : q ≡ number_of (child_place kind)) where
  pub led_three : (stand ≡ 0 → ⊥) → s' ≡ stored s d ((stand / 16 + 1) * 16 + p) → s'' ≡ stored s' b ((stand / 16 + 1) * 16 + q)
      → s''' ≡ stored s'' a stand
      → s''' ≡ led_on words r stand s
  unfolding led_on below
  led_three n e e' e'' = rw (e'', e', e, ea, eb, ed, ep, eq, k, ne_eqb stand 0 n) refl

-- how the records stand with what one more tells
module _ (words : List ℕ) (r : ℕ) (s : List ℕ) (h : Stands words (suc r) s) where
  -- what stands below it
  abbrev under : Visit → InputPlace → ℕ
  under v place = below (stand_of (some v)) place

  abbrev one : Visit → List ℕ
  one v = stored s (second_at words (suc r)) (under v (second_place (kind_at words (suc r))))

  abbrev two : Visit → List ℕ
  two v = stored (one v) (child_at words (suc r)) (under v (child_place (kind_at words (suc r))))

  -- by what is known of it
  led_tell : (o : Option Visit) (k : ℕ) → k < length s
      → get_or (led_on words (suc r) (stand_of o) s) k 0 ≡ stand_of (looked words (suc r) k o (known words (suc r) k))
  unfolding led_on looked stand_of
  led_tell none k b = h.tell k b
  led_tell (some v) k b =
      rw (
        stand_some v,
        stored_at (two v) (next_at words (suc r)) (stand_of (some v)) k 0 (rw (stored_length, stored_length) b),
        stored_at (one v) (child_at words (suc r)) (under v (child_place (kind_at words (suc r)))) k 0 (rw stored_length b),
        stored_at s (second_at words (suc r)) (under v (second_place (kind_at words (suc r)))) k 0 b,
        below_stand v (second_place (kind_at words (suc r))),
        below_stand v (child_place (kind_at words (suc r))),
      )
      (by_test (eqb k (next_at words (suc r))) (λ x. rw x refl)
      (λ x. by_test (eqb k (child_at words (suc r))) (λ y. rw (x, y) refl)
      (λ y. by_test (eqb k (second_at words (suc r))) (λ z. rw (x, y, z) refl)
      (λ z. rw (x, y, z) (h.tell k b)))))

  led_length : (stand : ℕ) → length (led_on words (suc r) stand s) ≡ length s
  unfolding led_on
  led_length stand = by_test (eqb stand 0) (λ x. rw x refl) (λ x. rw (x, stored_length, stored_length, stored_length) refl)

  stands_suc : (stand : ℕ) (s' : List ℕ) → stand ≡ get_or s (suc r) 0 → suc r < length s → s' ≡ led_on words (suc r) stand s
      → Stands words (suc (suc r)) s'
  unfolding known
  stands_suc stand s' e b q =
      let long : length s' ≡ length s = rw (q, led_length) refl in
      let own : stand ≡ stand_of (known words (suc r) (suc r)) = e ∙ h.tell (suc r) b in
      record { room = rw long h.room; tell = λ k x. rw (q, own) (led_tell (known words (suc r) (suc r)) k (rw long at x)) }

pub stands_more : (words : List ℕ) (r : ℕ) (s : List ℕ) (stand : ℕ) (s' : List ℕ) → 1 ≤ r → Stands words r s → stand ≡ get_or s r 0
    → r < length s
    → s' ≡ led_on words r stand s → Stands words (r + 1) s'
stands_more words zero s stand s' n h e b q = absurd (omega arith)
stands_more words (suc r) s stand s' n h e b q = rw (add-one (suc r)) (stands_suc words r s h stand s' e b q)

-- no number is large: a record's depth is at most the number of records looked at
looked_most : (words : List ℕ) (r k : ℕ) (here before : Option Visit) → stand_of here ≤ r * 16 + 10 → stand_of before ≤ r * 16 + 10
    → stand_of (looked words r k here before) ≤ suc r * 16 + 10
unfolding looked stand_of
looked_most words zero k here before a b = by_test (eqb k (child_at words 0)) (λ x. rw x (omega arith)) (λ x. rw x (omega arith))
looked_most words (suc r) k none before a b = omega arith
looked_most words (suc r) k (some v) before a b =
    let n = in_places v.place in
    by_test (eqb k (next_at words (suc r))) (λ x. rw x (omega arith))
    (λ x. by_test (eqb k (child_at words (suc r))) (λ y. rw (x, y) (omega (arith, (in_places (child_place (kind_at words (suc r)))).most)))
    (λ y. by_test (eqb k (second_at words (suc r))) (λ z. rw (x, y, z) (omega (arith, (in_places (second_place (kind_at words (suc r)))).most)))
    (λ z. rw (x, y, z) (omega arith))))

pub stand_most : (words : List ℕ) (r k : ℕ) → stand_of (known words r k) ≤ r * 16 + 10
unfolding known stand_of
stand_most words zero k = omega arith
stand_most words (suc r) k = looked_most words r k (known words r r) (known words r k) (stand_most words r r) (stand_most words r k)

-- the fault of a record by rows 4 to 6, by whether it is reached
module _ (row : ℕ) (words text stands : List ℕ) (r : ℕ) (a : row ≡ 3 → ⊥) where
  pub fault_reached : is_reached stands r ≡ true → breaks row words text (visit_at r (get_or stands r 0)) ≡ fault_by row words text stands r
  unfolding fault_by
  fault_reached e =
      by_test (eqb r 0)
      (λ q. absurd (not_both {t = false} (rw q at e) refl))
      (λ q. by_test (eqb (get_or stands r 0) 0)
      (λ p. absurd (not_both {t = false} (rw (q, p) at e) refl))
      (λ p. rw (ne_eqb row 3 a, q, p) refl))

  pub fault_unreached : (eqb row 4 ≡ true → r ≡ 0 → ⊥) → is_reached stands r ≡ false → false ≡ fault_by row words text stands r
  unfolding fault_by
  fault_unreached n e =
      by_test (eqb r 0)
      (λ q. by_test (eqb row 4)
      (λ p. absurd (n p (eqb-true r 0 q)))
      (λ p. rw (ne_eqb row 3 a, q, p) refl))
      (λ q. by_test (eqb (get_or stands r 0) 0)
      (λ p. rw (ne_eqb row 3 a, q, p) refl)
      (λ p. absurd (not_both {t = true} refl (rw (q, p) at e))))
