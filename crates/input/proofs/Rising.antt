-- One pass over the records in rising order knows how each reached record stands, so that rows 4 to 6 find the same record by it.
use Prim.Native.Nat.{ℕ, zero, suc, ◌≤◌, ◌<◌}
use mathlib.Core.Path.{◌≡◌, refl, sym, ap, ◌∙◌}
use mathlib.Core.Bool.{Bool, true, false}
use mathlib.Core.List.{List, [], ◌∷◌, ◌++◌}
use mathlib.Core.Option.{Option, some, none}
use native.Mathlib.Decide.{ℕ_discrete}
use native.Mathlib.Omega.{arith}
use borrow.Author.Tests.{eq-eqb, eqb-true, lt-leb}
use lib.Dec.{eqb, leb}
use Rattle.paths_numbers.proofs.Texts.{by_test, not_both, is_false, both}
use Rattle.paths_numbers.specs.meaning.Lists.{any}
use Rattle.paths_numbers.proofs.Lists.{any_append, any_head, any_front, any_back}
use Rattle.input.specs.meaning.Input.{record_count, kind_at, next_at, child_at, second_at}
use Rattle.input.specs.meaning.Place.{InputPlace, items, child_place, second_place}
use Rattle.input.specs.machine.Linked.{Links, Linked, At}
use Rattle.input.specs.meaning.Rows.{row_two, links_of, Visit, visits, visits_from, reached, lowest, lowest_of}
use Rattle.input.specs.machine.Rising.{visit, looked, known, finds}
use Rattle.input.proofs.GoodNames.{never}
use Rattle.input.proofs.Search.{neither, only, lowest_same, lowest_of_rising}
use Rattle.input.proofs.Input.{visits_more}
use Rattle.input.proofs.Rows.{links, Once, linked_once, linked_apart}

-- a record that does not lead to k tells nothing of it
pub looked_apart : (words : List ℕ) (r k : ℕ) (here before : Option Visit) → any (eqb k) (links_of words r) ≡ false
    → looked words r k here before ≡ before
unfolding any looked
looked_apart words zero k here before e =
    let a = neither (eqb k (next_at words 0)) _ e in
    rw (neither (eqb k (child_at words 0)) _ a.1).0 refl
looked_apart words (suc r) k none before e = refl
looked_apart words (suc r) k (some v) before e =
    let a = neither (eqb k (next_at words (suc r))) _ e in
    let b = neither (eqb k (child_at words (suc r))) _ a.1 in
    let c = neither (eqb k (second_at words (suc r))) _ b.1 in
    rw (a.0, b.0, c.0) refl

-- how something is known of record k once record r is looked at
data Told (words : List ℕ) (r k : ℕ) (here before : Option Visit) (v : Visit) : Type 0 where
  by_top : r ≡ 0 → k ≡ child_at words 0 → visit k items 1 ≡ v → Told words r k here before v
  by_next : (u : Visit) → here ≡ some u → k ≡ next_at words r → visit k u.place u.depth ≡ v → Told words r k here before v
  by_child : (u : Visit) → here ≡ some u → k ≡ child_at words r → visit k (child_place (kind_at words r)) (suc u.depth) ≡ v
      → Told words r k here before v
  by_second : (u : Visit) → here ≡ some u → k ≡ second_at words r → visit k (second_place (kind_at words r)) (suc u.depth) ≡ v
      → Told words r k here before v
  earlier : before ≡ some v → Told words r k here before v

told : (words : List ℕ) (r k : ℕ) (here before : Option Visit) (v : Visit) → looked words r k here before ≡ some v
    → Told words r k here before v
unfolding looked
told words zero k here before v e =
    by_test (eqb k (child_at words 0)) (λ q. by_top refl (eqb-true _ _ q) (cc (rw q at e))) (λ q. earlier (rw q at e))
told words (suc r) k none before v e = earlier e
told words (suc r) k (some u) before v e =
    by_test (eqb k (next_at words (suc r))) (λ q. by_next u refl (eqb-true _ _ q) (cc (rw q at e)))
    (λ q. by_test (eqb k (child_at words (suc r))) (λ q'. by_child u refl (eqb-true _ _ q') (cc (rw (q, q') at e)))
    (λ q'. by_test (eqb k (second_at words (suc r))) (λ q''. by_second u refl (eqb-true _ _ q'') (cc (rw (q, q', q'') at e)))
    (λ q''. earlier (rw (q, q', q'') at e))))

-- what is known of record k carries its number
pub known_number : (words : List ℕ) (r k : ℕ) (v : Visit) → known words r k ≡ some v → v.number ≡ k
unfolding known
known_number words zero k v e = never e
known_number words (suc r) k v e = go (known_number words r k v) (told words r k (known words r r) (known words r k) v e)
  where
    go : (known words r k ≡ some v → v.number ≡ k) → Told words r k (known words r r) (known words r k) v → v.number ≡ k
    go f (by_top z p q) = cc q
    go f (by_next u h p q) = cc q
    go f (by_child u h p q) = cc q
    go f (by_second u h p q) = cc q
    go f (earlier h) = f h

module _ (words : List ℕ) (e : row_two words ≡ none) where
  abbrev up : Linked words
  up = links words e

  -- what is known of record k when record r has led to it stays known until k is looked at
  known_stays : (r k s : ℕ) (v : Visit) → (k ≡ 0 → ⊥) → any (eqb k) (links_of words r) ≡ true → k < record_count words → r < s → s ≤ k
      → known words (suc r) k ≡ some v → known words s k ≡ some v
  unfolding known
  known_stays r k zero v z t b h j q = absurd (omega arith)
  known_stays r k (suc s) v z t b h j q =
      elim (ℕ_discrete r s) [
        | yes p ↦ rw p at q
        | no p ↦
            looked_apart words s k _ _ (linked_apart words e r s k (omega arith) (omega arith) z t)
            ∙ known_stays r k s v z t b (omega arith) (omega arith) q
      ]

  -- a record that is known where it is looked at tells how those stand that it leads to
  module _ (r : ℕ) (v : Visit) (b : suc r < record_count words) (h : known words (suc r) (suc r) ≡ some v) where
    abbrev own : Links words (suc r)
    own = up.all (suc r) b

    abbrev once : Once words (suc r)
    once = linked_once words e (suc r) b

    known_next : (next_at words (suc r) ≡ 0 → ⊥)
        → known words (next_at words (suc r)) (next_at words (suc r)) ≡ some (visit (next_at words (suc r)) v.place v.depth)
    unfolding known looked any
    known_next z =
        let t = eq-eqb (next_at words (suc r)) (next_at words (suc r)) refl in
        known_stays (suc r) _ _ _ z (rw t refl) (own.next.within z) (own.next.up z) (omega arith) (rw (h, t) refl)

    known_child : (child_at words (suc r) ≡ 0 → ⊥)
        → known words (child_at words (suc r)) (child_at words (suc r))
        ≡ some (visit (child_at words (suc r)) (child_place (kind_at words (suc r))) (suc v.depth))
    unfolding known looked any
    known_child z =
        let t = eq-eqb (child_at words (suc r)) (child_at words (suc r)) refl in
        let n = neither (eqb (child_at words (suc r)) (next_at words (suc r))) false (once.child.own z) in
        known_stays (suc r) _ _ _ z (rw (n.0, t) refl) (own.child.within z) (own.child.up z) (omega arith) (rw (h, n.0, t) refl)

    known_second : (second_at words (suc r) ≡ 0 → ⊥)
        → known words (second_at words (suc r)) (second_at words (suc r))
        ≡ some (visit (second_at words (suc r)) (second_place (kind_at words (suc r))) (suc v.depth))
    unfolding known looked any
    known_second z =
        let t = eq-eqb (second_at words (suc r)) (second_at words (suc r)) refl in
        let n = neither (eqb (second_at words (suc r)) (next_at words (suc r))) _ (once.second.own z) in
        let c = neither (eqb (second_at words (suc r)) (child_at words (suc r))) false n.1 in
        known_stays (suc r) _ _ _ z (rw (n.0, c.0, t) refl) (own.second.within z) (own.second.up z) (omega arith)
        (rw (h, n.0, c.0, t) refl)

  -- the visits of a known record are known, each where its record is looked at
  visits_known : (test : Visit → Bool) (k f : ℕ) (place : InputPlace) (depth r : ℕ) → At words r
      → ((r ≡ 0 → ⊥) → known words r r ≡ some (visit r place depth))
      → any (only test k) (visits f words place depth r) ≡ true → finds test (known words k k) ≡ true
  unfolding visits any
  visits_known test k zero place depth r a h t = absurd (not_both {t = false} t refl)
  visits_known test k (suc f) place depth zero a h t = absurd (not_both {t = false} t refl)
  visits_known test k (suc f) place depth (suc r) a h t =
      let b = a (λ z. omega arith) in
      let q = h (λ z. omega arith) in
      let l = up.all (suc r) b in
      by_test (only test k (visit (suc r) place depth))
      (λ o. here q o)
      (λ o. by_test (any (only test k) (visits f words (child_place (kind_at words (suc r))) (suc depth) (child_at words (suc r))))
      (λ x. visits_known test k f _ _ _ l.child.within (known_child r _ b q) x)
      (λ x. by_test (any (only test k) (visits f words (second_place (kind_at words (suc r))) (suc depth) (second_at words (suc r))))
      (λ y. visits_known test k f _ _ _ l.second.within (known_second r _ b q) y)
      (λ y. visits_known test k f place depth (next_at words (suc r)) l.next.within (known_next r _ b q)
      (rw (
        o,
        any_append (only test k) (visits f words (child_place (kind_at words (suc r))) (suc depth) (child_at words (suc r))) _,
        x,
        any_append (only test k) (visits f words (second_place (kind_at words (suc r))) (suc depth) (second_at words (suc r))) _,
        y,
      ) at t))))
    where
      here : known words (suc r) (suc r) ≡ some (visit (suc r) place depth) → only test k (visit (suc r) place depth) ≡ true
          → finds test (known words k k) ≡ true
      here q o =
          let x = both (eqb (suc r) k) (test (visit (suc r) place depth)) o in
          let p : suc r ≡ k = eqb-true (suc r) k x.0 in
          rw (← p) (rw q x.1)

  -- what the visits below a record or behind it have, those from it on have
  module _ (test : Visit → Bool) (place : InputPlace) (depth r : ℕ) (b : suc r < record_count words) where
    abbrev from : List Visit
    from = visits_from words place depth (suc r)

    abbrev below : List Visit
    below = visits_from words (child_place (kind_at words (suc r))) (suc depth) (child_at words (suc r))

    abbrev beside : List Visit
    beside = visits_from words (second_place (kind_at words (suc r))) (suc depth) (second_at words (suc r))

    abbrev behind : List Visit
    behind = visits_from words place depth (next_at words (suc r))

    has_rest : any test (below ++ (beside ++ behind)) ≡ true → any test from ≡ true
    has_rest t = rw (visits_more words up place depth (suc r) (λ z. omega arith) b) (any_back test (visit (suc r) place depth ∷ []) _ t)

    has_below : any test below ≡ true → any test from ≡ true
    has_below t = has_rest (any_front test below (beside ++ behind) t)

    has_beside : any test beside ≡ true → any test from ≡ true
    has_beside t = has_rest (any_back test below (beside ++ behind) (any_front test beside behind t))

    has_behind : any test behind ≡ true → any test from ≡ true
    has_behind t = has_rest (any_back test below (beside ++ behind) (any_back test beside behind t))

  -- and what is known is reached, with the visits from there on
  module _ (test : Visit → Bool) (k : ℕ) (v : Visit) (t : any test (visits_from words v.place v.depth k) ≡ true) where
    led : (r : ℕ) → r < record_count words → ((u : Visit) → known words r r ≡ some u
        → any test (visits_from words u.place u.depth r) ≡ true → any test (reached words) ≡ true)
        → (known words r k ≡ some v → any test (reached words) ≡ true) → Told words r k (known words r r) (known words r k) v
        → any test (reached words) ≡ true
    unfolding known reached
    led r b f g (by_top z p q) = rw (← p) (rw (← q) at t)
    led zero b f g (by_next u h p q) = never h
    led (suc r) b f g (by_next u h p q) = f u h (has_behind test u.place u.depth r b (rw (← p) (rw (← q) at t)))
    led zero b f g (by_child u h p q) = never h
    led (suc r) b f g (by_child u h p q) = f u h (has_below test u.place u.depth r b (rw (← p) (rw (← q) at t)))
    led zero b f g (by_second u h p q) = never h
    led (suc r) b f g (by_second u h p q) = f u h (has_beside test u.place u.depth r b (rw (← p) (rw (← q) at t)))
    led r b f g (earlier h) = g h

  known_reached : (test : Visit → Bool) (r k : ℕ) (v : Visit) → r ≤ record_count words → known words r k ≡ some v
      → any test (visits_from words v.place v.depth k) ≡ true → any test (reached words) ≡ true
  unfolding known
  known_reached test zero k v b h t = never h
  known_reached test (suc r) k v b h t =
      led test k v t r (omega arith) (λ u q x. known_reached test r r u (omega arith) q x) (λ q. known_reached test r k v (omega arith) q t)
      (told words r k (known words r r) (known words r k) v h)

  -- the first top item is known
  known_top : 0 < record_count words → (child_at words 0 ≡ 0 → ⊥)
      → known words (child_at words 0) (child_at words 0) ≡ some (visit (child_at words 0) items 1)
  unfolding known looked any
  known_top b z =
      let l = (up.all 0 b).child in
      let t = eq-eqb (child_at words 0) (child_at words 0) refl in
      let n = neither (eqb (child_at words 0) (next_at words 0)) false ((linked_once words e 0 b).child.own z) in
      known_stays 0 _ _ _ z (rw (n.0, t) refl) (l.within z) (l.up z) (omega arith) (rw t refl)

  -- what is known where record k is looked at is a visit of k
  own_visit : (test : Visit → Bool) (k : ℕ) (v : Visit) → k < record_count words → known words k k ≡ some v → test v ≡ true
      → any (only test k) (visits_from words v.place v.depth k) ≡ true
  unfolding known
  own_visit test zero v b h t = never h
  own_visit test (suc k) v b h t =
      let n : v ≡ visit (suc k) v.place v.depth = ap (λ (x : ℕ). visit x v.place v.depth)
      (known_number words (suc k) (suc k) v h) in
      let o : test (visit (suc k) v.place v.depth) ≡ true = rw n at t in
      rw (visits_more words up v.place v.depth (suc k) (λ z. omega arith) b)
      (any_head (only test (suc k)) _ _ (rw (eq-eqb (suc k) (suc k) refl) o))

  -- a record is found among the visits where it is found by what is known of it
  found_alike : (test : Visit → Bool) (k : ℕ) → k < record_count words → any (only test k) (reached words) ≡ finds test (known words k k)
  unfolding reached visits_from
  found_alike test k b =
      by_test (any (only test k) (reached words))
      (λ t. t ∙ sym (visits_known test k (record_count words) items 1 (child_at words 0) (up.all 0 (omega arith)).child.within
      (known_top (omega arith)) t))
      (λ t. t ∙ sym (go (known words k k) refl t))
    where
      go : (o : Option Visit) → known words k k ≡ o → any (only test k) (reached words) ≡ false → finds test o ≡ false
      go none q t = refl
      go (some v) q t = is_false (test v) (λ y. not_both (known_reached (only test k) k k v (omega arith) q (own_visit test k v b q y)) t)

  -- all visits are of records that there are
  visits_within : (f : ℕ) (place : InputPlace) (depth r : ℕ) → At words r
      → any (λ (v : Visit). leb (record_count words) v.number) (visits f words place depth r) ≡ false
  unfolding visits any
  visits_within zero place depth r a = refl
  visits_within (suc f) place depth zero a = refl
  visits_within (suc f) place depth (suc r) a =
      let b = a (λ z. omega arith) in
      let l = up.all (suc r) b in
      let past = λ (v : Visit). leb (record_count words) v.number in
      rw (
        lt-leb (record_count words) (suc r) b,
        any_append past (visits f words (child_place (kind_at words (suc r))) (suc depth) (child_at words (suc r))) _,
        visits_within f (child_place (kind_at words (suc r))) (suc depth) (child_at words (suc r)) l.child.within,
        any_append past (visits f words (second_place (kind_at words (suc r))) (suc depth) (second_at words (suc r))) _,
        visits_within f (second_place (kind_at words (suc r))) (suc depth) (second_at words (suc r)) l.second.within,
        visits_within f place depth (next_at words (suc r)) l.next.within,
      )
      refl

  -- the lowest record among the visits is that of a search in rising order, by what is then known of each record
  pub rising : (test : Visit → Bool) → 0 < record_count words
      → lowest_of test (reached words) ≡ lowest (λ (k : ℕ). finds test (known words k k)) (record_count words) 0
  unfolding reached visits_from
  rising test b =
      lowest_of_rising test (record_count words) (reached words)
      (visits_within (record_count words) items 1 (child_at words 0) (up.all 0 b).child.within)
      ∙ lowest_same _ _ (record_count words) 0 (λ k x y. found_alike test k (omega arith))
