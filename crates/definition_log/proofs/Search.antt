-- The loop of the test over the records that were met, and its search of all records in rising order.
use Prim.Native.Nat.{ℕ, zero, suc, ◌+◌, ◌-◌, ◌≤◌, ◌<◌}
use mathlib.Core.Path.{◌≡◌, refl, sym, ap, ◌∙◌}
use mathlib.Core.Bool.{true}
use mathlib.Core.List.{List, map}
use native.Mathlib.Numerals.{add-one}
use native.Mathlib.Omega.{arith}
use borrow.Author.Tests.{le-ltb, lt-ltb}
use lib.Dec.{ltb}
use lib.ListN.{length, get_or, take, length-map, length-take, get_or-map}
use lib.Seq.{get_or-take}
use Rattle.std.specs.Prelude.{Option as Maybe, Some, None}
use Rattle.std.specs.List.{find, range_with_len}
use Rattle.std.specs.Option.{option_map}
use Rattle.paths_numbers.proofs.Texts.{by_test}
use Rattle.definition_log.specs.meaning.Sound.{Soundness, sound, broken, links_of, head_links}
use Rattle.definition_log.specs.declared.links.Mark.{Mark}
use Rattle.definition_log.specs.declared.links.Mark.TheVariants.{Unmet}
use Rattle.definition_log.specs.machine.Walk.{held, link_of, follow_all, expand, all_marks, fault_by, first_by}
use Rattle.definition_log.proofs.Follow.{length_met}

-- a word of the queue is one of the links
met_within : (q : List ℕ) (n i : ℕ) → i < n → i < length q → i < length (map link_of (take n q))
met_within q n i h k = rw (length-map, length-take) (omega arith)

-- as the link that the queue has there
met_at : (q : List ℕ) (n i : ℕ) → i < n → get_or (map link_of (take n q)) i (link_of 0) ≡ link_of (get_or q i 0)
met_at q n i h = get_or-map link_of (take n q) i 0 ∙ ap link_of (get_or-take n q i 0 h)

-- the same of what is held
held_test : (m : List Mark) (q : List ℕ) (n i : ℕ) → i < n → i < length q → ltb i (length (held m q n).met) ≡ true
unfolding held
held_test m q n i h k = lt-ltb _ _ (met_within q n i h k)

-- and its link
held_link : (m : List Mark) (q : List ℕ) (n i : ℕ) → i < n → get_or (held m q n).met i (link_of 0) ≡ link_of (get_or q i 0)
unfolding held
held_link m q n i h = met_at q n i h

-- those that record 0's links lead to
pub walk_all : (w : List ℕ) (m : List Mark) (q : List ℕ) (m' : List Mark) (q' : List ℕ) (n : ℕ) → length q' ≡ length q
    → held m' q' n ≡ follow_all w (head_links w) (held m q 0)
    → (expand (length q') w 0 (held m' q' n)).marks ≡ all_marks w m q
unfolding all_marks
walk_all w m q m' q' n l e = rw (l, e) refl

-- x is what the marks are in the end, and the invariant says that it is decided by the records that are left
module _ (w : List ℕ) (m : List Mark) (q : List ℕ) (n i : ℕ) (x : List Mark)
    (inv : x ≡ (expand (length q - i) w i (held m q n)).marks) where
  -- the queue has no more
  pub walk_end : length q ≤ i → m ≡ x
  unfolding expand held
  walk_end h = let e : length q - i ≡ 0 = omega arith in sym (inv ∙ rw e refl)

  -- no more were met
  pub walk_done : n ≤ i → i < length q → m ≡ x
  unfolding expand held
  walk_done h k =
      let e : length q - i ≡ suc (length q - (i + 1)) = omega arith in
      sym (inv ∙ rw (e, length_met q n (omega arith), le-ltb i n h) refl)

  -- the links of one are followed
  pub walk_next : (m' : List Mark) (q' : List ℕ) (n' : ℕ) → i < n → i < length q → length q' ≡ length q
      → held m' q' n' ≡ follow_all w (links_of w (link_of (get_or q i 0))) (held m q n)
      → x ≡ (expand (length q' - (i + 1)) w (i + 1) (held m' q' n')).marks
  unfolding expand
  walk_next m' q' n' h k l e =
      let f : length q - i ≡ suc (length q - (i + 1)) = omega arith in
      inv ∙ rw (f, l, e, met_test, met_link) refl
    where
      met_test : ltb i (length (held m q n).met) ≡ true
      met_test = held_test m q n i h k

      met_link : get_or (held m q n).met i (link_of 0) ≡ link_of (get_or q i 0)
      met_link = held_link m q n i h

-- what the library's search of the records finds, as the answer
abbrev pub found_fault : Maybe ℕ → Soundness
found_fault None = sound
found_fault (Some r) = broken r

found_first : (w b : List ℕ) (m : List Mark) (n a : ℕ)
    → found_fault (find (λ r. fault_by w b (get_or m r Unmet) r) (range_with_len a n)) ≡ first_by n w b m a
unfolding first_by
found_first w b m zero a = refl
found_first w b m (suc n) a =
    by_test (fault_by w b (get_or m a Unmet) a)
    (λ q. rw q refl)
    (λ q.
    rw q
    (ap (λ k. found_fault (find (λ r. fault_by w b (get_or m r Unmet) r) (range_with_len k n))) (add-one a)
    ∙ found_first w b m n (suc a)
    ∙ ap (first_by n w b m) (sym (add-one a))))

-- is the definition's
pub fault_search : (w b : List ℕ) (m : List Mark) (n : ℕ) (o : Maybe ℕ)
    → option_map (λ x. x) o ≡ find (λ r. fault_by w b (get_or m r Unmet) r) (range_with_len 0 n)
    → found_fault o ≡ first_by n w b m 0
fault_search w b m n o e = ap found_fault (sym (mapped o) ∙ e) ∙ found_first w b m n 0
  where
    mapped : (o : Maybe ℕ) → option_map (λ (x : ℕ). x) o ≡ o
    mapped None = refl
    mapped (Some x) = refl
