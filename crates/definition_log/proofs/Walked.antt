-- The links that the test follows are those of row 8's walk, in the same order: the marks in the end are those after all of them
-- (`marks_say`). The records that were met wait for their links, which stand for the links that wait in the walk; as a record is met first
-- only once, neither the queue nor the bound on links is too small.
use Prim.Native.Nat.{ℕ, zero, suc, ◌+◌, ◌*◌, ◌≤◌, ◌<◌}
use mathlib.Core.Path.{◌≡◌, refl, sym, ap, ◌∙◌}
use mathlib.Core.Bool.{true, false, cond}
use mathlib.Core.List.{List, [], ◌∷◌, ◌++◌, append_assoc, append-nil}
use native.Mathlib.Nat.{zero-add}
use native.Mathlib.Numerals.{add-one}
use native.Mathlib.Omega.{arith}
use borrow.Author.Tests.{ne_eqb, eqb-true, eqb-false, lt-ltb, ltb-true, ltb-false}
use lib.Dec.{eqb, ltb}
use lib.ListN.{length, get_or, set, drop, length-append, length-set, drop_of_length-le}
use lib.Seq.{drop-cons, drop-append-le, get_or-set_same, get_or-set_other}
use Rattle.paths_numbers.proofs.Texts.{by_test}
use Rattle.definition_log.specs.meaning.Record.{kind_of, one_of, log_count}
use Rattle.definition_log.specs.meaning.Sound.{kinds_in, Link, links_of, head_links, times, walk, most_links, followed}
use Rattle.definition_log.specs.declared.links.Mark.{Mark}
use Rattle.definition_log.specs.declared.links.Mark.TheVariants.{Unmet, Met}
use Rattle.definition_log.specs.machine.Walk.{link_of, stored, unmet, first_mark, next_mark, Held, held, follow, follow_all, expand}
use Rattle.definition_log.specs.machine.Walk.{all_marks}
use Rattle.definition_log.proofs.Walk.{Inside, one, inside_of, inside_heads, length_of, length_heads, leads_below}
use Rattle.definition_log.proofs.Follow.{room_all}
use Rattle.definition_log.proofs.Marks.{marked}

-- how many of the first n records are not met yet
unfoldable unmarked : ℕ → List Mark → ℕ
unmarked zero m = 0
unmarked (suc k) m = cond (unmet (get_or m k Unmet)) 1 0 + unmarked k m

-- they are at most n
unmarked_most : (n : ℕ) (m : List Mark) → unmarked n m ≤ n
unfolding unmarked
unmarked_most zero m = omega arith
unmarked_most (suc k) m =
    by_test (unmet (get_or m k Unmet))
    (λ t. rw t (omega (arith, unmarked_most k m)))
    (λ t. rw t (omega (arith, unmarked_most k m)))

-- the mark of another record does not change their number
unmarked_out : (n : ℕ) (m : List Mark) (i : ℕ) (v : Mark) → n ≤ i → unmarked n (set m i v) ≡ unmarked n m
unfolding unmarked
unmarked_out zero m i v h = refl
unmarked_out (suc k) m i v h = rw (get_or-set_other m i k v Unmet (λ e. omega arith), unmarked_out k m i v (omega arith)) refl

-- a mark takes its record out of their number
module _ (m : List Mark) (i : ℕ) (v : Mark) (l : i < length m) (nz : unmet v ≡ false) where
  unmarked_set : (n : ℕ) → i < n → unmarked n m ≡ cond (unmet (get_or m i Unmet)) 1 0 + unmarked n (set m i v)
  unfolding unmarked
  unmarked_set zero h = absurd (omega arith)
  unmarked_set (suc k) h =
      by_test (eqb i k)
      (λ t.
      let e : i ≡ k = eqb-true i k t in
      rw (← e, get_or-set_same m i v Unmet l, nz, unmarked_out i m i v (omega arith), zero-add) refl)
      (λ t.
      let o : get_or (set m i v) k Unmet ≡ get_or m k Unmet = get_or-set_other m i k v Unmet (λ e. eqb-false i k t (sym e)) in
      rw (o, unmarked_set k (omega (arith, eqb-false i k t)))
      (swap (cond (unmet (get_or m k Unmet)) 1 0) (cond (unmet (get_or m i Unmet)) 1 0) (unmarked k (set m i v))))
    where
      swap : (a b c : ℕ) → a + (b + c) ≡ b + (a + c)
      swap a b c = omega arith

-- a first mark says that the record was met
first_met : (w : List ℕ) (l : Link) → unmet (first_mark w l) ≡ false
unfolding first_mark
first_met w l = by_test (one_of (kind_of w l.to) (kinds_in l.place)) (λ t. rw t refl) (λ t. rw t refl)

-- and so does a later one
next_met : (w : List ℕ) (l : Link) (m : Mark) → unmet (next_mark w l m) ≡ false
next_met w l m = by_test (unmet m) (λ t. rw t (first_met w l)) (λ t. rw t refl)

-- the links of the records that wait
unfoldable flat : List ℕ → List Link → List Link
flat w [] = []
flat w (l ∷ ls) = links_of w l ++ flat w ls

-- one more record waits behind the others
flat_last : (w : List ℕ) (a : List Link) (l : Link) → flat w (a ++ l ∷ []) ≡ flat w a ++ links_of w l
unfolding flat
flat_last w [] l = append-nil (links_of w l)
flat_last w (b ∷ a) l = rw (flat_last w a l) (sym (append_assoc (links_of w b) (flat w a) (links_of w l)))

-- the marks and the queue fit the walk: the same records were met, and there is room in the queue and in the bound for those that were not
record Ready (w : List ℕ) (head left : ℕ) (s : Held) (met : List ℕ) (ls : List Link) : Type 0 where
  agree : (r : ℕ) → r < log_count w → unmet (get_or s.marks r Unmet) ≡ eqb (times r met) 0
  inside : log_count w ≤ length s.marks
  room : length s.met + unmarked (log_count w) s.marks ≤ s.room
  begun : head ≤ length s.met
  fuel : length ls + length (flat w (drop head s.met)) + 3 * unmarked (log_count w) s.marks ≤ left

-- no record left waiting
walk_none : (left : ℕ) (w met : List ℕ) → walk left w met [] ≡ []
unfolding walk
walk_none zero w met = refl
walk_none (suc left) w met = refl

-- what following one link changes
module _ (w : List ℕ) (head left : ℕ) (s : Held) (met : List ℕ) (l : Link) (ls : List Link) (ready : Ready w head (suc left) s met (l ∷ ls))
    (lt : l.to < log_count w) where
  -- there is room for a record that is met first
  room_for : unmet (get_or s.marks l.to Unmet) ≡ true → length s.met < s.room
  room_for z =
      omega (
        arith,
        ready.room,
        ready.inside,
        rw z at (unmarked_set s.marks l.to Met (omega (arith, ready.inside)) refl
            (log_count w) lt),
      )

  -- the queue with it
  met_new : unmet (get_or s.marks l.to Unmet) ≡ true → (follow w l s).met ≡ s.met ++ l ∷ []
  unfolding follow
  met_new z = rw (z, lt-ltb _ _ (room_for z)) refl

  -- the queue where it was met before
  met_old : unmet (get_or s.marks l.to Unmet) ≡ false → (follow w l s).met ≡ s.met
  unfolding follow
  met_old n = rw n refl

  -- a record's mark
  mark_after : (r : ℕ) → r < log_count w → get_or (follow w l s).marks r Unmet ≡ cond (eqb l.to r) (next_mark w l (get_or s.marks r Unmet))
      (get_or s.marks r Unmet)
  unfolding follow stored
  mark_after r h =
      by_test (eqb l.to r)
      (λ t.
      let e : l.to ≡ r = eqb-true l.to r t in
      rw (t, ← e) (get_or-set_same s.marks l.to _ Unmet (omega (arith, ready.inside))))
      (λ t. rw t (get_or-set_other s.marks l.to r _ Unmet (λ e. eqb-false l.to r t (sym e))))

  -- the records that are not met yet
  unmarked_after : unmarked (log_count w) s.marks ≡ cond (unmet (get_or s.marks l.to Unmet)) 1 0 + unmarked (log_count w)
      (follow w l s).marks
  unfolding follow stored
  unmarked_after =
      unmarked_set s.marks l.to (next_mark w l (get_or s.marks l.to Unmet)) (omega (arith, ready.inside))
      (next_met w l (get_or s.marks l.to Unmet)) (log_count w) lt

  -- the number of marks
  length_after : length (follow w l s).marks ≡ length s.marks
  unfolding follow stored
  length_after = simp length-set

  -- the room
  room_after : (follow w l s).room ≡ s.room
  unfolding follow
  room_after = refl

  -- the links that wait, of a record that is met first
  waits_new : unmet (get_or s.marks l.to Unmet) ≡ true → flat w (drop head (follow w l s).met) ≡ flat w (drop head s.met) ++ links_of w l
  waits_new z = rw (met_new z, drop-append-le head s.met (l ∷ []) ready.begun) (flat_last w (drop head s.met) l)

  -- and of any, as in the walk
  waits_after : (ls ++ flat w (drop head s.met)) ++ cond (eqb (times l.to met) 0) (links_of w l) [] ≡ ls ++ flat w
      (drop head (follow w l s).met)
  waits_after =
      by_test (eqb (times l.to met) 0)
      (λ t. rw (t, waits_new (ready.agree l.to lt ∙ t)) (append_assoc ls (flat w (drop head s.met)) (links_of w l)))
      (λ t. rw (t, met_old (ready.agree l.to lt ∙ t)) (append-nil (ls ++ flat w (drop head s.met))))

  -- the records that were met
  agree_after : (r : ℕ) → r < log_count w → unmet (get_or (follow w l s).marks r Unmet) ≡ eqb (times r (l.to ∷ met)) 0
  unfolding times
  agree_after r h =
      rw (mark_after r h)
      (by_test (eqb l.to r)
      (λ t. rw (t, next_met w l (get_or s.marks r Unmet), ne_eqb (1 + times r met) 0 (λ e. omega arith)) refl)
      (λ t. rw (t, zero-add) (ready.agree r h)))

  -- so the marks and the queue fit the walk again
  ready_after : Ready w head left (follow w l s) (l.to ∷ met) ls
  ready_after =
      by_test (unmet (get_or s.marks l.to Unmet))
      (λ t.
      let z : unmet (get_or s.marks l.to Unmet) ≡ true = t in
      let n : length (follow w l s).met ≡ length s.met + 1 = ap length (met_new z) ∙ length-append s.met (l ∷ []) in
      let f : length (flat w (drop head (follow w l s).met)) ≡ length (flat w (drop head s.met)) + length (links_of w l) =
      ap length (waits_new z) ∙ length-append (flat w (drop head s.met)) (links_of w l) in
      let u : unmarked (log_count w) s.marks ≡ 1 + unmarked (log_count w) (follow w l s).marks = rw t at unmarked_after in
      record {
        agree = agree_after;
        inside = omega (arith, length_after, ready.inside);
        room = omega (arith, n, u, room_after, ready.room);
        begun = omega (arith, n, ready.begun);
        fuel = omega (arith, f, u, length_of w l, ready.fuel);
      })
      (λ t.
      let n : length (follow w l s).met ≡ length s.met = ap length (met_old t) in
      let f : length (flat w (drop head (follow w l s).met)) ≡ length (flat w (drop head s.met)) =
      ap (λ (x : List Link). length (flat w (drop head x))) (met_old t) in
      let u : unmarked (log_count w) s.marks ≡ 0 + unmarked (log_count w) (follow w l s).marks = rw t at unmarked_after in
      record {
        agree = agree_after;
        inside = omega (arith, length_after, ready.inside);
        room = omega (arith, n, u, room_after, ready.room);
        begun = omega (arith, n, ready.begun);
        fuel = omega (arith, f, u, ready.fuel);
      })

-- a walk in which the records from an index on are still to come, and which gives a record its mark in the end
record Went (w : List ℕ) (head : ℕ) (s : Held) (r : ℕ) (final : Mark) : Type 0 where
  left : ℕ
  met : List ℕ
  ready : Ready w head left s met []
  same : final ≡ marked w (walk left w met (flat w (drop head s.met))) r (get_or s.marks r Unmet)

module _ (w : List ℕ) (head r : ℕ) (final : Mark) (lt : r < log_count w) where
  -- links followed before them
  went_links : (ls : List Link) (left : ℕ) (s : Held) (met : List ℕ) → Inside w ls → Ready w head left s met ls
      → final ≡ marked w (walk left w met (ls ++ flat w (drop head s.met))) r (get_or s.marks r Unmet)
      → Went w head (follow_all w ls s) r final
  unfolding follow_all walk marked
  went_links [] left s met i y e = record { left = left; met = met; ready = y; same = e }
  went_links (l ∷ ls) zero s met i y e = absurd (omega (arith, y.fuel))
  went_links (l ∷ ls) (suc left) s met (one t i) y e =
      let h = (leads_below w l.to t).1 in
      went_links ls left (follow w l s) (l.to ∷ met) i (ready_after w head left s met l ls y h)
      (e ∙ rw (waits_after w head left s met l ls y h, ← (mark_after w head left s met l ls y h r lt)) refl)

module _ (w : List ℕ) (r : ℕ) (final : Mark) (lt : r < log_count w) where
  -- no record to come
  went_end : (head : ℕ) (s : Held) → Went w head s r final → length s.met ≤ head → get_or s.marks r Unmet ≡ final
  unfolding flat marked
  went_end head s g h =
      sym (g.same ∙ rw (drop_of_length-le s.met h, walk_none g.left w g.met) refl)

  -- one record to come
  went_next : (head : ℕ) (s : Held) → Went w head s r final → head < length s.met
      → Went w (head + 1) (follow_all w (links_of w (get_or s.met head (link_of 0))) s) r final
  unfolding flat
  went_next head s g h =
      let l = get_or s.met head (link_of 0) in
      let e : flat w (drop head s.met) ≡ links_of w l ++ flat w (drop (head + 1) s.met) = rw
      (drop-cons s.met head (link_of 0) h, add-one) refl in
      let n : length (flat w (drop head s.met)) ≡ length (links_of w l) + length (flat w (drop (head + 1) s.met)) =
      ap length e ∙ length-append (links_of w l) (flat w (drop (head + 1) s.met)) in
      let y = g.ready in
      went_links w (head + 1) r final lt (links_of w l) g.left s g.met (inside_of w l)
      (record { agree = y.agree; inside = y.inside; room = y.room; begun = omega arith; fuel = omega (arith, n, y.fuel) })
      (g.same ∙ rw e refl)

  -- all records to come
  went_all : (fuel head : ℕ) (s : Held) → Went w head s r final → s.room ≤ head + fuel → get_or (expand fuel w head s).marks r Unmet ≡ final
  unfolding expand
  went_all zero head s g h = went_end head s g (omega (arith, g.ready.room))
  went_all (suc fuel) head s g h =
      by_test (ltb head (length s.met))
      (λ t.
      rw t
      (went_all fuel (head + 1) (follow_all w (links_of w (get_or s.met head (link_of 0))) s) (went_next head s g (ltb-true _ _ t))
      (omega (arith, room_all w (links_of w (get_or s.met head (link_of 0))) s))))
      (λ t. rw t (went_end head s g (ltb-false _ _ t)))

-- the start: no record is met, and record 0's links wait
ready_start : (w : List ℕ) (m : List Mark) (q : List ℕ)
    → ((r : ℕ) → r < log_count w → get_or m r Unmet ≡ Unmet) → log_count w ≤ length m → log_count w ≤ length q
    → Ready w 0 (most_links w) (held m q 0) [] (head_links w)
unfolding held flat times
ready_start w m q z a b =
    record {
      agree = λ r h. rw (z r h) refl;
      inside = a;
      room = omega (arith, unmarked_most (log_count w) m);
      begun = omega arith;
      fuel = omega (arith, length_heads w, unmarked_most (log_count w) m);
    }

-- the links that wait then
start_waits : (w : List ℕ) (m : List Mark) (q : List ℕ) → head_links w ++ flat w (drop 0 (held m q 0).met) ≡ head_links w
unfolding held flat
start_waits w m q = append-nil (head_links w)

-- the marks then
start_marks : (m : List Mark) (q : List ℕ) → (held m q 0).marks ≡ m
unfolding held
start_marks m q = refl

-- the room then
start_room : (m : List Mark) (q : List ℕ) → (held m q 0).room ≡ length q
unfolding held
start_room m q = refl

-- the marks in the end are those after all links that are followed
pub marks_say : (w : List ℕ) (m : List Mark) (q : List ℕ)
    → ((r : ℕ) → r < log_count w → get_or m r Unmet ≡ Unmet) → log_count w ≤ length m → log_count w ≤ length q
    → (r : ℕ) → r < log_count w → get_or (all_marks w m q) r Unmet ≡ marked w (followed w) r Unmet
unfolding all_marks followed
marks_say w m q z a b r h =
    went_all w r (marked w (followed w) r Unmet) h (length q) 0 (follow_all w (head_links w) (held m q 0))
    (went_links w 0 r (marked w (followed w) r Unmet) h (head_links w) (most_links w) (held m q 0) [] (inside_heads w)
    (ready_start w m q z a b)
    (rw (start_waits w m q, start_marks m q, z r h) refl))
    (omega (arith, room_all w (head_links w) (held m q 0), start_room m q))
