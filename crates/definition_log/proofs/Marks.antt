-- What a record's mark says after links are followed: whether any leads to it, and whether two do or one does not fit. By it the record is
-- at fault as row 8 asks (`fault_by_mark`), and the lowest such record is found (`first_by_marks`).
use Prim.Native.Nat.{ℕ, zero, suc, ◌+◌, ◌≤◌, ◌<◌}
use mathlib.Core.Path.{◌≡◌, refl, sym, ◌∙◌}
use mathlib.Core.Bool.{Bool, true, false, cond}
use mathlib.Core.List.{List, [], ◌∷◌}
use native.Mathlib.Nat.{zero-add}
use native.Mathlib.Omega.{arith}
use borrow.Author.Tests.{le-leb, lt-leb, eqb-true, leb-true, leb-false, ne_eqb}
use lib.Dec.{eqb, leb}
use lib.ListN.{get_or}
use Rattle.paths_numbers.proofs.Texts.{by_test}
use Rattle.definition_log.specs.meaning.Record.{one_of, kind_of}
use Rattle.definition_log.specs.meaning.Sound.{Link, kinds_in, targets, times, times_reached, unfit, any_of, links_out, texts_out}
use Rattle.definition_log.specs.meaning.Sound.{record_fault}
use Rattle.definition_log.specs.meaning.Sound.{at_fault, first_fault}
use Rattle.definition_log.specs.declared.links.Mark.{Mark}
use Rattle.definition_log.specs.declared.links.Mark.TheVariants.{Unmet, Met, Wrong}
use Rattle.definition_log.specs.machine.Walk.{first_mark, next_mark, record_wrong, fault_by, first_by}

-- the mark of a record after links, from the one it has
unfoldable pub marked : List ℕ → List Link → ℕ → Mark → Mark
marked w [] r m = m
marked w (l ∷ ls) r m = marked w ls r (cond (eqb l.to r) (next_mark w l m) m)

-- a record at fault stays so
marked_two : (w : List ℕ) (ls : List Link) (r : ℕ) → marked w ls r Wrong ≡ Wrong
unfolding marked
marked_two w [] r = refl
marked_two w (l ∷ ls) r = by_test (eqb l.to r) (λ t. rw t (marked_two w ls r)) (λ t. rw t (marked_two w ls r))

-- one that was reached is at fault if another link leads to it
marked_one : (w : List ℕ) (ls : List Link) (r : ℕ) → marked w ls r Met ≡ cond (leb 1 (times_reached ls r)) Wrong Met
unfolding marked times targets
marked_one w [] r = refl
marked_one w (l ∷ ls) r =
    by_test (eqb l.to r)
    (λ t. rw (t, marked_two w ls r, le-leb 1 (1 + times r (targets ls)) (omega arith)) refl)
    (λ t. rw (t, zero-add) (marked_one w ls r))

-- no link does not fit where none leads
unfit_none : (w : List ℕ) (ls : List Link) (r : ℕ) → times_reached ls r ≡ 0 → unfit w ls r ≡ false
unfolding unfit times targets
unfit_none w [] r z = refl
unfit_none w (l ∷ ls) r z =
    by_test (eqb l.to r)
    (λ t. absurd (omega (arith, rw t at z)))
    (λ t. rw t (unfit_none w ls r (omega (arith, rw t at z))))

-- the mark in the end, by the number of links and whether all fit
abbrev pub mark_for : ℕ → Bool → Mark
mark_for t u = cond (leb 1 t) (cond (cond (leb 2 t) true u) Wrong Met) Unmet

-- of a record that the first link fits
mark_fits : (t : ℕ) (u : Bool) → (t ≡ 0 → u ≡ false) → cond (leb 1 t) Wrong Met ≡ mark_for (1 + t) u
mark_fits t u h =
    by_test (leb 1 t)
    (λ e. rw (e, le-leb 1 (1 + t) (omega arith), le-leb 2 (1 + t) (omega (arith, leb-true 1 t e))) refl)
    (λ e.
    let z : t ≡ 0 = omega (arith, leb-false 1 t e) in
    rw (e, le-leb 1 (1 + t) (omega arith), lt-leb 2 (1 + t) (omega arith), h z) refl)

-- and of one that it does not
mark_unfit : (t : ℕ) → Wrong ≡ mark_for (1 + t) true
mark_unfit t = by_test (leb 2 (1 + t)) (λ e. rw (le-leb 1 (1 + t) (omega arith), e) refl) (λ e. rw (le-leb 1 (1 + t) (omega arith), e) refl)

-- the mark of a record that was not met before
pub marked_zero : (w : List ℕ) (ls : List Link) (r : ℕ) → marked w ls r Unmet ≡ mark_for (times_reached ls r) (unfit w ls r)
unfolding marked times targets unfit first_mark
marked_zero w [] r = refl
marked_zero w (l ∷ ls) r =
    by_test (eqb l.to r)
    (λ t.
    by_test (one_of (kind_of w r) (kinds_in l.place))
    (λ f. rw (t, eqb-true l.to r t, f) (marked_one w ls r ∙ mark_fits (times_reached ls r) (unfit w ls r) (unfit_none w ls r)))
    (λ f. rw (t, eqb-true l.to r t, f) (marked_two w ls r ∙ mark_unfit (times_reached ls r))))
    (λ t. rw (t, zero-add) (marked_zero w ls r))

-- a test before one that holds
any_true : (a : Bool) → cond a true true ≡ true
any_true true = refl
any_true false = refl

-- by its mark a record other than 0 is at fault as row 8 asks
pub fault_by_mark : (w b : List ℕ) (ls : List Link) (r : ℕ) → eqb r 0 ≡ false → fault_by w b (marked w ls r Unmet) r ≡ at_fault w b ls r
unfolding fault_by at_fault record_fault record_wrong any_of
fault_by_mark w b ls r z =
    rw (marked_zero w ls r, z)
    (by_test (leb 1 (times_reached ls r))
    (λ t.
    by_test (leb 2 (times_reached ls r))
    (λ u. rw (t, u) (sym (any_true (links_out w r))))
    (λ u.
    by_test (unfit w ls r)
    (λ f. rw (t, u, f, any_true (texts_out w b r)) (sym (any_true (links_out w r))))
    (λ f. rw (t, u, f) refl)))
    (λ t. rw t refl))

-- and so is the lowest of them found
pub first_by_marks : (left : ℕ) (w b : List ℕ) (m : List Mark) (ls : List Link) (r : ℕ) → 1 ≤ r
    → ((k : ℕ) → k < r + left → get_or m k Unmet ≡ marked w ls k Unmet)
    → first_by left w b m r ≡ first_fault left w b ls r
unfolding first_by first_fault
first_by_marks zero w b m ls r p h = refl
first_by_marks (suc left) w b m ls r p h =
    rw (
      h r (omega arith),
      fault_by_mark w b ls r (ne_eqb r 0 (λ e. omega (arith, e))),
      first_by_marks left w b m ls (r + 1) (omega arith)
          (λ k l. h k (omega arith)),
    ) refl
