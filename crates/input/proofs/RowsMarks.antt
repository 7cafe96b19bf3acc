-- Row 2's marks: they say which records are linked already.
use Prim.Native.Nat.{ℕ, ◌+◌, ◌≤◌, ◌<◌}
use mathlib.Core.Path.{◌≡◌, refl, sym, ◌∙◌}
use mathlib.Core.Bool.{Bool, true, false, cond}
use mathlib.Core.List.{List, [], ◌∷◌}
use native.Mathlib.Omega.{arith}
use native.Mathlib.Numerals.{add-one}
use borrow.Author.Tests.{eqb-true, eqb-false}
use lib.Dec.{eqb}
use lib.ListN.{length, get_or, replicate, length-set, length-replicate, get_or-replicate}
use lib.Seq.{get_or-set_same, get_or-set_other}
use Rattle.paths_numbers.proofs.Texts.{by_test}
use Rattle.paths_numbers.specs.meaning.Lists.{any}
use Rattle.input.specs.meaning.Input.{record_count, next_at, child_at, second_at}
use Rattle.input.specs.meaning.Rows.{linked_below, bad_link, bad_links}
use Rattle.input.specs.machine.RowsPass.{stored, Marks, mark_links}

-- a number stored
pub stored_length : {A : Type 0} (l : List A) (i : ℕ) (v : A) → length (stored l i v) ≡ length l
unfolding stored
stored_length l i v = simp length-set

pub stored_at : {A : Type 0} (l : List A) (i : ℕ) (v : A) (k : ℕ) (d : A) → k < length l
    → get_or (stored l i v) k d ≡ cond (eqb k i) v (get_or l k d)
unfolding stored
stored_at l i v k d h =
    by_test (eqb k i)
    (λ q. let e : k ≡ i = eqb-true k i q in rw (q, e) (get_or-set_same l i v d (omega arith)))
    (λ q. rw q (get_or-set_other l i k v d (eqb-false k i q)))

-- whether a record has a link at fault, by its links in order
module _ (words : List ℕ) (r a b : ℕ) (ea : a ≡ next_at words r) (eb : b ≡ child_at words r) (t : Bool) (et : t ≡ bad_link words r [] a) where
  pub links_first : t ≡ true → true ≡ bad_links words r
  unfolding bad_links
  links_first q = rw (← ea, sym et ∙ q) refl

  module _ (u : Bool) (eu : u ≡ bad_link words r (a ∷ []) b) where
    pub links_second : t ≡ false → u ≡ true → true ≡ bad_links words r
    unfolding bad_links
    links_second q q' = rw (← ea, ← eb, sym et ∙ q, sym eu ∙ q') refl

    pub links_third : (d : ℕ) (w : Bool) → d ≡ second_at words r → w ≡ bad_link words r (a ∷ b ∷ []) d → t ≡ false → u ≡ false
        → w ≡ bad_links words r
    unfolding bad_links
    links_third d w ed ew q q' = ew ∙ rw (← ea, ← eb, ← ed, sym et ∙ q, sym eu ∙ q') refl

-- three links marked in order
pub mark_three : (words : List ℕ) (r : ℕ) (m m' m'' m''' : List Bool) (a b d : ℕ) → m' ≡ stored m a true → m'' ≡ stored m' b true
    → m''' ≡ stored m'' d true
    → a ≡ next_at words r → b ≡ child_at words r → d ≡ second_at words r → m''' ≡ mark_links words r m
unfolding mark_links
mark_three words r m m' m'' m''' a b d e e' e'' p p' p'' = rw (e'', e', e, p, p', p'') refl

-- no marks are those before any record
pub marks_start : (words : List ℕ) (m : List Bool) (n : ℕ) → m ≡ replicate n false → record_count words ≤ n → Marks words 0 m
unfolding linked_below
marks_start words m n e h =
    record {
      room = rw (e, length-replicate) h;
      tell = λ l k. rw e (get_or-replicate n l false false (rw (e, length-replicate) at k));
    }

-- the marks of a record more
pub marks_more : (words : List ℕ) (r : ℕ) (m m' : List Bool) → Marks words r m → m' ≡ mark_links words r m → Marks words (r + 1) m'
unfolding mark_links linked_below any
marks_more words r m m' s e =
    record { room = rw long s.room; tell = λ l k. tell l (rw long at k) }
  where
    long : length m' ≡ length m
    long = rw (e, stored_length, stored_length, stored_length) refl

    own : (t a b d : Bool) → cond d true (cond b true (cond a true t)) ≡ cond (cond a true (cond b true (cond d true false))) true t
    own t true true true = refl
    own t true true false = refl
    own t true false true = refl
    own t true false false = refl
    own t false true true = refl
    own t false true false = refl
    own t false false true = refl
    own t false false false = refl

    tell : (l : ℕ) → l < length m → get_or m' l false ≡ linked_below words (r + 1) l
    tell l h =
        rw (
          e,
          add-one r,
          stored_at (stored (stored m (next_at words r) true) (child_at words r) true) (second_at words r) true l false
              (rw (stored_length, stored_length) h),
          stored_at (stored m (next_at words r) true) (child_at words r) true l false (rw stored_length h),
          stored_at m (next_at words r) true l false h,
          s.tell l h,
        )
        (own _ (eqb l (next_at words r)) (eqb l (child_at words r)) (eqb l (second_at words r)))
