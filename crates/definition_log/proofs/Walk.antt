-- The links that are followed: all links of record 0 and of each record that is reached, each once.
use Prim.Native.Nat.{ℕ, zero, suc, ◌+◌, ◌*◌, ◌≤◌, ◌<◌}
use mathlib.Core.Path.{◌≡◌, refl, sym, ap, ap₂, ◌∙◌}
use mathlib.Core.Bool.{Bool, true, false, cond}
use mathlib.Core.List.{List, [], ◌∷◌, ◌++◌}
use native.Mathlib.Omega.{arith}
use borrow.Author.Tests.{eq-eqb, ne_eqb, eqb-true, eqb-false, ltb-true}
use lib.Dec.{eqb}
use lib.ListN.{length, length-append}
use Rattle.paths_numbers.proofs.Texts.{by_test, not_both}
use Rattle.definition_log.specs.meaning.Record.{kind_of, next_of, child_of, m_of, first_def, first_ext, first_bind, first_diag, first_post}
use Rattle.definition_log.specs.meaning.Record.{extension_kind}
use Rattle.definition_log.specs.meaning.Record.{log_count, leads}
use Rattle.definition_log.specs.meaning.Sound.{Place, definitions, extensions, bindings, diagnostics, below, Link, link_to, head_links}
use Rattle.definition_log.specs.meaning.Sound.{links_of}
use Rattle.definition_log.specs.meaning.Sound.{targets, times, walk, most_links, followed, times_reached}
use Rattle.definition_log.proofs.Counts.{times_append, times_other, times_more, unmet, unmet_le, unmet_more, unmet_new}

pub targets_append : (x y : List Link) → targets (x ++ y) ≡ targets x ++ targets y
unfolding targets
targets_append [] y = refl
targets_append (l ∷ x) y = ap (λ (s : List ℕ). l.to ∷ s) (targets_append x y)

-- the record that a word leads to, if any
abbrev pub to_of : List ℕ → ℕ → List ℕ
to_of words r = cond (leads words r) (r ∷ []) []

-- the records that the links of a record lead to
unfoldable pub outs : List ℕ → ℕ → List ℕ
outs words r =
    to_of words (next_of words r)
    ++ to_of words (child_of words r)
    ++ cond (eqb (kind_of words r) extension_kind) (to_of words (m_of words r)) []

pub targets_to : (words : List ℕ) (r : ℕ) (p : Place) → targets (link_to words r p) ≡ to_of words r
unfolding link_to targets
targets_to words r p = by_test (leads words r) (λ e. rw e refl) (λ e. rw e refl)

targets_if : (t : Bool) (ls : List Link) → targets (cond t ls []) ≡ cond t (targets ls) []
unfolding targets
targets_if true ls = refl
targets_if false ls = refl

-- the links of a record by the words that they are
abbrev pub next_part : List ℕ → Link → List Link
next_part words l = link_to words (next_of words l.to) l.place

abbrev pub child_part : List ℕ → ℕ → List Link
child_part words r = link_to words (child_of words r) (below (kind_of words r))

abbrev pub body_part : List ℕ → ℕ → List Link
body_part words r = cond (eqb (kind_of words r) extension_kind) (link_to words (m_of words r) definitions) []

-- where they lead does not hang on where the record stands
pub targets_of : (words : List ℕ) (l : Link) → targets (links_of words l) ≡ outs words l.to
unfolding links_of outs
targets_of words l =
    targets_append (next_part words l ++ child_part words l.to) (body_part words l.to)
    ∙ ap₂ ◌++◌
    (targets_append (next_part words l) (child_part words l.to)
    ∙ ap₂ ◌++◌ (targets_to words (next_of words l.to) l.place)
    (targets_to words (child_of words l.to) (below (kind_of words l.to))))
    (targets_if (eqb (kind_of words l.to) extension_kind) (link_to words (m_of words l.to) definitions)
    ∙ rw (targets_to words (m_of words l.to) definitions) refl)

-- links that lead to records of the log
pub data Inside (words : List ℕ) : List Link → Type 0 where
  none : Inside words []
  one : {l : Link} {ls : List Link} → leads words l.to ≡ true → Inside words ls → Inside words (l ∷ ls)

pub inside_append : {words : List ℕ} {x y : List Link} → Inside words x → Inside words y → Inside words (x ++ y)
inside_append none h = h
inside_append (one e k) h = one e (inside_append k h)

inside_to : (words : List ℕ) (r : ℕ) (p : Place) → Inside words (link_to words r p)
unfolding link_to
inside_to words r p = by_test (leads words r) (λ e. rw e (one e none)) (λ e. rw e none)

pub inside_if : {words : List ℕ} (t : Bool) {ls : List Link} → Inside words ls → Inside words (cond t ls [])
inside_if true h = h
inside_if false h = none

pub inside_of : (words : List ℕ) (l : Link) → Inside words (links_of words l)
unfolding links_of
inside_of words l =
    inside_append
    (inside_append (inside_to words (next_of words l.to) l.place)
    (inside_to words (child_of words l.to) (below (kind_of words l.to))))
    (inside_if (eqb (kind_of words l.to) extension_kind) (inside_to words (m_of words l.to) definitions))

pub inside_heads : (words : List ℕ) → Inside words (head_links words)
unfolding head_links
inside_heads words =
    inside_append
    (inside_append
    (inside_append (inside_append (inside_to words (first_def words) definitions) (inside_to words (first_ext words) extensions))
    (inside_to words (first_bind words) bindings))
    (inside_to words (first_diag words) diagnostics))
    (inside_to words (first_post words) diagnostics)

inside_walk : (left : ℕ) (words met : List ℕ) {waiting : List Link} → Inside words waiting → Inside words (walk left words met waiting)
unfolding walk
inside_walk zero words met h = none
inside_walk (suc left) words met none = none
inside_walk (suc left) words met (one {l} e h) =
    one e (inside_walk left words (l.to ∷ met) (inside_append h (inside_if (eqb (times l.to met) 0) (inside_of words l))))

pub inside_followed : (words : List ℕ) → Inside words (followed words)
unfolding followed
inside_followed words = inside_walk (most_links words) words [] (inside_heads words)

-- a record has up to three links, and record 0 five
length_to : (words : List ℕ) (r : ℕ) (p : Place) → length (link_to words r p) ≤ 1
unfolding link_to
length_to words r p = by_test (leads words r) (λ e. rw e (omega arith)) (λ e. rw e (omega arith))

at_most_if : (t : Bool) (ls : List Link) → length ls ≤ 1 → length (cond t ls []) ≤ 1
at_most_if true ls h = h
at_most_if false ls h = omega arith

pub length_of : (words : List ℕ) (l : Link) → length (links_of words l) ≤ 3
unfolding links_of
length_of words l =
    simp length-append
    (omega (
      arith,
      length_to words (next_of words l.to) l.place,
      length_to words (child_of words l.to) (below (kind_of words l.to)),
      at_most_if (eqb (kind_of words l.to) extension_kind) (link_to words (m_of words l.to) definitions)
          (length_to words (m_of words l.to) definitions),
    ))

pub length_heads : (words : List ℕ) → length (head_links words) ≤ 5
unfolding head_links
length_heads words =
    simp length-append
    (omega (
      arith,
      length_to words (first_def words) definitions,
      length_to words (first_ext words) extensions,
      length_to words (first_bind words) bindings,
      length_to words (first_diag words) diagnostics,
      length_to words (first_post words) diagnostics,
    ))

-- a link that leads to a record of the log leads below the count, and not to 0
pub leads_below : (words : List ℕ) (r : ℕ) → leads words r ≡ true → (0 < r) × (r < log_count words)
leads_below words r e =
    by_test (eqb r 0)
    (λ t. absurd (not_both {t = false} (rw t at e) refl))
    (λ t. let n = eqb-false r 0 t in (omega arith, ltb-true r (log_count words) (rw t at e)))

-- how many links lead to t from the records that are met for the first time
unfoldable pub from_new : List ℕ → List ℕ → List Link → ℕ → ℕ
from_new words met [] t = 0
from_new words met (l ∷ ls) t = cond (eqb (times l.to met) 0) (times t (outs words l.to)) 0 + from_new words (l.to ∷ met) ls t

pub reached_append : (x y : List Link) (t : ℕ) → times_reached (x ++ y) t ≡ times_reached x t + times_reached y t
reached_append x y t = rw (targets_append x y) (times_append t (targets x) (targets y))

reached_if : (words : List ℕ) (l : Link) (q : Bool) (t : ℕ) → times_reached (cond q (links_of words l) []) t ≡ cond q
    (times t (outs words l.to)) 0
unfolding targets times
reached_if words l true t = rw (targets_of words l) refl
reached_if words l false t = refl

-- so many steps are enough: each takes a link away, and adds up to three where it meets a record for the first time
enough : (left n a w : ℕ) (words met : List ℕ) (l : Link) (q : Bool) → eqb (times l.to met) 0 ≡ q → l.to < n
    → suc w + 3 * unmet n met ≤ suc left → a ≡ length (cond q (links_of words l) []) → w + a + 3 * unmet n (l.to ∷ met) ≤ left
enough left n a w words met l true e h k f =
    omega (arith, length_of words l, unmet_new n l.to met h (eqb-true (times l.to met) 0 e))
enough left n a w words met l false e h k f = omega (arith, unmet_more n l.to met)

pub enough_left : (left : ℕ) (words met : List ℕ) (l : Link) (waiting : List Link) → leads words l.to ≡ true
    → suc (length waiting) + 3 * unmet (log_count words) met ≤ suc left
    → length (waiting ++ cond (eqb (times l.to met) 0) (links_of words l) []) + 3 * unmet (log_count words) (l.to ∷ met) ≤ left
enough_left left words met l waiting e k =
    let new = cond (eqb (times l.to met) 0) (links_of words l) [] in
    rw (length-append waiting new)
    (enough left (log_count words) (length new) (length waiting) words met l (eqb (times l.to met) 0) refl
    (leads_below words l.to e).1 k refl)

-- the links followed to t are those that wait and those from records that are met for the first time
count_walk : (left : ℕ) (words met : List ℕ) {waiting : List Link} → Inside words waiting
    → length waiting + 3 * unmet (log_count words) met ≤ left
    → (t : ℕ) → times_reached (walk left words met waiting) t ≡ times_reached waiting t + from_new words met (walk left words met waiting) t
unfolding walk from_new targets times
count_walk zero words met none k t = refl
count_walk zero words met (one e h) k t = absurd (omega arith)
count_walk (suc left) words met none k t = refl
count_walk (suc left) words met (one {l} {ls = waiting} e h) k t =
    let q = eqb (times l.to met) 0 in
    let new = cond q (links_of words l) [] in
    let ih =
    count_walk left words (l.to ∷ met) {waiting = waiting ++ new} (inside_append h (inside_if q (inside_of words l)))
    (enough_left left words met l waiting e k) t
    in
    omega (arith, ih, reached_append waiting new t, reached_if words l q t)

-- a record that is reached adds its links, and two records add both's
new_one : (words met : List ℕ) (ls : List Link) (a t : ℕ) → 1 ≤ times_reached ls a → times a met ≡ 0
    → times t (outs words a) ≤ from_new words met ls t
unfolding from_new targets times
new_one words met [] a t h n = absurd (omega arith)
new_one words met (l ∷ ls) a t h n =
    by_test (eqb l.to a)
    (λ e. let q = eqb-true l.to a e in let z : eqb (times l.to met) 0 ≡ true = eq-eqb (times l.to met) 0 (rw q n) in rw (z, q)
    (omega arith))
    (λ e.
    let q = eqb-false l.to a e in
    let r = new_one words (l.to ∷ met) ls a t (omega (arith, rw e at h)) (times_other l.to a met q ∙ n) in
    omega (arith, r))

new_two : (words met : List ℕ) (ls : List Link) (a b t : ℕ) → (a ≡ b → ⊥) → 1 ≤ times_reached ls a → 1 ≤ times_reached ls b → times a met ≡ 0
    → times b met ≡ 0 → times t (outs words a) + times t (outs words b) ≤ from_new words met ls t
unfolding from_new targets times
new_two words met [] a b t d h k n m = absurd (omega arith)
new_two words met (l ∷ ls) a b t d h k n m =
    by_test (eqb l.to a)
    (λ e.
    let q = eqb-true l.to a e in
    let z : eqb (times l.to met) 0 ≡ true = eq-eqb (times l.to met) 0 (rw q n) in
    let p : l.to ≡ b → ⊥ = λ f. d (sym q ∙ f) in
    let r = new_one words (l.to ∷ met) ls b t (omega (arith, rw (ne_eqb l.to b p) at k)) (times_other l.to b met p ∙ m) in
    let s : times t (outs words l.to) ≡ times t (outs words a) = ap (λ (x : ℕ). times t (outs words x)) q in
    rw z (omega (arith, r, s)))
    (λ e.
    let q = eqb-false l.to a e in
    let o = times_other l.to a met q ∙ n in
    by_test (eqb l.to b)
    (λ f.
    let p = eqb-true l.to b f in
    let z : eqb (times l.to met) 0 ≡ true = eq-eqb (times l.to met) 0 (rw p m) in
    let r = new_one words (l.to ∷ met) ls a t (omega (arith, rw e at h)) o in
    let s : times t (outs words l.to) ≡ times t (outs words b) = ap (λ (x : ℕ). times t (outs words x)) p in
    rw z (omega (arith, r, s)))
    (λ f.
    let p = eqb-false l.to b f in
    let r = new_two words (l.to ∷ met) ls a b t d (omega (arith, rw e at h)) (omega (arith, rw f at k)) o (times_other l.to b met p ∙ m)
    in
    omega (arith, r)))

-- no record that is not met yet leads to t
pub new_none : (words met : List ℕ) (ls : List Link) (t : ℕ) → ((a : ℕ) → 1 ≤ times_reached ls a → times a met ≡ 0
    → times t (outs words a) ≡ 0)
    → from_new words met ls t ≡ 0
unfolding from_new targets times
new_none words met [] t f = refl
new_none words met (l ∷ ls) t f =
    let ih = new_none words (l.to ∷ met) ls t (λ a h n. f a (omega arith) (omega (arith, times_more l.to a met))) in
    by_test (eqb (times l.to met) 0)
    (λ e. let z = f l.to (rw (eq-eqb l.to l.to refl) (omega arith)) (eqb-true _ _ e) in rw e (omega (arith, ih, z)))
    (λ e. rw e (omega (arith, ih)))

-- one record alone leads to t, by one link
pub new_most : (words met : List ℕ) (ls : List Link) (t : ℕ)
    → ((a b : ℕ) → 1 ≤ times_reached ls a → 1 ≤ times_reached ls b → 1 ≤ times t (outs words a) → 1 ≤ times t (outs words b) → a ≡ b)
    → ((a : ℕ) → 1 ≤ times_reached ls a → times t (outs words a) ≤ 1)
    → from_new words met ls t ≤ 1
unfolding from_new targets times
new_most words met [] t f g = omega arith
new_most words met (l ∷ ls) t f g =
    let own : 1 ≤ times_reached (l ∷ ls) l.to = rw (eq-eqb l.to l.to refl) (omega arith) in
    let ih = new_most words (l.to ∷ met) ls t (λ a b h k. f a b (omega arith) (omega arith)) (λ a h. g a (omega arith)) in
    by_test (eqb (times t (outs words l.to)) 0)
    (λ z. let unled = eqb-true (times t (outs words l.to)) 0 z in by_test (eqb (times l.to met) 0) (λ e. rw e (omega (arith, ih)))
    (λ e. rw e (omega (arith, ih))))
    (λ z.
    let some : 1 ≤ times t (outs words l.to) = omega (arith, eqb-false (times t (outs words l.to)) 0 z) in
    let rest : from_new words (l.to ∷ met) ls t ≡ 0 =
    new_none words (l.to ∷ met) ls t
    (λ a h n.
    by_test (eqb (times t (outs words a)) 0)
    (λ e. eqb-true _ _ e)
    (λ e.
    let q : a ≡ l.to = f a l.to (omega arith) own (omega (arith, eqb-false (times t (outs words a)) 0 e)) some in
    absurd (omega (arith, rw (eq-eqb l.to a (sym q)) at n))))
    in
    by_test (eqb (times l.to met) 0) (λ e. rw e (omega (arith, rest, g l.to own))) (λ e. rw e (omega (arith, rest))))

module _ (words : List ℕ) where
  -- the links followed to t: record 0's, and those of the records reached
  pub count_followed : (t : ℕ) → times_reached (followed words) t ≡ times_reached (head_links words) t + from_new words [] (followed words) t
  unfolding followed
  count_followed t =
      count_walk (most_links words) words [] (inside_heads words) (omega (arith, length_heads words, unmet_le (log_count words) [])) t

  -- record 0's links are followed
  pub heads_followed : (t : ℕ) → times_reached (head_links words) t ≤ times_reached (followed words) t
  heads_followed t = omega (arith, count_followed t)

  -- beside them those of a record that is reached
  pub outs_followed : (a t : ℕ) → 1 ≤ times_reached (followed words) a
      → times_reached (head_links words) t + times t (outs words a) ≤ times_reached (followed words) t
  unfolding times
  outs_followed a t h = omega (arith, count_followed t, new_one words [] (followed words) a t h refl)

  -- and those of another
  pub two_followed : (a b t : ℕ) → (a ≡ b → ⊥) → 1 ≤ times_reached (followed words) a → 1 ≤ times_reached (followed words) b
      → times t (outs words a) + times t (outs words b) ≤ times_reached (followed words) t
  unfolding times
  two_followed a b t d h k = omega (arith, count_followed t, new_two words [] (followed words) a b t d h k refl refl)
