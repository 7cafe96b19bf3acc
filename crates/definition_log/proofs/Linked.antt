-- The records that are reached are those that links lead to from record 0, in any number of steps, whatever the log: what the walk over the
-- links computes does not hang on its order or its bound.
use Prim.Native.Nat.{ℕ, zero, suc, ◌≤◌}
use mathlib.Core.Path.{◌≡◌, refl}
use mathlib.Core.Bool.{Bool, true, false, cond}
use mathlib.Core.List.{List, [], ◌∷◌, ◌++◌}
use native.Mathlib.Omega.{arith}
use borrow.Author.Tests.{eq-eqb, eqb-true}
use lib.Dec.{eqb}
use Rattle.paths_numbers.proofs.Texts.{by_test}
use Rattle.definition_log.specs.meaning.Record.{kind_of, next_of, child_of, m_of, first_def, first_ext, first_bind, first_diag, first_post}
use Rattle.definition_log.specs.meaning.Record.{extension_kind}
use Rattle.definition_log.specs.meaning.Record.{leads}
use Rattle.definition_log.specs.meaning.Sound.{Place, definitions, extensions, bindings, diagnostics, below, Link, link_to, head_links}
use Rattle.definition_log.specs.meaning.Sound.{links_of}
use Rattle.definition_log.specs.meaning.Sound.{targets, times, walk, most_links, followed, times_reached}
use Rattle.definition_log.proofs.Walk.{heads_followed, outs_followed}
use Rattle.definition_log.proofs.Reached.{Reached, times_to, times_outs, Head, defs, exts, binds, diags, post, head_led}

-- links lead from record 0 to record r, in a chain of a place
pub data Linked (words : List ℕ) : ℕ → Place → Type 0 where
  from-head : {t : ℕ} {p : Place} → Head words t p → leads words t ≡ true → Linked words t p
  by_next : {r : ℕ} {p : Place} → Linked words r p → leads words (next_of words r) ≡ true → Linked words (next_of words r) p
  by_child : {r : ℕ} {p : Place} → Linked words r p → leads words (child_of words r) ≡ true
      → Linked words (child_of words r) (below (kind_of words r))
  by_body : {r : ℕ} {p : Place} → Linked words r p → kind_of words r ≡ extension_kind → leads words (m_of words r) ≡ true
      → Linked words (m_of words r) definitions

-- such a record is reached
pub linked_reached : {words : List ℕ} {r : ℕ} {p : Place} → Linked words r p → Reached words r
linked_reached {words} (from-head {t} x l) = omega (arith, head_led x l, heads_followed words t)
linked_reached {words} (by_next {r} k l) =
    omega (
      arith,
      outs_followed words r (next_of words r) (linked_reached k),
      times_outs words r (next_of words r),
      times_to words
          (next_of words r) l,
    )
linked_reached {words} (by_child {r} k l) =
    omega (
      arith,
      outs_followed words r (child_of words r) (linked_reached k),
      times_outs words r (child_of words r),
      times_to words (child_of words r) l,
    )
linked_reached {words} (by_body {r} k e l) =
    let c : eqb (kind_of words r) extension_kind ≡ true = eq-eqb (kind_of words r) extension_kind e in
    omega (
      arith,
      outs_followed words r (m_of words r) (linked_reached k),
      rw c at (times_outs words r (m_of words r)),
      times_to words
          (m_of words r) l,
    )

-- links to such records
data AllLinked (words : List ℕ) : List Link → Type 0 where
  no_link : AllLinked words []
  one_link : {l : Link} {ls : List Link} → Linked words l.to l.place → AllLinked words ls → AllLinked words (l ∷ ls)

both_linked : {words : List ℕ} {x y : List Link} → AllLinked words x → AllLinked words y → AllLinked words (x ++ y)
both_linked no_link h = h
both_linked (one_link e k) h = one_link e (both_linked k h)

linked_to : (words : List ℕ) (t : ℕ) (p : Place) → (leads words t ≡ true → Linked words t p) → AllLinked words (link_to words t p)
unfolding link_to
linked_to words t p f = by_test (leads words t) (λ e. rw e (one_link (f e) no_link)) (λ e. rw e no_link)

linked_if : {words : List ℕ} (q : Bool) {ls : List Link} → (q ≡ true → AllLinked words ls) → AllLinked words (cond q ls [])
linked_if true f = f refl
linked_if false f = no_link

linked_of : (words : List ℕ) (l : Link) → Linked words l.to l.place → AllLinked words (links_of words l)
unfolding links_of
linked_of words l k =
    both_linked
    (both_linked (linked_to words (next_of words l.to) l.place (by_next k))
    (linked_to words (child_of words l.to) (below (kind_of words l.to)) (by_child k)))
    (linked_if (eqb (kind_of words l.to) extension_kind) (λ c. linked_to words (m_of words l.to) definitions
    (by_body k (eqb-true (kind_of words l.to) extension_kind c))))

linked_heads : (words : List ℕ) → AllLinked words (head_links words)
unfolding head_links
linked_heads words =
    both_linked
    (both_linked
    (both_linked
    (both_linked (linked_to words (first_def words) definitions (from-head defs))
    (linked_to words (first_ext words) extensions (from-head exts)))
    (linked_to words (first_bind words) bindings (from-head binds)))
    (linked_to words (first_diag words) diagnostics (from-head diags)))
    (linked_to words (first_post words) diagnostics (from-head post))

linked_walk : (left : ℕ) (words met : List ℕ) {waiting : List Link} → AllLinked words waiting
    → AllLinked words (walk left words met waiting)
unfolding walk
linked_walk zero words met h = no_link
linked_walk (suc left) words met no_link = no_link
linked_walk (suc left) words met (one_link {l} k h) =
    one_link k (linked_walk left words (l.to ∷ met) (both_linked h (linked_if (eqb (times l.to met) 0) (λ q. linked_of words l k))))

-- a place in which a record is linked
pub record SomePlace (words : List ℕ) (r : ℕ) : Type 0 where
  pub place : Place
  pub linked : Linked words r place

linked_in : (words : List ℕ) {ls : List Link} → AllLinked words ls → (r : ℕ) → 1 ≤ times_reached ls r → SomePlace words r
unfolding targets times
linked_in words no_link r h = absurd (omega arith)
linked_in words (one_link {l} k m) r h =
    by_test (eqb l.to r)
    (λ e. record { place = l.place; linked = rw (eqb-true l.to r e) at k })
    (λ e. linked_in words m r (omega (arith, rw e at h)))

-- and no other is
pub reached_linked : (words : List ℕ) (r : ℕ) → Reached words r → SomePlace words r
unfolding followed
reached_linked words r h = linked_in words (linked_walk (most_links words) words [] (linked_heads words)) r h
