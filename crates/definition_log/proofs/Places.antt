-- Where the records of a log stand that keeps row 8's rules: in the chain that leads to them, with a kind that fits it, and what their
-- links lead to stands where 01 says.
use Prim.Native.Nat.{ℕ, zero, suc, ◌+◌, ◌*◌, ◌≤◌}
use mathlib.Core.Path.{◌≡◌, refl, sym, ap, ◌∙◌}
use mathlib.Core.Logic.{◌⊎◌, inl, inr}
use mathlib.Core.Bool.{Bool, true, false, not, cond}
use mathlib.Core.List.Memᴰ
use mathlib.Core.List.{List, [], ◌∷◌, ◌++◌, Memᴰ}
use native.Mathlib.Omega.{arith}
use borrow.Author.Tests.{eq-eqb, eqb-false}
use lib.Dec.{eqb}
use lib.ListN.{length}
use Rattle.paths_numbers.proofs.Texts.{by_test, not_both}
use Rattle.definition_log.specs.meaning.Record.{kind_of, next_of, child_of, m_of, extension_kind, has_children, one_of, log_count, leads}
use Rattle.definition_log.specs.meaning.Record.{first_def}
use Rattle.definition_log.specs.meaning.Record.{first_ext, first_bind, first_diag, first_post}
use Rattle.definition_log.specs.meaning.Sound.{Place, definitions, extensions, bindings, diagnostics, kinds_in, below, Link, link_to}
use Rattle.definition_log.specs.meaning.Sound.{head_links}
use Rattle.definition_log.specs.meaning.Sound.{links_of, targets, times, walk, most_links, followed, times_reached, unfit, sound}
use Rattle.definition_log.specs.meaning.Sound.{lowest_fault}
use Rattle.definition_log.proofs.Counts.{times_other, unmet, unmet_le}
use Rattle.definition_log.proofs.Walk.{next_part, child_part, body_part, Inside, none, one, inside_append, inside_if, inside_of}
use Rattle.definition_log.proofs.Walk.{inside_heads}
use Rattle.definition_log.proofs.Walk.{length_heads, enough_left}
use Rattle.definition_log.proofs.Reached.{Reached, EndOrReached, good, reached_leads, reached_once, next_reached, child_reached}
use Rattle.definition_log.proofs.Reached.{body_reached}
use Rattle.definition_log.proofs.Reached.{head_reached, Head, defs, exts, binds, diags, post}

abbrev In : Link → List Link → Type 0
In l ls = Memᴰ l ls

-- a link that waits is followed
waits : (left : ℕ) (words met : List ℕ) {waiting : List Link} → Inside words waiting
    → length waiting + 3 * unmet (log_count words) met ≤ left
    → (m : Link) → In m waiting → In m (walk left words met waiting)
unfolding walk
waits zero words met none k m i = i
waits zero words met (one e h) k m i = absurd (omega arith)
waits (suc left) words met none k m i = i
waits (suc left) words met (one {l} {ls = waiting} e h) k m (Memᴰ.head f) = Memᴰ.head f
waits (suc left) words met (one {l} {ls = waiting} e h) k m (Memᴰ.tail i) =
    Memᴰ.tail
    (waits left words (l.to ∷ met) (inside_append h (inside_if (eqb (times l.to met) 0) (inside_of words l)))
    (enough_left left words met l waiting e k) m (Memᴰ.append_left (cond (eqb (times l.to met) 0) (links_of words l) []) i))

-- what a list of links leads to
in_reached : (l : Link) {ls : List Link} → In l ls → 1 ≤ times_reached ls l.to
unfolding targets times
in_reached l (Memᴰ.head {x} e) = rw (eq-eqb x.to l.to (ap (λ (y : Link). y.to) (sym e))) (omega arith)
in_reached l (Memᴰ.tail {x} i) = omega (arith, in_reached l i)

-- and the links of the record that it leads to, where no other leads there
closed : (left : ℕ) (words met : List ℕ) {waiting : List Link} → Inside words waiting
    → length waiting + 3 * unmet (log_count words) met ≤ left
    → (l m : Link) → In l (walk left words met waiting) → times l.to met ≡ 0 → times_reached (walk left words met waiting) l.to ≤ 1
    → In m (links_of words l) → In m (walk left words met waiting)
unfolding walk targets times
closed zero words met h k l m i n o j = elim i [ ]
closed (suc left) words met none k l m i n o j = elim i [ ]
closed (suc left) words met (one {l = x} {ls = waiting} e h) k l m (Memᴰ.head f) n o j =
    let q : eqb (times x.to met) 0 ≡ true = eq-eqb (times x.to met) 0 (rw f at n) in
    Memᴰ.tail
    (waits left words (x.to ∷ met) (inside_append h (inside_if (eqb (times x.to met) 0) (inside_of words x)))
    (enough_left left words met x waiting e k) m (Memᴰ.append_right waiting (rw q (rw f at j))))
closed (suc left) words met (one {l = x} {ls = waiting} e h) k l m (Memᴰ.tail i) n o j =
    let r = in_reached l i in
    by_test (eqb x.to l.to)
    (λ f. absurd (omega (arith, rw f at o)))
    (λ f.
    Memᴰ.tail
    (closed left words (x.to ∷ met) (inside_append h (inside_if (eqb (times x.to met) 0) (inside_of words x)))
    (enough_left left words met x waiting e k) l m i (times_other x.to l.to met (eqb-false x.to l.to f) ∙ n)
    (omega (arith, rw f at o)) j))

-- record r stands in a chain
abbrev pub Stands : List ℕ → ℕ → Place → Type 0
Stands words r p = Memᴰ (record { to = r; place = p }) (followed words)

-- or the link ends it
abbrev pub EndOrStands : List ℕ → ℕ → Place → Type 0
EndOrStands words t p = (t ≡ 0) ⊎ Stands words t p

-- a link that a word is, and links where a test holds
in_to : (words : List ℕ) (t : ℕ) (p : Place) → leads words t ≡ true → In (record { to = t; place = p }) (link_to words t p)
unfolding link_to
in_to words t p e = rw e (Memᴰ.head refl)

in_if : (q : Bool) → q ≡ true → {m : Link} {ls : List Link} → In m ls → In m (cond q ls [])
in_if true e i = i
in_if false e i = absurd (not_both e refl)

-- kinds fit
fits_in_lem : (words : List ℕ) (r : ℕ) (p : Place) {ls : List Link} → In (record { to = r; place = p }) ls → unfit words ls r ≡ false
    → one_of (kind_of words r) (kinds_in p) ≡ true
unfolding unfit
fits_in_lem words r p (Memᴰ.head {x} e) f =
    let t : eqb x.to r ≡ true = eq-eqb x.to r (ap (λ (y : Link). y.to) (sym e)) in
    let q : x.place ≡ p = ap (λ (y : Link). y.place) (sym e) in
    by_test (one_of (kind_of words r) (kinds_in p))
    (λ g. g)
    (λ g. absurd (not_both {t = true} refl (rw (t, q, g) at f)))
fits_in_lem words r p (Memᴰ.tail {x} i) f =
    by_test (cond (eqb x.to r) (not (one_of (kind_of words r) (kinds_in x.place))) false)
    (λ g. absurd (not_both {t = true} refl (rw g at f)))
    (λ g. fits_in_lem words r p i (rw g at f))

-- a link in one of several lists
module _ (a b c d e : List Link) (m : Link) where
  in_first : In m a → In m (a ++ b ++ c ++ d ++ e)
  in_first i = Memᴰ.append_left e (Memᴰ.append_left d (Memᴰ.append_left c (Memᴰ.append_left b i)))

  in_second : In m b → In m (a ++ b ++ c ++ d ++ e)
  in_second i = Memᴰ.append_left e (Memᴰ.append_left d (Memᴰ.append_left c (Memᴰ.append_right a i)))

  in_third : In m c → In m (a ++ b ++ c ++ d ++ e)
  in_third i = Memᴰ.append_left e (Memᴰ.append_left d (Memᴰ.append_right (a ++ b) i))

  in_fourth : In m d → In m (a ++ b ++ c ++ d ++ e)
  in_fourth i = Memᴰ.append_left e (Memᴰ.append_right (a ++ b ++ c) i)

  in_fifth : In m e → In m (a ++ b ++ c ++ d ++ e)
  in_fifth i = Memᴰ.append_right (a ++ b ++ c ++ d) i

-- record 0's links
module _ (words : List ℕ) where
  abbrev head_def : List Link
  head_def = link_to words (first_def words) definitions

  abbrev head_ext : List Link
  head_ext = link_to words (first_ext words) extensions

  abbrev head_bind : List Link
  head_bind = link_to words (first_bind words) bindings

  abbrev head_diag : List Link
  head_diag = link_to words (first_diag words) diagnostics

  abbrev head_post : List Link
  head_post = link_to words (first_post words) diagnostics

  in_heads : {t : ℕ} {p : Place} → Head words t p → leads words t ≡ true → In (record { to = t; place = p }) (head_links words)
  unfolding head_links
  in_heads defs l = in_first head_def head_ext head_bind head_diag head_post _ (in_to words (first_def words) definitions l)
  in_heads exts l = in_second head_def head_ext head_bind head_diag head_post _ (in_to words (first_ext words) extensions l)
  in_heads binds l = in_third head_def head_ext head_bind head_diag head_post _ (in_to words (first_bind words) bindings l)
  in_heads diags l = in_fourth head_def head_ext head_bind head_diag head_post _ (in_to words (first_diag words) diagnostics l)
  in_heads post l = in_fifth head_def head_ext head_bind head_diag head_post _ (in_to words (first_post words) diagnostics l)

module _ (words bytes : List ℕ) (ok : lowest_fault words bytes ≡ sound) where
  -- record 0's chains
  heads_stand : (m : Link) → In m (head_links words) → In m (followed words)
  unfolding followed
  heads_stand m i = waits (most_links words) words [] (inside_heads words) (omega (arith, length_heads words, unmet_le (log_count words) []))
      m i

  pub head_stands : {t : ℕ} {p : Place} → Head words t p → EndOrStands words t p
  head_stands {t} {p} x = go (head_reached words bytes ok x)
    where
      go : EndOrReached words t → EndOrStands words t p
      go (inl z) = inl z
      go (inr h) = inr (heads_stand (record { to = t; place = p }) (in_heads words x (reached_leads words t h)))

  module _ (r : ℕ) (p : Place) (i : Stands words r p) where
    -- such a record is reached, with a kind that fits
    pub stands_reached : Reached words r
    stands_reached = in_reached (record { to = r; place = p }) i

    pub stands_kind : one_of (kind_of words r) (kinds_in p) ≡ true
    stands_kind = fits_in_lem words r p i (good words bytes ok r stands_reached).fits

    -- its links are followed
    stands_out : (m : Link) → In m (links_of words (record { to = r; place = p })) → In m (followed words)
    unfolding followed times
    stands_out m j =
        closed (most_links words) words [] (inside_heads words) (omega (arith, length_heads words, unmet_le (log_count words) []))
        (record { to = r; place = p }) m i refl (omega (arith, reached_once words bytes ok r stands_reached)) j

    -- its next record stands in the same chain, its children where its kind has them, a body among definitions
    pub next_stands : EndOrStands words (next_of words r) p
    unfolding links_of
    next_stands = go (next_reached words bytes ok r stands_reached)
      where
        go : EndOrReached words (next_of words r) → EndOrStands words (next_of words r) p
        go (inl z) = inl z
        go (inr h) =
            inr
            (stands_out (record { to = next_of words r; place = p })
            (Memᴰ.append_left (body_part words r)
            (Memᴰ.append_left (child_part words r) (in_to words (next_of words r) p (reached_leads words (next_of words r) h)))))

    pub child_stands : has_children (kind_of words r) ≡ true → EndOrStands words (child_of words r) (below (kind_of words r))
    unfolding links_of
    child_stands c = go (child_reached words bytes ok r stands_reached c)
      where
        go : EndOrReached words (child_of words r) → EndOrStands words (child_of words r) (below (kind_of words r))
        go (inl z) = inl z
        go (inr h) =
            inr
            (stands_out (record { to = child_of words r; place = below (kind_of words r) })
            (Memᴰ.append_left (body_part words r)
            (Memᴰ.append_right (next_part words (record { to = r; place = p }))
            (in_to words (child_of words r) (below (kind_of words r)) (reached_leads words (child_of words r) h)))))

    pub body_stands : kind_of words r ≡ extension_kind → EndOrStands words (m_of words r) definitions
    unfolding links_of
    body_stands k = go (body_reached words bytes ok r stands_reached k)
      where
        go : EndOrReached words (m_of words r) → EndOrStands words (m_of words r) definitions
        go (inl z) = inl z
        go (inr h) =
            inr
            (stands_out (record { to = m_of words r; place = definitions })
            (Memᴰ.append_right (next_part words (record { to = r; place = p }) ++ child_part words r)
            (in_if (eqb (kind_of words r) extension_kind) (eq-eqb (kind_of words r) extension_kind k)
            (in_to words (m_of words r) definitions (reached_leads words (m_of words r) h)))))
