-- The links of a complete log in the making, record 0 written: each leads to the first record of a chain, from the start of the log or
-- behind a record of the chain, and so every link that is followed leads to a record that is there, where its kind fits.
use Prim.Native.Nat.{ℕ, zero, suc, ◌+◌, ◌*◌, ◌/◌, ◌%◌, ◌≤◌}
use mathlib.Core.Path.{◌≡◌, refl, sym, ap, ◌∙◌}
use mathlib.Core.Bool.{Bool, true, false, cond}
use mathlib.Core.List.{List, [], ◌∷◌, ◌++◌}
use native.Mathlib.Omega.{arith}
use borrow.Author.Tests.{eqb-true}
use lib.Dec.{eqb}
use lib.ListN.{length}
use Rattle.paths_numbers.proofs.Texts.{by_test}
use Rattle.definition_log.specs.meaning.Record.{out_field, kind_of, next_of, child_of, m_of, first_def, first_ext, first_bind, first_diag}
use Rattle.definition_log.specs.meaning.Record.{first_post}
use Rattle.definition_log.specs.meaning.Record.{extension_kind, one_of, log_count, leads}
use Rattle.definition_log.specs.meaning.Sound.{Place, definitions, extensions, kinds_in, below, Link, link_to, head_links, links_of}
use Rattle.definition_log.specs.meaning.Sound.{targets, times, walk}
use Rattle.definition_log.specs.meaning.Sound.{most_links, followed, times_reached, unfit}
use Rattle.definition_log.specs.meaning.Sound as S
use Rattle.making.specs.machine.Events.{Event, defs_of, exts_of, bindings, diagnostics, post_diagnostics, children_of, first, all_words}
use Rattle.making.specs.machine.Events.{Ordered}
use Rattle.making.specs.machine.Whole.{There, Stands, in_defs, in_exts, in_bindings, in_diagnostics, in_post, in_children, main_log}
use Rattle.making.specs.machine.Whole.{Whole}
use Rattle.making.specs.machine.Finished.{head16, head_in}
use Rattle.definition_log.proofs.Walk.{leads_below}
use Rattle.making.proofs.ReadEvents.{next_at_lem}
use Rattle.making.proofs.ReadLog.{kind_at, m_at, child_at_lem}
use Rattle.making.proofs.FirstOf.{split, Leads, leads_first, leads_next}
use Rattle.making.proofs.Standing.{extends}

-- the place that a chain's number says
unfoldable pub place_in : List ℕ → ℕ → Place
place_in words c =
    cond (eqb (c % 8) 0) definitions
    (cond (eqb (c % 8) 1) extensions
    (cond (eqb (c % 8) 2) S.bindings
    (cond (eqb (c % 8) 5) (below (kind_of words (c / 8)))
    S.diagnostics)))

pub place_defs : (words : List ℕ) (l : ℕ) → place_in words (defs_of l) ≡ definitions
unfolding place_in
place_defs words l = let z : (8 * l) % 8 ≡ 0 = omega arith in rw z refl

pub place_children : (words : List ℕ) (r : ℕ) → place_in words (children_of r) ≡ below (kind_of words r)
unfolding place_in
place_children words r =
    let z : (8 * r + 5) % 8 ≡ 5 = omega arith in
    let q : (8 * r + 5) / 8 ≡ r = omega arith in
    rw (z, q) refl

module _ (es : List Event) (records used room : ℕ) (fits : 1 + length es ≤ log_count (all_words (head_in records used es) es room))
    (ordered : Ordered 1 es) (whole : Whole es) where
  abbrev head : List ℕ
  head = head_in records used es

  abbrev words : List ℕ
  words = all_words head es room

  pub sixteen : length head ≡ 16
  unfolding head16
  sixteen = refl

  -- record 0's heads
  pub head_def_lem : first_def words ≡ first (defs_of 0) 1 es
  unfolding out_field all_words head16
  head_def_lem = refl

  pub head_ext_lem : first_ext words ≡ first (exts_of 0) 1 es
  unfolding out_field all_words head16
  head_ext_lem = refl

  pub head_bind_lem : first_bind words ≡ first bindings 1 es
  unfolding out_field all_words head16
  head_bind_lem = refl

  pub head_diag_lem : first_diag words ≡ first diagnostics 1 es
  unfolding out_field all_words head16
  head_diag_lem = refl

  pub head_post_lem : first_post words ≡ first post_diagnostics 1 es
  unfolding out_field all_words head16
  head_post_lem = refl

  -- the words of a record that is there
  module _ {a : ℕ} {x : Event} (h : There es a x) where
    pub kind_is : kind_of words a ≡ x.kind
    kind_is = kind_at head sixteen es room 0 fits ordered (split h.at 0).splits h.alive

    pub next_is : next_of words a ≡ first x.chain (a + 1) (split h.at 0).later
    next_is = next_at_lem head sixteen es room (split h.at 0).splits h.alive

    pub child_is : child_of words a ≡ first (children_of a) 1 es
    child_is = child_at_lem head sixteen es room 0 fits ordered (split h.at 0).splits h.alive

    pub m_is : m_of words a ≡ x.m
    m_is = m_at head sixteen es room 0 fits ordered (split h.at 0).splits h.alive

    -- its links
    pub link_next : leads words (next_of words a) ≡ true → Leads es (a + 1) x.chain (next_of words a)
    link_next l =
        let n = (leads_below words (next_of words a) l).0 in
        rw next_is (leads_next (split h.at 0).splits x.chain (λ z. omega (arith, next_is)))

    pub link_child : leads words (child_of words a) ≡ true → Leads es 1 (children_of a) (child_of words a)
    link_child l =
        let n = (leads_below words (child_of words a) l).0 in
        rw child_is (leads_first es (children_of a) (λ z. omega (arith, child_is)))

    pub link_body : kind_of words a ≡ extension_kind → leads words (m_of words a) ≡ true → Leads es 1 (defs_of x.log) (m_of words a)
    link_body k l =
        let n = (leads_below words (m_of words a) l).0 in
        let m : m_of words a ≡ first (defs_of x.log) 1 es = m_is ∙ (extends (whole.making.stands a x h) (sym kind_is ∙ k)).body in
        rw m (leads_first es (defs_of x.log) (λ z. omega (arith, m)))

  -- its kind fits its chain
  pub kind_fits : {a : ℕ} {x : Event} → There es a x → one_of (kind_of words a) (kinds_in (place_in words x.chain)) ≡ true
  unfolding place_in one_of
  kind_fits {a} {x} h = rw (kind_is h) (go (whole.making.stands a x h))
    where
      go : Stands main_log es a x → one_of x.kind (kinds_in (place_in words x.chain)) ≡ true
      go (in_defs {l} i q o) = rw (q, place_defs words l) o
      go (in_exts z q k n b o) = rw (q ∙ ap exts_of z, k) refl
      go (in_bindings q k) = rw (q, k) refl
      go (in_diagnostics q k) = rw (q, k) refl
      go (in_post q k) = rw (q, k) refl
      go (in_children {o} {x = y} i q c u) = rw (q, place_children words o, kind_is i) u

  -- links that lead to records that are there, by the places that their chains say
  pub data Led : List Link → Type 0 where
    led_none : Led []
    led_one : {l : Link} {ls : List Link} {e : Event} → There es l.to e → l.place ≡ place_in words e.chain → Led ls → Led (l ∷ ls)

  led_append : {x y : List Link} → Led x → Led y → Led (x ++ y)
  led_append led_none q = q
  led_append (led_one h p k) q = led_one h p (led_append k q)

  led_if : {ls : List Link} (t : Bool) → (t ≡ true → Led ls) → Led (cond t ls [])
  led_if true f = f refl
  led_if false f = led_none

  -- a word that leads to the first record of a chain
  led_to : (r : ℕ) (p : Place) {i c : ℕ} → (leads words r ≡ true → Leads es i c r) → p ≡ place_in words c → Led (link_to words r p)
  unfolding link_to
  led_to r p f q =
      by_test (leads words r)
      (λ t. let l = f t in rw t (led_one l.there (q ∙ ap (λ (n : ℕ). place_in words n) (sym l.chain)) led_none))
      (λ t. rw t led_none)

  -- record 0's
  led_head : (r : ℕ) (p : Place) (c : ℕ) → r ≡ first c 1 es → p ≡ place_in words c → Led (link_to words r p)
  led_head r p c e q = led_to r p {i = 1} {c = c} (λ l. rw e (leads_first es c (λ z. omega (arith, e, (leads_below words r l).0)))) q

  led_heads : Led (head_links words)
  unfolding head_links place_in
  led_heads =
      led_append
      (led_append
      (led_append
      (led_append (led_head (first_def words) definitions (defs_of 0) head_def_lem refl)
      (led_head (first_ext words) extensions (exts_of 0) head_ext_lem refl))
      (led_head (first_bind words) S.bindings bindings head_bind_lem refl))
      (led_head (first_diag words) S.diagnostics diagnostics head_diag_lem refl))
      (led_head (first_post words) S.diagnostics post_diagnostics head_post_lem refl)

  -- those of a record
  led_links : (l : Link) {e : Event} → There es l.to e → l.place ≡ place_in words e.chain → Led (links_of words l)
  unfolding links_of
  led_links l {e} h p =
      led_append
      (led_append (led_to (next_of words l.to) l.place (link_next h) p)
      (led_to (child_of words l.to) (below (kind_of words l.to)) (link_child h) (sym (place_children words l.to))))
      (led_if (eqb (kind_of words l.to) extension_kind)
      (λ t. led_to (m_of words l.to) definitions (link_body h (eqb-true _ _ t)) (sym (place_defs words e.log))))

  led_walk : (left : ℕ) (met : List ℕ) {waiting : List Link} → Led waiting → Led (walk left words met waiting)
  unfolding walk
  led_walk zero met h = led_none
  led_walk (suc left) met led_none = led_none
  led_walk (suc left) met (led_one {l} h p k) =
      led_one h p (led_walk left (l.to ∷ met) (led_append k (led_if (eqb (times l.to met) 0) (λ t. led_links l h p))))

  pub led_followed : Led (followed words)
  unfolding followed
  led_followed = led_walk (most_links words) [] led_heads

  -- so what is reached is there
  pub record IsThere (r : ℕ) : Type 0 where
    pub event : Event
    pub there : There es r event

  led_there : {ls : List Link} → Led ls → (r : ℕ) → 1 ≤ times_reached ls r → IsThere r
  unfolding targets times
  led_there led_none r h = absurd (omega arith)
  led_there (led_one {l} {e = e} t p k) r h =
      by_test (eqb l.to r)
      (λ q. rw (← eqb-true l.to r q) (record { event = e; there = t }))
      (λ q. led_there k r (omega (arith, rw q at h)))

  pub reached_there : (r : ℕ) → 1 ≤ times_reached (followed words) r → IsThere r
  reached_there r h = led_there led_followed r h

  -- with a kind that fits
  led_fits : {ls : List Link} → Led ls → (r : ℕ) → unfit words ls r ≡ false
  unfolding unfit
  led_fits led_none r = refl
  led_fits (led_one {l} {e = e} t p k) r =
      by_test (eqb l.to r)
      (λ q.
      let z : one_of (kind_of words l.to) (kinds_in l.place) ≡ true = rw p (kind_fits t) in
      let y : one_of (kind_of words r) (kinds_in l.place) ≡ true = rw (eqb-true l.to r q) at z in
      rw (q, y) (led_fits k r))
      (λ q. rw q (led_fits k r))

  pub followed_fits : (r : ℕ) → unfit words (followed words) r ≡ false
  followed_fits r = led_fits led_followed r
