-- Two written logs that say and count the same have all in common but record numbers and text starts (`written_pinned`): beside their
-- chains, which are alike (Pinned), every record that is reached is in one of these (`partner`), and the rest is zero.
use Prim.Native.Nat.{ℕ}
use mathlib.Core.Path.{◌≡◌, refl, sym, ◌∙◌}
use mathlib.Core.Bool.{true, false}
use mathlib.Core.Logic.{inl, inr}
use mathlib.Core.List.{List}
use native.Mathlib.Omega.{arith}
use borrow.Author.Tests.{le-leb, leb-true}
use Rattle.paths_numbers.proofs.Texts.{by_test, not_both}
use Rattle.definition_log.specs.meaning.Record.{kind_of, next_of, child_of, m_of, first_def, first_ext, first_bind, first_diag, first_post}
use Rattle.definition_log.specs.meaning.Record.{extension_kind}
use Rattle.definition_log.specs.meaning.Record.{one_of, has_children, leads}
use Rattle.definition_log.specs.meaning.ReadBack.{chain_of, Log}
use Rattle.definition_log.specs.meaning.Sound.{Place, definitions, extensions, bindings, diagnostics, labels, values, cells, references}
use Rattle.definition_log.specs.meaning.Sound.{nowhere}
use Rattle.definition_log.specs.meaning.Sound.{kinds_in, below, followed, times_reached, sound, lowest_fault}
use Rattle.definition_log.specs.meaning.Written.{Written}
use Rattle.definition_log.specs.meaning.Alike.{AlikeWords, AlikeAll, more, AlikeValue, AlikeDef, AlikeExt, AlikeLog, Words32}
use Rattle.definition_log.specs.meaning.Pinned.{Zeros, Partner, Pinned}
use Rattle.definition_log.proofs.Walk.{leads_below}
use Rattle.definition_log.proofs.Reached.{Reached, heads_inside, good, reached_inside, childless, Head, defs, exts, binds, diags, post}
use Rattle.definition_log.proofs.Chains.{Chain, ends, goes_on_lem, Starts, chain_list, head_starts, child_starts, body_starts}
use Rattle.definition_log.proofs.Places.{Stands, EndOrStands, stands_kind, next_stands, child_stands, body_stands, head_stands}
use Rattle.definition_log.proofs.Linked.{Linked, from-head, by_next, by_child, by_body, linked_reached, reached_linked}
use Rattle.definition_log.proofs.Pinned.{Every, done, also, by_kind, log_alike}

-- what is zero in a written log
written_zeros : {starts w b : List ℕ} {n m : ℕ} {l : Log} → Written starts w b n m l → Zeros w b
written_zeros {w} {b} x =
    record {
      unreached_words = x.clear_words;
      unreached_bytes = x.clear_bytes;
      empty_text = λ r h. (x.kept r h).empty_text;
      empty_second = λ r h. (x.kept r h).empty_second;
      heads = heads_inside w b x.rules;
      links = λ r h. (good w b x.rules r (leb-true 1 (times_reached (followed w) r) h)).links;
    }

-- a record that links lead to stands where they lead
module _ (w b : List ℕ) (ok : lowest_fault w b ≡ sound) where
  stand : {t : ℕ} {p : Place} → leads w t ≡ true → EndOrStands w t p → Stands w t p
  stand {t} l (inl z) = absurd (omega (arith, (leads_below w t l).0))
  stand l (inr i) = i

  -- one with a child is of a kind that has children
  has_child : (r : ℕ) → Reached w r → leads w (child_of w r) ≡ true → has_children (kind_of w r) ≡ true
  has_child r h l =
      by_test (has_children (kind_of w r))
      (λ c. c)
      (λ c. absurd (omega (arith, childless w b ok r h c, (leads_below w (child_of w r) l).0)))

  linked_stands : {r : ℕ} {p : Place} → Linked w r p → Stands w r p
  linked_stands (from-head x l) = stand l (head_stands w b ok x)
  linked_stands (by_next {r} {p} k l) = stand l (next_stands w b ok r p (linked_stands k))
  linked_stands (by_child {r} {p} k l) = stand l (child_stands w b ok r p (linked_stands k) (has_child r (linked_reached k) l))
  linked_stands (by_body {r} {p} k e l) = stand l (body_stands w b ok r p (linked_stands k) e)

module _ (w b v c : List ℕ) where
  -- what records have in common, by where they stand
  abbrev AlikeIn : Place → ℕ → ℕ → Type 0
  AlikeIn definitions = AlikeDef w b v c
  AlikeIn extensions = AlikeExt w b v c
  AlikeIn bindings = AlikeWords w b v c
  AlikeIn diagnostics = AlikeWords w b v c
  AlikeIn labels = AlikeValue w b v c
  AlikeIn values = AlikeValue w b v c
  AlikeIn cells = AlikeWords w b v c
  AlikeIn references = AlikeWords w b v c
  AlikeIn nowhere = AlikeWords w b v c

  alike_own : (p : Place) {r s : ℕ} → AlikeIn p r s → AlikeWords w b v c r s
  alike_own definitions a = a.own
  alike_own extensions a = a.own
  alike_own bindings a = a
  alike_own diagnostics a = a
  alike_own labels a = a.own
  alike_own values a = a.own
  alike_own cells a = a
  alike_own references a = a
  alike_own nowhere a = a

  -- a chain of kinds without children
  barren : (k : ℕ) (l : List ℕ) → Every (λ j. has_children j ≡ false) l → one_of k l ≡ true → has_children k ≡ true → ⊥
  barren k l e o h = not_both h (by_kind (λ j. has_children j ≡ false) e k o)

  -- the chains below them
  child_in : (p : Place) (r s : ℕ) → one_of (kind_of w r) (kinds_in p) ≡ true → has_children (kind_of w r) ≡ true → AlikeIn p r s
      → AlikeAll (AlikeIn (below (kind_of w r))) (chain_of w (child_of w r)) (chain_of v (child_of v s))
  unfolding one_of
  child_in definitions r s o h a =
      by_kind (λ j. kind_of w r ≡ j → AlikeAll (AlikeIn (below (kind_of w r))) (chain_of w (child_of w r)) (chain_of v (child_of v s)))
      (also (λ e. rw e a.below) (also (λ e. rw e a.below)
      (also (λ e. absurd (not_both (rw e at h) refl)) (also (λ e. absurd (not_both (rw e at h) refl))
      (also (λ e. absurd (not_both (rw e at h) refl)) (also (λ e. absurd (not_both (rw e at h) refl)) done))))))
      (kind_of w r) o refl
  child_in extensions r s o h a =
      by_kind (λ j. kind_of w r ≡ j → AlikeAll (AlikeIn (below (kind_of w r))) (chain_of w (child_of w r)) (chain_of v (child_of v s)))
      (also (λ e. rw e a.reference) done) (kind_of w r) o refl
  child_in values r s o h a =
      by_kind (λ j. kind_of w r ≡ j → AlikeAll (AlikeIn (below (kind_of w r))) (chain_of w (child_of w r)) (chain_of v (child_of v s)))
      (also (λ e. absurd (not_both (rw e at h) refl)) (also (λ e. rw e a.below)
      (also (λ e. absurd (not_both (rw e at h) refl)) (also (λ e. absurd (not_both (rw e at h) refl)) done))))
      (kind_of w r) o refl
  child_in bindings r s o h a = absurd (barren (kind_of w r) (kinds_in bindings) (also refl done) o h)
  child_in diagnostics r s o h a = absurd (barren (kind_of w r) (kinds_in diagnostics) (also refl done) o h)
  child_in labels r s o h a = absurd (barren (kind_of w r) (kinds_in labels) (also refl done) o h)
  child_in cells r s o h a = absurd (barren (kind_of w r) (kinds_in cells) (also refl (also refl done)) o h)
  child_in references r s o h a = absurd (barren (kind_of w r) (kinds_in references) (also refl done) o h)
  child_in nowhere r s o h a = absurd (barren (kind_of w r) (kinds_in nowhere) done o h)

  -- the bodies of extensions
  body_in : (p : Place) (r s : ℕ) → one_of (kind_of w r) (kinds_in p) ≡ true → kind_of w r ≡ extension_kind → AlikeIn p r s
      → AlikeAll (AlikeDef w b v c) (chain_of w (m_of w r)) (chain_of v (m_of v s))
  unfolding one_of
  body_in extensions r s o e a = a.body
  body_in definitions r s o e a = absurd (not_both (rw e at o) refl)
  body_in bindings r s o e a = absurd (not_both (rw e at o) refl)
  body_in diagnostics r s o e a = absurd (not_both (rw e at o) refl)
  body_in labels r s o e a = absurd (not_both (rw e at o) refl)
  body_in values r s o e a = absurd (not_both (rw e at o) refl)
  body_in cells r s o e a = absurd (not_both (rw e at o) refl)
  body_in references r s o e a = absurd (not_both (rw e at o) refl)
  body_in nowhere r s o e a = absurd (not_both o refl)

  -- the records from r on, and those of the other that they are alike
  record Paired (r : ℕ) (p : Place) : Type 0 where
    s : ℕ
    rs : List ℕ
    ss : List ℕ
    left : Chain w r rs
    right : Chain v s ss
    all : AlikeAll (AlikeIn p) rs ss

  -- the first of them, and the rest
  record First (r : ℕ) (p : Place) : Type 0 where
    s : ℕ
    reached : Reached v s
    alike : AlikeIn p r s
    rest : Paired (next_of w r) p

  first : (p : Place) {r s : ℕ} {rs ss : List ℕ} → Reached w r → Chain w r rs → Chain v s ss → AlikeAll (AlikeIn p) rs ss → First r p
  first p {r} h (ends z) d a = absurd (omega (arith, reached_inside w r h))
  first p h (goes_on_lem k e) (ends z) a = elim a [ ]
  first p h (goes_on_lem {rs} k e) (goes_on_lem {r = s} {rs = ss} l d) (more a m) =
      record { s = s; reached = l; alike = a; rest = record { s = next_of v s; rs = rs; ss = ss; left = e; right = d; all = m } }

  module _ (ok : lowest_fault w b ≡ sound) (ok' : lowest_fault v c ≡ sound) (log : AlikeLog w b v c) where
    -- two chains that are alike
    pair : (p : Place) (t u : ℕ) → Starts w t → Starts v u → AlikeAll (AlikeIn p) (chain_of w t) (chain_of v u) → Paired t p
    pair p t u a d all =
        record {
          s = u;
          rs = chain_of w t;
          ss = chain_of v u;
          left = chain_list w b ok t a;
          right = chain_list v c ok' u d;
          all = all;
        }

    -- record 0's
    paired_head : {t : ℕ} {p : Place} → Head w t p → Paired t p
    paired_head defs = pair definitions (first_def w) (first_def v) (head_starts w b ok defs) (head_starts v c ok' defs) log.defs
    paired_head exts = pair extensions (first_ext w) (first_ext v) (head_starts w b ok exts) (head_starts v c ok' exts) log.exts
    paired_head binds = pair bindings (first_bind w) (first_bind v) (head_starts w b ok binds) (head_starts v c ok' binds) log.binds
    paired_head diags = pair diagnostics (first_diag w) (first_diag v) (head_starts w b ok diags) (head_starts v c ok' diags) log.diags
    paired_head post = pair diagnostics (first_post w) (first_post v) (head_starts w b ok post) (head_starts v c ok' post) log.post

    -- those below a record
    paired_child : (p : Place) (r : ℕ) → Stands w r p → Reached w r → First r p → leads w (child_of w r) ≡ true
        → Paired (child_of w r) (below (kind_of w r))
    paired_child p r i h f l =
        let g = has_child w b ok r h l in
        pair (below (kind_of w r)) (child_of w r) (child_of v f.s) (child_starts w b ok r h g)
        (child_starts v c ok' f.s f.reached (rw (alike_own p f.alike).kind at g))
        (child_in p r f.s (stands_kind w b ok r p i) g f.alike)

    paired_body : (p : Place) (r : ℕ) → Stands w r p → Reached w r → First r p → kind_of w r ≡ extension_kind
        → Paired (m_of w r) definitions
    paired_body p r i h f e =
        pair definitions (m_of w r) (m_of v f.s) (body_starts w b ok r h e)
        (body_starts v c ok' f.s f.reached (sym (alike_own p f.alike).kind ∙ e))
        (body_in p r f.s (stands_kind w b ok r p i) e f.alike)

    paired : {r : ℕ} {p : Place} → Linked w r p → Paired r p
    paired (from-head x l) = paired_head x
    paired (by_next {r} {p} k l) =
        let q = paired k in
        (first p (linked_reached k) q.left q.right q.all).rest
    paired (by_child {r} {p} k l) =
        let q = paired k in
        let h = linked_reached k in
        paired_child p r (linked_stands w b ok k) h (first p h q.left q.right q.all) l
    paired (by_body {r} {p} k e l) =
        let q = paired k in
        let h = linked_reached k in
        paired_body p r (linked_stands w b ok k) h (first p h q.left q.right q.all) e

    -- a record that is reached is alike one of the other
    partner : (r : ℕ) → Reached w r → Partner w b v c r
    partner r h =
        let z = reached_linked w r h in
        let q = paired z.linked in
        let f = first z.place h q.left q.right q.all in
        record {
          of = f.s;
          reached = le-leb 1 (times_reached (followed v) f.s) f.reached;
          alike = alike_own z.place f.alike;
        }

-- whole logs
pub written_pinned : {starts w b v c : List ℕ} {n m : ℕ} {l : Log} → Written starts w b n m l → Written starts v c n m l
    → Words32 w → Words32 v → Pinned w b v c
written_pinned {w} {b} {v} {c} x y ww wv =
    record {
      records = log_alike x y ww wv refl;
      left_all = λ r h. partner w b v c x.rules y.rules (log_alike x y ww wv refl) r (leb-true 1 (times_reached (followed w) r) h);
      right_all = λ s h. partner v c w b y.rules x.rules (log_alike y x wv ww refl) s (leb-true 1 (times_reached (followed v) s) h);
      counted = x.counted ∙ sym y.counted;
      counted_bytes = x.counted_bytes ∙ sym y.counted_bytes;
      rest_of_head = λ i h k. (x.rest_of_head i h k, y.rest_of_head i h k);
      left = written_zeros x;
      right = written_zeros y;
    }
