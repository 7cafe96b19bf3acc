-- A complete log in the making, record 0 written, keeps row 8's rules.
use Prim.Native.Nat.{ℕ, zero, suc, ◌+◌, ◌-◌, ◌≤◌, ◌<◌}
use mathlib.Core.Path.{◌≡◌, refl, sym, ap, ◌∙◌}
use mathlib.Core.Bool.{Bool, true, false, not, cond}
use mathlib.Core.List.{List, [], ◌∷◌}
use native.Mathlib.Omega.{arith}
use borrow.Author.Tests.{eqb-true, eqb-false, leb-true, lt-leb, le-ltb}
use lib.Dec.{eqb, leb}
use lib.ListN.{length, get_or}
use Rattle.paths_numbers.specs.meaning.Text.{is_empty}
use Rattle.paths_numbers.specs.meaning.Path.{good_path}
use Rattle.paths_numbers.proofs.Texts.{by_test, not_both}
use Rattle.definition_log.specs.meaning.Record.{out_field, kind_of, next_of, child_of, m_of, text_start, text_length, second_start}
use Rattle.definition_log.specs.meaning.Record.{second_length, span_start}
use Rattle.definition_log.specs.meaning.Record.{span_end, name_start, name_end, first_def, first_ext, first_bind, first_diag, first_post}
use Rattle.definition_log.specs.meaning.Record.{version_kind}
use Rattle.definition_log.specs.meaning.Record.{plugin_kind, binding_kind, extension_kind, one_of, def_kinds, has_children, has_span}
use Rattle.definition_log.specs.meaning.Record.{has_name_span, log_count}
use Rattle.definition_log.specs.meaning.Record.{leads_out}
use Rattle.definition_log.specs.meaning.Sound.{Link, nonempty_path, followed, times_reached, any_of, heads_out, links_out, texts_out}
use Rattle.definition_log.specs.meaning.Sound.{spans_reversed}
use Rattle.definition_log.specs.meaning.Sound.{path_wrong, record_fault, at_fault, sound, first_fault, lowest_fault}
use Rattle.making.specs.machine.Events.{Event, defs_of, exts_of, bindings, diagnostics, post_diagnostics, children_of, first, start_of}
use Rattle.making.specs.machine.Events.{alive16, words16, bytes_in, end_of, all_words, all_bytes, Ordered}
use Rattle.making.specs.machine.Whole.{There, path_right, Whole}
use Rattle.making.specs.machine.Finished.{head_in}
use Rattle.making.proofs.ReadEvents.{Splits, splits_here, splits_later, field_at}
use Rattle.making.proofs.ReadLog.{first_text_at, second_text_at}
use Rattle.making.proofs.Removing.{end_least, length_bytes}
use Rattle.making.proofs.FirstOf.{at_to, at_same, split, leads_first, leads_next}
use Rattle.making.proofs.Standing.{extends, owned}
use Rattle.making.proofs.LogLinks.{sixteen, head_def_lem, head_ext_lem, head_bind_lem, head_diag_lem, head_post_lem, kind_is, next_is}
use Rattle.making.proofs.LogLinks.{child_is, m_is}
use Rattle.making.proofs.LogLinks.{reached_there, followed_fits}
use Rattle.making.proofs.LedOnce.{led_once}

-- the texts of a record end with those of all
pub splits_end : {k at r b : ℕ} {xs es : List Event} {e : Event} → Splits k at xs r b e es → b + bytes_in e ≤ end_of at xs
unfolding end_of
splits_end {at = at} {es = es} {e} splits_here = end_least (at + bytes_in e) es
splits_end (splits_later s) = splits_end s

-- and start where they are said to, or at 0
pub start_most : (at : ℕ) (s : List ℕ) → start_of at s ≤ at
start_most at s = by_test (is_empty s) (λ t. rw t (omega arith)) (λ t. rw t (omega arith))

-- the words of a record that is there
words_alive : (k at : ℕ) (e : Event) (es : List Event) → e.alive ≡ true → words16 k at e es ≡ alive16 k at e es
unfolding words16
words_alive k at e es t = rw t refl

-- a test that is refused either way
if_false : (t : Bool) → cond t false false ≡ false
if_false true = refl
if_false false = refl

-- a path that is right is not wrong
not_wrong : (k : ℕ) (s t : List ℕ)
    → cond (one_of k (version_kind ∷ plugin_kind ∷ [])) (good_path s)
    (cond (one_of k def_kinds) (nonempty_path s) (cond (eqb k binding_kind) (nonempty_path t) true)) ≡ true
    → cond (one_of k (version_kind ∷ plugin_kind ∷ [])) (not (good_path s))
    (cond (one_of k def_kinds) (not (nonempty_path s)) (cond (eqb k binding_kind) (not (nonempty_path t)) false)) ≡ false
not_wrong k s t h =
    by_test (one_of k (version_kind ∷ plugin_kind ∷ []))
    (λ u. let g : good_path s ≡ true = rw u at h in rw (u, g) refl)
    (λ u.
    by_test (one_of k def_kinds)
    (λ v. let g : nonempty_path s ≡ true = rw (u, v) at h in rw (u, v, g) refl)
    (λ v.
    by_test (eqb k binding_kind)
    (λ x. let g : nonempty_path t ≡ true = rw (u, v, x) at h in rw (u, v, x, g) refl)
    (λ x. rw (u, v, x) refl)))

-- no record at fault
none_fault : (left : ℕ) (words bytes : List ℕ) (links : List Link) (r : ℕ) → ((s : ℕ) → at_fault words bytes links s ≡ false)
    → first_fault left words bytes links r ≡ sound
unfolding first_fault
none_fault zero words bytes links r f = refl
none_fault (suc left) words bytes links r f = rw (f r) (none_fault left words bytes links (r + 1) f)

module _ (es : List Event) (records used room more : ℕ) (fits : 1 + length es ≤ log_count (all_words (head_in records used es) es room))
    (ordered : Ordered 1 es) (whole : Whole es) where
  abbrev head : List ℕ
  head = head_in records used es

  abbrev words : List ℕ
  words = all_words head es room

  abbrev bytes : List ℕ
  bytes = all_bytes es more

  -- a link stays inside
  inside : (t : ℕ) → ((t ≡ 0 → ⊥) → t < 1 + length es) → leads_out words t ≡ false
  inside t f =
      by_test (eqb t 0)
      (λ z. lt-leb (log_count words) t (omega (arith, eqb-true t 0 z)))
      (λ z. lt-leb (log_count words) t (omega (arith, f (eqb-false t 0 z))))

  first_inside : (t c : ℕ) → t ≡ first c 1 es → leads_out words t ≡ false
  first_inside t c q = rw q (inside (first c 1 es) (λ n. at_to (leads_first es c n).there.at))

  heads_inside : heads_out words ≡ false
  unfolding heads_out any_of
  heads_inside =
      let a = first_inside (first_def words) (defs_of 0) (head_def_lem es records used room fits ordered whole) in
      let b = first_inside (first_ext words) (exts_of 0) (head_ext_lem es records used room fits ordered whole) in
      let c = first_inside (first_bind words) bindings (head_bind_lem es records used room fits ordered whole) in
      let d = first_inside (first_diag words) diagnostics (head_diag_lem es records used room fits ordered whole) in
      let e = first_inside (first_post words) post_diagnostics (head_post_lem es records used room fits ordered whole) in
      rw (a, b, c, d, e) refl

  -- a record whose kind has no children has none
  module _ {a : ℕ} {x : Event} (h : There es a x) where
    pub childless : has_children x.kind ≡ false → first (children_of a) 1 es ≡ 0
    childless f =
        by_test (eqb (first (children_of a) 1 es) 0)
        (λ t. eqb-true _ _ t)
        (λ t.
        let l = leads_first es (children_of a) (eqb-false (first (children_of a) 1 es) 0 t) in
        let o = owned (whole.making.stands (first (children_of a) 1 es) l.event l.there) l.chain in
        absurd (not_both (rw (at_same o.there.at h.at) at o.children) f))

    -- its links stay inside
    next_inside : leads_out words (next_of words a) ≡ false
    next_inside =
        rw (next_is es records used room fits ordered whole h)
        (inside _ (λ n. at_to (leads_next (split h.at 0).splits x.chain n).there.at))

    child_inside : cond (has_children (kind_of words a)) (leads_out words (child_of words a)) (not (eqb (child_of words a) 0)) ≡ false
    child_inside =
        let k = kind_is es records used room fits ordered whole h in
        let c = child_is es records used room fits ordered whole h in
        by_test (has_children (kind_of words a))
        (λ t. rw t (first_inside (child_of words a) (children_of a) c))
        (λ t.
        let z : child_of words a ≡ 0 = c ∙ childless (rw k at t) in
        rw (t, z) refl)

    body_inside : cond (eqb (kind_of words a) extension_kind) (leads_out words (m_of words a)) false ≡ false
    body_inside =
        by_test (eqb (kind_of words a) extension_kind)
        (λ t.
        let k : x.kind ≡ extension_kind = sym (kind_is es records used room fits ordered whole h)
        ∙ eqb-true (kind_of words a) extension_kind t in
        rw t
        (first_inside (m_of words a) (defs_of x.log)
        (m_is es records used room fits ordered whole h ∙ (extends (whole.making.stands a x h) k).body)))
        (λ t. rw t refl)

    links_inside : links_out words a ≡ false
    unfolding links_out any_of
    links_inside = rw (next_inside, child_inside, body_inside) refl

    -- where its texts start, and its words
    abbrev start : ℕ
    start = (split h.at 0).start

    pub word_is : (i : ℕ) → i < 16 → out_field words a i ≡ get_or (alive16 a start x (split h.at 0).later) i 0
    word_is i l =
        field_at head (sixteen es records used room fits ordered whole) es room (split h.at 0).splits i l
        ∙ ap (λ (w : List ℕ). get_or w i 0) (words_alive a start x (split h.at 0).later h.alive)

    pub text_words : (text_start words a ≡ start_of start x.text) × (text_length words a ≡ length x.text)
    text_words = (word_is 2 (omega arith), word_is 3 (omega arith))

    pub second_words : (second_start words a ≡ start_of (start + length x.text) x.second) × (second_length words a ≡ length x.second)
    second_words = (word_is 4 (omega arith), word_is 5 (omega arith))

    pub span_words : (span_start words a ≡ x.from) × (span_end words a ≡ x.to)
    span_words = (word_is 9 (omega arith), word_is 10 (omega arith))

    pub name_words : (name_start words a ≡ x.name_from) × (name_end words a ≡ x.name_to)
    name_words = (word_is 11 (omega arith), word_is 12 (omega arith))

    -- its texts lie in the bytes
    texts_inside : texts_out words bytes a ≡ false
    unfolding texts_out
    texts_inside =
        let e = splits_end (split h.at 0).splits in
        let n = length_bytes es more in
        let p = start_most start x.text in
        let q = start_most (start + length x.text) x.second in
        rw (
          text_words.0,
          text_words.1,
          second_words.0,
          second_words.1,
          le-ltb (length bytes)
              (start_of start x.text + length x.text) (omega arith),
        )
        (le-ltb (length bytes) (start_of (start + length x.text) x.second + length x.second) (omega arith))

    -- its spans are in order
    spans_right : spans_reversed words a ≡ false
    unfolding spans_reversed
    spans_right =
        let p = whole.right a x h in
        rw (
          span_words.0,
          span_words.1,
          name_words.0,
          name_words.1,
          le-ltb x.to x.from p.span_order,
          le-ltb x.name_to
              x.name_from p.name_order,
          if_false (has_span (kind_of words a)),
          if_false (has_name_span (kind_of words a)),
        )
        refl

    -- and its path is right
    path_right_lem : path_wrong words bytes a ≡ false
    unfolding path_wrong path_right
    path_right_lem =
        let s = (split h.at 0).splits in
        let six = sixteen es records used room fits ordered whole in
        rw (
          kind_is es records used room fits ordered whole h,
          first_text_at head six es room more fits ordered s h.alive,
          second_text_at
              head six es room more fits ordered s h.alive,
        )
        (not_wrong x.kind x.text x.second (whole.right a x h).path)

    no_fault : record_fault words bytes (followed words) a ≡ false
    unfolding record_fault any_of
    no_fault =
        rw (
          links_inside,
          lt-leb 2 (times_reached (followed words) a) (omega (arith, led_once es records used room fits ordered whole a)),
          texts_inside,
          followed_fits es records used room fits ordered whole a,
          spans_right,
          path_right_lem,
        )
        refl

  -- no record is at fault
  none_at_fault : (r : ℕ) → at_fault words bytes (followed words) r ≡ false
  unfolding at_fault
  none_at_fault r =
      by_test (leb 1 (times_reached (followed words) r))
      (λ t. rw t (no_fault (reached_there es records used room fits ordered whole r
      (leb-true 1 (times_reached (followed words) r) t)).there))
      (λ t. rw t refl)

  pub rules_kept : lowest_fault words bytes ≡ sound
  unfolding lowest_fault
  rules_kept = rw heads_inside (none_fault (log_count words - 1) words bytes (followed words) 1 none_at_fault)
