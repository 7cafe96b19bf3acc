-- Each record of a complete log in the making keeps 01's rules for writing: words not named are zero, empty texts start at 0, and an
-- extension has one reference.
use Prim.Native.Nat.{ℕ, suc, ◌+◌, ◌≤◌, ◌<◌}
use mathlib.Core.Path.{◌≡◌, refl, sym, ap, ◌∙◌}
use mathlib.Core.Bool.{true, false}
use mathlib.Core.List.{List, [], ◌∷◌}
use native.Mathlib.Omega.{arith}
use borrow.Author.Tests.{eqb-true, eqb-false}
use lib.Dec.{eqb}
use lib.ListN.{length, get_or}
use Rattle.paths_numbers.proofs.Texts.{by_test, not_both, is_empty_lem}
use Rattle.definition_log.specs.meaning.Record.{record_words, out_field, kind_of, next_of, n_of, extension_kind, has_children, log_count}
use Rattle.files.proofs.Starts.{one_file_lem}
use Rattle.definition_log.specs.meaning.Record.{span_start, name_start}
use Rattle.definition_log.specs.meaning.Written.{has_text, has_second_text, named, Kept}
use Rattle.making.specs.machine.Events.{Event, children_of, in_chain, first, start_of, alive16, members, below, all_words, Ordered}
use Rattle.making.specs.machine.Whole.{There, Plain, Whole}
use Rattle.making.specs.machine.Finished.{head_in}
use Rattle.making.proofs.ReadEvents.{Splits, splits_here, splits_later, splits_from}
use Rattle.making.proofs.FirstOf.{split, in_chain_lem, leads_first}
use Rattle.making.proofs.Standing.{extends}
use Rattle.making.proofs.LogLinks.{kind_is, child_is, next_is}
use Rattle.making.proofs.WholeRules.{childless, word_is, text_words, second_words}

-- what holds of each number below n and of n holds of each below n + 1
more : {P : ℕ → Type 0} (n : ℕ) → ((i : ℕ) → i < n → P i) → P n → (i : ℕ) → i < suc n → P i
more {P} n f p i h =
    by_test (eqb i n)
    (λ t. rw (eqb-true i n t) p)
    (λ t. f i (omega (arith, eqb-false i n t)))

-- an empty text starts at 0
empty_start_lem : (at : ℕ) (s : List ℕ) → length s ≡ 0 → start_of at s ≡ 0
empty_start_lem at s h = rw (is_empty_lem s h) refl

-- words not named
module _ (r b : ℕ) (x : Event) (later : List Event) (p : Plain x)
    (kids : has_children x.kind ≡ false → first (children_of r) (r + 1) later ≡ 0) where
  abbrev Zero : ℕ → Type 0
  Zero i = named x.kind x.n i ≡ false → get_or (alive16 r b x later) i 0 ≡ 0

  pub unnamed_zero : (i : ℕ) → i < 16 → Zero i
  unfolding named
  unnamed_zero =
      let size : has_text x.kind x.n ≡ false → length x.text ≡ 0 = λ e. ap length (p.text e) in
      let size2 : has_second_text x.kind x.n ≡ false → length x.second ≡ 0 = λ e. ap length (p.second e) in
      more {P = Zero} 15
      (more {P = Zero} 14
      (more {P = Zero} 13
      (more {P = Zero} 12
      (more {P = Zero} 11
      (more {P = Zero} 10
      (more {P = Zero} 9
      (more {P = Zero} 8
      (more {P = Zero} 7
      (more {P = Zero} 6
      (more {P = Zero} 5
      (more {P = Zero} 4
      (more {P = Zero} 3
      (more {P = Zero} 2
      (more {P = Zero} 1
      (more {P = Zero} 0 (λ i h. absurd (omega arith)) (λ e. absurd (not_both refl e)))
      (λ e. absurd (not_both refl e)))
      (λ e. empty_start_lem b x.text (size e)))
      size)
      (λ e. empty_start_lem (b + length x.text) x.second (size2 e)))
      size2)
      kids)
      p.n)
      p.m)
      (λ e. (p.span e).0))
      (λ e. (p.span e).1))
      (λ e. (p.name_span e).0))
      (λ e. (p.name_span e).1))
      (λ e. refl))
      (λ e. refl))
      (λ e. refl)

-- a chain with no record has no first
no_first : (c k : ℕ) (es : List Event) → length (members c k es) ≡ 0 → first c k es ≡ 0
unfolding members first
no_first c k [] h = refl
no_first c k (x ∷ es) h =
    by_test (in_chain c x)
    (λ t. absurd (omega (arith, rw t at h)))
    (λ t. rw t (no_first c (k + 1) es (rw t at h)))

some_first : (c k : ℕ) (es : List Event) → 0 < k → first c k es ≡ 0 → length (members c k es) ≡ 0
unfolding members first
some_first c k [] p h = refl
some_first c k (x ∷ es) p h =
    by_test (in_chain c x)
    (λ t. absurd (omega (arith, rw t at h)))
    (λ t. rw t (some_first c (k + 1) es (omega arith) (rw t at h)))

-- behind its first record a chain has one record less
rest_members : (c : ℕ) {k at r b : ℕ} {xs es : List Event} {e : Event} → Splits k at xs r b e es → first c k xs ≡ r → in_chain c e ≡ true
    → length (members c k xs) ≡ suc (length (members c (r + 1) es))
unfolding members first
rest_members c splits_here q t = rw t refl
rest_members c (splits_later {x = x} s) q t =
    by_test (in_chain c x)
    (λ u. absurd (omega (arith, splits_from s, rw u at q)))
    (λ u. rw u (rest_members c s (rw u at q) t))

module _ (es : List Event) (records used room more : ℕ) (fits : 1 + length es ≤ log_count (all_words (head_in records used es) es room))
    (ordered : Ordered 1 es) (whole : Whole es) where
  abbrev words : List ℕ
  words = all_words (head_in records used es) es room

  module _ {a : ℕ} {x : Event} (h : There es a x) where
    abbrev b : ℕ
    b = (split h.at 0).start

    abbrev later : List Event
    later = (split h.at 0).later

    n_is : n_of words a ≡ x.n
    n_is = word_is es records used room more fits ordered whole h 7 (omega arith)

    kids_none : has_children x.kind ≡ false → first (children_of a) (a + 1) later ≡ 0
    kids_none f =
        sym (word_is es records used room more fits ordered whole h 6 (omega arith))
        ∙ child_is es records used room fits ordered whole h
        ∙ childless es records used room more fits ordered whole h f

    unnamed_is : (i : ℕ) → i < record_words → named (kind_of words a) (n_of words a) i ≡ false → out_field words a i ≡ 0
    unnamed_is i l n =
        word_is es records used room more fits ordered whole h i l
        ∙ unnamed_zero a b x later (whole.making.plain a x h) kids_none i l
        (rw (kind_is es records used room fits ordered whole h, n_is) at n)

    -- the reference of an extension
    one_below : kind_of words a ≡ extension_kind → length (below es a) ≡ 1
    one_below k = (extends (whole.making.stands a x h) (sym (kind_is es records used room fits ordered whole h) ∙ k)).one

    some_below : kind_of words a ≡ extension_kind → first (children_of a) 1 es ≡ 0 → ⊥
    some_below k z = omega (arith, one_below k, some_first (children_of a) 1 es (omega arith) z)

  pub record_kept : {a : ℕ} {x : Event} → There es a x → Kept (0 ∷ []) words a
  record_kept {a} {x} h =
      let t = text_words es records used room more fits ordered whole h in
      let s = second_words es records used room more fits ordered whole h in
      let c = child_is es records used room fits ordered whole h in
      record {
        unnamed = unnamed_is h;
        empty_text = λ z. t.0 ∙ empty_start_lem (b h) x.text (sym t.1 ∙ z);
        empty_second = λ z. s.0 ∙ empty_start_lem (b h + length x.text) x.second (sym s.1 ∙ z);
        n = rw (n_is h, kind_is es records used room fits ordered whole h) (whole.making.plain a x h).most;
        file_of_span = λ k. word_is es records used room more fits ordered whole h 13 (omega arith) ∙ sym (one_file_lem (span_start words a));
        file_of_name = λ k. word_is es records used room more fits ordered whole h 14 (omega arith) ∙ sym (one_file_lem (name_start words a));
        a_reference = λ k z. some_below h k (sym c ∙ z);
        one_reference =
            λ k.
            let l = leads_first es (children_of a) (some_below h k) in
            let i = l.there in
            let p = split i.at 0 in
            let m = rest_members (children_of a) p.splits refl (in_chain_lem (children_of a) l.event i.alive l.chain) in
            ap (λ (r : ℕ). next_of words r) c
            ∙ next_is es records used room fits ordered whole i
            ∙ ap (λ (d : ℕ). first d (first (children_of a) 1 es + 1) p.later) l.chain
            ∙ no_first (children_of a) (first (children_of a) 1 es + 1) p.later (omega (arith, m, one_below h k));
      }
