-- What an accepted input keeps: its links go up, its texts lie inside, and its description has good names, fit places and at most 64
-- child, item and value links from record 0 to its deepest record.
use Prim.Native.Nat.{ℕ, zero, suc, ◌+◌, ◌*◌, ◌≤◌, ◌<◌}
use mathlib.Core.Path.{◌≡◌, refl, sym, ◌∙◌}
use mathlib.Core.Bool.{Bool, true, false, cond}
use mathlib.Core.List.{List, [], ◌∷◌}
use mathlib.Core.Option.{Option, some, none}
use native.Mathlib.Decide.{ℕ_discrete}
use native.Mathlib.Omega.{arith}
use borrow.Author.Tests.{not-false, ltb-false, leb-true, leb-false, eqb-true, ne_eqb}
use lib.Dec.{eqb, leb}
use lib.ListN.{length}
use Rattle.paths_numbers.proofs.Texts.{by_test, not_both, both}
use Rattle.paths_numbers.specs.meaning.Lists.{any}
use Rattle.input.specs.meaning.Tree.{name_kind}
use Rattle.input.specs.meaning.Input.{record_words, record_count, kind_at, next_at, child_at, text_start_at, text_length_at, span_at}
use Rattle.input.specs.meaning.Input.{text_at}
use Rattle.input.specs.meaning.Input.{second_at, number_at, trees_at, chain_at, description}
use Rattle.input.specs.meaning.Place.{InputPlace, items, child_place, second_place, fits_alone}
use Rattle.input.specs.machine.Fits.{fits_places, depths_of}
use Rattle.input.specs.machine.Linked.{Link, Links, Linked, At}
use Rattle.input.specs.meaning.Rows.{Verdict, accepted, refused, most_records, most_text, most_links, wrong_size, links_of, linked_below}
use Rattle.input.specs.meaning.Rows.{bad_link, bad_links, row_two, bad_text, row_three, Visit, visits, visits_from, reached, lowest_of}
use Rattle.input.specs.meaning.Rows.{unfit, bad_head, row_four, bad_name, row_five, too_deep, row_six, or_else, verdict}
use Rattle.input.specs.meaning.GoodName.{good_name, good_names_in}
use Rattle.input.proofs.GoodNames.{never}
use Rattle.input.proofs.Search.{neither, none_of, lowest_none, lowest_of_none}

-- accepted: no row finds anything
pub record Accepted (words text : List ℕ) : Type 0 where
  pub one : wrong_size words text ≡ false
  pub two : row_two words ≡ none
  pub three : row_three words text ≡ none
  pub four : row_four words ≡ none
  pub five : row_five words text ≡ none
  pub six : row_six words ≡ none

or_else_lem : (cause : ℕ) (o : Option ℕ) (later : Verdict) → or_else cause o later ≡ accepted → (o ≡ none) × (later ≡ accepted)
or_else_lem cause (some r) later e = let z : ◌≡◌ {A = ℕ} 0 1 = cc in absurd (omega arith)
or_else_lem cause none later e = (refl, e)

first_else : (t : Bool) (r : ℕ) (later : Verdict) → cond t (refused 1 r) later ≡ accepted → (t ≡ false) × (later ≡ accepted)
first_else true r later e = let z : ◌≡◌ {A = ℕ} 0 1 = cc in absurd (omega arith)
first_else false r later e = (refl, e)

module _ (words text : List ℕ) where
  pub accepted_rows : verdict words text ≡ accepted → Accepted words text
  unfolding verdict
  accepted_rows e =
      let a = first_else (wrong_size words text) 0 _ e in
      let b = or_else_lem 2 (row_two words) _ a.1 in
      let c = or_else_lem 3 (row_three words text) _ b.1 in
      let d = or_else_lem 4 (row_four words) _ c.1 in
      let f = or_else_lem 5 (row_five words text) _ d.1 in
      let g = or_else_lem 6 (row_six words) _ f.1 in
      record { one = a.0; two = b.0; three = c.0; four = d.0; five = f.0; six = g.0 }

-- row 1

-- the sizes that pass
pub record Sized (words text : List ℕ) : Type 0 where
  pub whole : length words ≡ record_count words * record_words
  pub least : 1 ≤ record_count words
  pub most : record_count words ≤ most_records
  pub bytes : length text ≤ most_text

pub sizes : (words text : List ℕ) → wrong_size words text ≡ false → Sized words text
unfolding wrong_size
sizes words text e =
    by_test (eqb (length words) (record_count words * record_words))
    (λ a. by_test (leb 1 (record_count words))
    (λ b. by_test (leb (record_count words) most_records)
    (λ c.
    record {
      whole = eqb-true _ _ a;
      least = leb-true _ _ b;
      most = leb-true _ _ c;
      bytes = ltb-false _ _ (rw (a, b, c) at e);
    })
    (λ c. absurd (not_both {t = true} refl (rw (a, b, c) at e))))
    (λ b. absurd (not_both {t = true} refl (rw (a, b) at e))))
    (λ a. absurd (not_both {t = true} refl (rw a at e)))

-- row 2

link : (words : List ℕ) (r : ℕ) (earlier : List ℕ) (l : ℕ) → bad_link words r earlier l ≡ false → Link words r l
unfolding bad_link
link words r earlier l e = record { up = λ n. leb-false l r (tests n).0; within = λ n. leb-false (record_count words) l (tests n).1 }
  where
    tests : (l ≡ 0 → ⊥) → (leb l r ≡ false) × (leb (record_count words) l ≡ false)
    tests n =
        let a = neither (leb l r) _ (rw (ne_eqb l 0 n) at e) in
        (a.0, (neither (leb (record_count words) l) _ a.1).0)

-- links that row 2 finds nothing in go up, to records that there are
pub links : (words : List ℕ) → row_two words ≡ none → Linked words
unfolding row_two bad_links
links words e = record { all = λ r h. of r (lowest_none (bad_links words) (record_count words) 0 e r (omega arith) (omega arith)) }
  where
    of : (r : ℕ) → bad_links words r ≡ false → Links words r
    of r q =
        let a = neither (bad_link words r [] (next_at words r)) _ q in
        let b = neither (bad_link words r (next_at words r ∷ []) (child_at words r)) _ a.1 in
        record { next = link words r _ _ a.0; child = link words r _ _ b.0; second = link words r _ _ b.1 }

-- a link that is not 0 leads where none before it does, the links of r before it being `earlier`
pub record Fresh (words : List ℕ) (r : ℕ) (earlier : List ℕ) (l : ℕ) : Type 0 where
  pub own : (l ≡ 0 → ⊥) → any (eqb l) earlier ≡ false
  pub below : (l ≡ 0 → ⊥) → linked_below words r l ≡ false

fresh : (words : List ℕ) (r : ℕ) (earlier : List ℕ) (l : ℕ) → bad_link words r earlier l ≡ false → Fresh words r earlier l
unfolding bad_link
fresh words r earlier l e = record { own = λ n. (tests n).0; below = λ n. (tests n).1 }
  where
    tests : (l ≡ 0 → ⊥) → (any (eqb l) earlier ≡ false) × (linked_below words r l ≡ false)
    tests n =
        let a = neither (leb l r) _ (rw (ne_eqb l 0 n) at e) in
        neither (any (eqb l) earlier) _ (neither (leb (record_count words) l) _ a.1).1

-- no record is linked twice
pub record Once (words : List ℕ) (r : ℕ) : Type 0 where
  pub next : Fresh words r [] (next_at words r)
  pub child : Fresh words r (next_at words r ∷ []) (child_at words r)
  pub second : Fresh words r (next_at words r ∷ child_at words r ∷ []) (second_at words r)

pub linked_once : (words : List ℕ) → row_two words ≡ none → (r : ℕ) → r < record_count words → Once words r
unfolding row_two bad_links
linked_once words e r h =
    let q : bad_links words r ≡ false = lowest_none (bad_links words) (record_count words) 0 e r (omega arith) (omega arith) in
    let a = neither (bad_link words r [] (next_at words r)) _ q in
    let b = neither (bad_link words r (next_at words r ∷ []) (child_at words r)) _ a.1 in
    record { next = fresh words r _ _ a.0; child = fresh words r _ _ b.0; second = fresh words r _ _ b.1 }

below_none : (words : List ℕ) (s l : ℕ) → linked_below words s l ≡ false → (r : ℕ) → r < s → any (eqb l) (links_of words r) ≡ false
unfolding linked_below
below_none words zero l e r h = absurd (omega arith)
below_none words (suc s) l e r h =
    let k = neither (any (eqb l) (links_of words s)) (linked_below words s l) e in
    elim (ℕ_discrete s r) [ yes p ↦ rw (← p) k.0 | no p ↦ below_none words s l k.1 r (omega arith) ]

-- what a record leads to, no later record does
pub linked_apart : (words : List ℕ) → row_two words ≡ none → (r s l : ℕ) → r < s → s < record_count words → (l ≡ 0 → ⊥)
    → any (eqb l) (links_of words r) ≡ true → any (eqb l) (links_of words s) ≡ false
unfolding any
linked_apart words e r s l h k n t =
    let o = linked_once words e s k in
    by_test (eqb l (next_at words s)) (λ q. absurd (clash (next_at words s) q o.next.below))
    (λ q. by_test (eqb l (child_at words s)) (λ q. absurd (clash (child_at words s) q o.child.below))
    (λ q'. by_test (eqb l (second_at words s)) (λ q. absurd (clash (second_at words s) q o.second.below))
    (λ q''. rw (q, q', q'') refl)))
  where
    clash : (m : ℕ) → eqb l m ≡ true → ((m ≡ 0 → ⊥) → linked_below words s m ≡ false) → ⊥
    clash m q f =
        let p : l ≡ m = eqb-true l m q in
        let b : linked_below words s l ≡ false = rw p (f (λ z. n (p ∙ z))) in
        not_both t (below_none words s l b r h)

-- row 3: every record's text lies inside
pub texts : (words text : List ℕ) → row_three words text ≡ none → (r : ℕ) → r < record_count words
    → text_start_at words r + text_length_at words r ≤ length text
unfolding row_three bad_text
texts words text e r h = ltb-false _ _ (lowest_none (bad_text words text) (record_count words) 0 e r (omega arith) (omega arith))

-- rows 4 to 6: what no visit breaks, the trees keep

module _ (words text : List ℕ) where
  -- row 4
  fit_own : (v : Visit) → unfit words v ≡ false
      → fits_alone v.place (kind_at words v.number) (number_at words v.number) (span_at words v.number) ≡ true
  unfolding unfit
  fit_own v e = (both (fits_alone v.place (kind_at words v.number) (number_at words v.number) (span_at words v.number)) _
      (not-false _ e)).0

  fit_trees : (f : ℕ) (place : InputPlace) (depth r : ℕ) → any (unfit words) (visits f words place depth r) ≡ false
      → fits_places place (trees_at f words text r) ≡ true
  unfolding visits trees_at fits_places
  fit_trees zero place depth r e = refl
  fit_trees (suc f) place depth zero e = refl
  fit_trees (suc f) place depth (suc r) e =
      let h = none_of (unfit words) _ _ _ _ e in
      rw (
        fit_own (record { number = suc r; place = place; depth = depth }) h.0,
        fit_trees f _ _ _ h.1.0,
        fit_trees f _ _ _ h.1.1.0,
        fit_trees f _ _ _ h.1.1.1,
      )
      refl

  -- row 5
  good_own : (v : Visit) → bad_name words text v ≡ false
      → cond (eqb (kind_at words v.number) name_kind) (good_name (text_at words text v.number)) true ≡ true
  unfolding bad_name
  good_own v e =
      by_test (eqb (kind_at words v.number) name_kind) (λ q. rw q (not-false _ (rw q at e))) (λ q. rw q refl)

  good_trees : (f : ℕ) (place : InputPlace) (depth r : ℕ) → any (bad_name words text) (visits f words place depth r) ≡ false
      → good_names_in (trees_at f words text r) ≡ true
  unfolding visits trees_at good_names_in
  good_trees zero place depth r e = refl
  good_trees (suc f) place depth zero e = refl
  good_trees (suc f) place depth (suc r) e =
      let h = none_of (bad_name words text) _ _ _ _ e in
      rw (
        good_own (record { number = suc r; place = place; depth = depth }) h.0,
        good_trees f _ _ _ h.1.0,
        good_trees f _ _ _ h.1.1.0,
        good_trees f _ _ _ h.1.1.1,
      )
      refl

  -- row 6
  shallow_trees : (f : ℕ) (place : InputPlace) (depth r : ℕ) → depth ≤ suc most_links → any too_deep (visits f words place depth r) ≡ false
      → depths_of (trees_at f words text r) + depth ≤ suc most_links
  unfolding visits trees_at depths_of too_deep
  shallow_trees zero place depth r d e = omega arith
  shallow_trees (suc f) place depth zero d e = omega arith
  shallow_trees (suc f) place depth (suc r) d e =
      let h = none_of too_deep (record { number = suc r; place = place; depth = depth })
      (visits f words (child_place (kind_at words (suc r))) (suc depth) (child_at words (suc r)))
      (visits f words (second_place (kind_at words (suc r))) (suc depth) (second_at words (suc r)))
      (visits f words place depth (next_at words (suc r))) e in
      let own : depth ≤ most_links = ltb-false _ _ h.0 in
      let a = shallow_trees f _ (suc depth) _ (omega arith) h.1.0 in
      let b = shallow_trees f _ (suc depth) _ (omega arith) h.1.1.0 in
      let c = shallow_trees f place depth (next_at words (suc r)) d h.1.1.1 in
      omega (arith, a, b, c)

  -- record 0 and the reached records, by row 4
  rest_four : row_four words ≡ none → lowest_of (unfit words) (reached words) ≡ none
  unfolding row_four
  rest_four e = by_test (bad_head words) (λ q. never (sym (rw q at e))) (λ q. rw q at e)

  -- the description of an accepted input

  pub accepted_places : verdict words text ≡ accepted → fits_places items (description words text) ≡ true
  unfolding description chain_at reached visits_from
  accepted_places e =
      fit_trees (record_count words) items 1 (child_at words 0)
      (lowest_of_none (unfit words) _ (rest_four (accepted_rows words text e).four))

  pub accepted_names : verdict words text ≡ accepted → good_names_in (description words text) ≡ true
  unfolding description chain_at reached visits_from row_five
  accepted_names e =
      good_trees (record_count words) items 1 (child_at words 0) (lowest_of_none (bad_name words text) _ (accepted_rows words text e).five)

  pub accepted_depth : verdict words text ≡ accepted → depths_of (description words text) ≤ most_links
  unfolding description chain_at reached visits_from row_six
  accepted_depth e =
      omega (
        arith,
        shallow_trees (record_count words) items 1 (child_at words 0) (omega arith)
            (lowest_of_none too_deep _ (accepted_rows words text e).six),
      )

  pub accepted_linked : verdict words text ≡ accepted → Linked words
  accepted_linked e = links words (accepted_rows words text e).two

  -- its top items
  pub accepted_at : verdict words text ≡ accepted → At words (child_at words 0)
  accepted_at e = ((accepted_linked e).all 0 (sizes words text (accepted_rows words text e).one).least).child.within
