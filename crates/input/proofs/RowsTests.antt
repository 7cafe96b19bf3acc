-- The tests of one record, by rows 4 and 5: the places by number, and what its words say.
use Prim.Native.Nat.{ℕ, ◌%◌, ◌≤◌, ◌<◌}
use mathlib.Core.Path.{◌≡◌, refl, sym, ◌∙◌}
use mathlib.Core.Bool.{Bool, true, false, not}
use mathlib.Core.List.{List, [], ◌∷◌}
use native.Mathlib.Omega.{arith}
use borrow.Author.Tests.{ne_eqb, eqb-true, eqb-false}
use lib.Dec.{eqb}
use lib.ListN.{length}
use Rattle.paths_numbers.specs.meaning.Text.{is_empty}
use Rattle.paths_numbers.proofs.Texts.{by_test}
use Rattle.input.specs.meaning.Input.{kind_at, child_at, span_start_at, span_end_at, number_at}
use Rattle.input.specs.meaning.Place.{InputPlace, items, node_parts, property_parts, directive_parts, values, cells, expressions, names}
use Rattle.input.specs.meaning.Place.{macros, no_place, child_place, has_children, fits_alone}
use Rattle.input.specs.meaning.Rows.{unfit}
use Rattle.input.specs.machine.RowsPass.{number_of, place_of, visit_at}

-- the places by number

pub place_back : (p : InputPlace) → place_of (number_of p) ≡ p
unfolding place_of
place_back items = refl
place_back node_parts = refl
place_back property_parts = refl
place_back directive_parts = refl
place_back values = refl
place_back cells = refl
place_back expressions = refl
place_back names = refl
place_back macros = refl
place_back no_place = refl

-- no place has the number 0, and none one above 10
pub record InPlaces (p : InputPlace) : Type 0 where
  pub least : 0 < number_of p
  pub most : number_of p ≤ 10

pub in_places : (p : InputPlace) → InPlaces p
in_places items = record { least = omega arith; most = omega arith }
in_places node_parts = record { least = omega arith; most = omega arith }
in_places property_parts = record { least = omega arith; most = omega arith }
in_places directive_parts = record { least = omega arith; most = omega arith }
in_places values = record { least = omega arith; most = omega arith }
in_places cells = record { least = omega arith; most = omega arith }
in_places expressions = record { least = omega arith; most = omega arith }
in_places names = record { least = omega arith; most = omega arith }
in_places macros = record { least = omega arith; most = omega arith }
in_places no_place = record { least = omega arith; most = omega arith }

-- a list is empty where its length is 0
pub empty_is : (l : List ℕ) → eqb (length l) 0 ≡ is_empty l
unfolding is_empty
empty_is [] = refl
empty_is (x ∷ l) = ne_eqb (length (x ∷ l)) 0 (λ e. omega arith)

-- where the children of a kind stand: unit addresses and labels have names, and four kinds expressions
pub below_names : (k : ℕ) → 6 ≤ k → k < 8 → names ≡ child_place k
unfolding child_place
below_names k a b =
    by_test (eqb k 6)
    (λ q. rw (eqb-true k 6 q) refl)
    (λ q. let e : k ≡ 7 = omega (arith, eqb-false k 6 q) in rw e refl)

pub below_expressions : (k : ℕ) → 17 ≤ k → k < 21 → expressions ≡ child_place k
unfolding child_place
below_expressions k a b =
    by_test (eqb k 17)
    (λ q. rw (eqb-true k 17 q) refl)
    (λ q. by_test (eqb k 18)
    (λ s. rw (eqb-true k 18 s) refl)
    (λ s. by_test (eqb k 19)
    (λ t. rw (eqb-true k 19 t) refl)
    (λ t. let e : k ≡ 20 = omega (arith, eqb-false k 17 q, eqb-false k 18 s, eqb-false k 19 t) in rw e refl)))

-- and the others none
pub below_none : (k : ℕ) → (k ≡ 1 → ⊥) → (k ≡ 2 → ⊥) → (k ≡ 3 → ⊥) → (k ≡ 6 → ⊥) → (k ≡ 7 → ⊥) → (k ≡ 8 → ⊥) → (k ≡ 13 → ⊥)
    → (17 ≤ k → 21 ≤ k) → no_place ≡ child_place k
unfolding child_place
below_none k a b d e f g h j =
    simp (
      ne_eqb k 1 a,
      ne_eqb k 2 b,
      ne_eqb k 3 d,
      ne_eqb k 6 e,
      ne_eqb k 7 f,
      ne_eqb k 8 g,
      ne_eqb k 13 h,
      ne_eqb k 17 (λ p. omega (arith, j (omega arith))),
      ne_eqb k 18 (λ p. omega (arith, j (omega arith))),
      ne_eqb k 19 (λ p. omega (arith, j (omega arith))),
      ne_eqb k 20 (λ p. omega (arith, j (omega arith))),
    )

-- row 4: whether a record is unfit: `alone` is what it says by itself, and `has` whether it may have children
module _ (words : List ℕ) (r stand kind w start end : ℕ) (k : kind ≡ kind_at words r) (kw : w ≡ number_at words r)
    (ks : start ≡ span_start_at words r) (ke : end ≡ span_end_at words r)
    (alone : Bool) (e : alone ≡ fits_alone (place_of (stand % 16)) kind w (record { from = start; to = end })) where
  pub unfit_alone : alone ≡ false → true ≡ unfit words (visit_at r stand)
  unfolding unfit
  unfit_alone n = rw (← k, ← kw, ← ks, ← ke, sym e ∙ n) refl

  module _ (n : alone ≡ true) (has : Bool) (h : has ≡ has_children kind) where
    pub fit_children : has ≡ true → false ≡ unfit words (visit_at r stand)
    unfolding unfit
    fit_children q = rw (← k, ← kw, ← ks, ← ke, sym e ∙ n, sym h ∙ q) refl

    pub unfit_child : (l : ℕ) → has ≡ false → l ≡ child_at words r → not (eqb l 0) ≡ unfit words (visit_at r stand)
    unfolding unfit
    unfit_child l q p = rw (← k, ← kw, ← ks, ← ke, ← p, sym e ∙ n, sym h ∙ q) refl
