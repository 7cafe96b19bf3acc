-- The loops of the check of an input: a search in a list, and one over the records in rising order.
use Prim.Native.Nat.{ℕ, zero, suc, ◌+◌, ◌-◌, ◌≤◌, ◌<◌}
use mathlib.Core.Path.{◌≡◌, refl, sym, ap, ◌∙◌}
use mathlib.Core.Bool.{Bool, true, false}
use mathlib.Core.List.{List, [], ◌∷◌}
use mathlib.Core.Option.{Option, some, none}
use native.Mathlib.Nat.{sub-zero}
use native.Mathlib.Numerals.{add-one}
use native.Mathlib.Omega.{arith}
use borrow.Author.Tests.{eq-eqb, ne_eqb, eqb-true, eqb-false}
use lib.Dec.{eqb}
use Rattle.std.specs.Prelude.{Option as Maybe, Some, None}
use Rattle.std.specs.List.{list_any, find, range_with_len}
use Rattle.std.specs.Option.{option_map}
use Rattle.paths_numbers.proofs.Texts.{by_test}
use Rattle.paths_numbers.specs.meaning.Lists.{any}
use Rattle.input.specs.meaning.Rows.{lowest}
use Rattle.input.specs.machine.RowsPass.{found_in}

-- the library's search of a list is the definition's
pub any_list : {A : Type 0} (f : A → Bool) (l : List A) → list_any f l ≡ any f l
unfolding any
any_list f [] = refl
any_list f (x ∷ l) = by_test (f x) (λ q. rw q refl) (λ q. rw q (any_list f l))

pub any_contains : (k : ℕ) (l : List ℕ) → list_any (λ (y : ℕ). eqb y k) l ≡ any (eqb k) l
unfolding any
any_contains k [] = refl
any_contains k (x ∷ l) =
    by_test (eqb k x)
    (λ q. rw (q, eq-eqb x k (sym (eqb-true k x q))) refl)
    (λ q. rw (q, ne_eqb x k (λ e. eqb-false k x q (sym e))) (any_contains k l))

-- and its first number that passes is the lowest record
lowest_found : (test : ℕ → Bool) (n a : ℕ) → found_in (find test (range_with_len a n)) ≡ lowest test n a
unfolding lowest
lowest_found test zero a = refl
lowest_found test (suc n) a =
    by_test (test a)
    (λ q. rw q refl)
    (λ q. rw q (ap (λ k. found_in (find test (range_with_len k n))) (add-one a) ∙ lowest_found test n (suc a)))

pub lowest_search : (test : ℕ → Bool) (n : ℕ) (o : Maybe ℕ) → option_map (λ x. x) o ≡ find test (range_with_len 0 n)
    → found_in o ≡ lowest test n 0
lowest_search test n o e = ap found_in (sym (mapped o) ∙ e) ∙ lowest_found test n 0
  where
    mapped : (o : Maybe ℕ) → option_map (λ (x : ℕ). x) o ≡ o
    mapped None = refl
    mapped (Some x) = refl

-- all records are left at first
pub lowest_starts : (test : ℕ → Bool) (n : ℕ) → lowest test n 0 ≡ lowest test (n - 0) 0
lowest_starts test n = rw sub-zero refl

-- x is the lowest record that the test finds of n, and the invariant says that it is decided by the records from r on; t is the test of r
module _ (test : ℕ → Bool) (n r : ℕ) (x : Option ℕ) (inv : x ≡ lowest test (n - r) r) where
  -- this one is found
  pub lowest_here : (t : Bool) → r < n → t ≡ test r → t ≡ true → some r ≡ x
  unfolding lowest
  lowest_here t h e q = let k : n - r ≡ suc (n - (r + 1)) = omega arith in sym (inv ∙ rw (k, sym e ∙ q) refl)

  -- this one is not
  pub lowest_later : (t : Bool) → r < n → t ≡ test r → t ≡ false → x ≡ lowest test (n - (r + 1)) (r + 1)
  unfolding lowest
  lowest_later t h e q = let k : n - r ≡ suc (n - (r + 1)) = omega arith in inv ∙ rw (k, sym e ∙ q, add-one) refl

  -- there are no more
  pub lowest_done : n ≤ r → none ≡ x
  unfolding lowest
  lowest_done h = let k : n - r ≡ 0 = omega arith in sym (inv ∙ rw k refl)
