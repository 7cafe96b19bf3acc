-- Tests of a record: a search in a short list, and one of several tests.
use Prim.Native.Nat.{ℕ}
use mathlib.Core.Path.{◌≡◌, refl, sym}
use mathlib.Core.Bool.{Bool, true, false, cond}
use mathlib.Core.List.{List, [], ◌∷◌}
use borrow.Author.Tests.{eq-eqb, ne_eqb, eqb-true, eqb-false}
use lib.Dec.{eqb}
use Rattle.std.specs.List.{list_any}
use Rattle.paths_numbers.proofs.Texts.{by_test}
use Rattle.paths_numbers.specs.meaning.Lists.{any}
use Rattle.definition_log.specs.meaning.Record.{one_of}

-- a search in a list by the library's test of an element
pub one_of-is : (k : ℕ) (l : List ℕ) → list_any (λ a. eqb a k) l ≡ one_of k l
unfolding one_of
one_of-is k [] = refl
one_of-is k (a ∷ l) =
    by_test (eqb a k)
    (λ t. rw (t, eq-eqb k a (sym (eqb-true a k t))) refl)
    (λ t. rw (t, ne_eqb k a (λ e. eqb-false a k t (sym e)), one_of-is k l) refl)

-- the same test by `any`
pub one_of_any : (k : ℕ) (l : List ℕ) → one_of k l ≡ any (eqb k) l
unfolding one_of any
one_of_any k [] = refl
one_of_any k (a ∷ l) = rw (one_of_any k l) refl

-- the last of several tests decides
pub last_test : (t : Bool) → cond t true false ≡ t
last_test true = refl
last_test false = refl
