-- Starts of files, one by one.
use Prim.Native.Nat.{ℕ, zero, suc, ◌+◌, ◌≤◌, ◌<◌}
use mathlib.Core.Path.{◌≡◌, refl, sym}
use mathlib.Core.Bool.{Bool, true, false}
use mathlib.Core.List.{List, [], ◌∷◌}
use native.Mathlib.Omega.{arith}
use borrow.Author.Tests.{eqb-true, leb-true, ltb-true, le-leb, lt-leb}
use lib.Dec.{eqb, leb, ltb}
use Rattle.paths_numbers.proofs.Texts.{by_test, not_both, both}
use lib.ListN.{length, get_or}
use native.Mathlib.Numerals.{add-one}
use Rattle.std.specs.List.{IsAllAdjacentAnswer}
use Rattle.files.specs.meaning.Files.{most_files, rises, good_files, last_from, file_of}

-- a list rises where each entry is above the one before it, and does not where one is not
all_rise : (s : List ℕ) → ((k d : ℕ) → suc k < length s → true ≡ ltb (get_or s k d) (get_or s (suc k) d)) → rises s ≡ true
unfolding rises
all_rise [] f = refl
all_rise (a ∷ []) f = refl
all_rise (a ∷ b ∷ l) f = rw (sym (f 0 0 (omega arith))) (all_rise (b ∷ l) (λ k d h. f (suc k) d (omega arith)))

one_falls : (s : List ℕ) (k : ℕ) → suc k < length s → ((d : ℕ) → false ≡ ltb (get_or s k d) (get_or s (suc k) d)) → rises s ≡ false
unfolding rises
one_falls [] k h f = absurd (omega arith)
one_falls (a ∷ []) k h f = absurd (omega arith)
one_falls (a ∷ b ∷ l) zero h f = rw (sym (f 0)) refl
one_falls (a ∷ b ∷ l) (suc k) h f =
    let e = one_falls (b ∷ l) k (omega arith) f in
    by_test (ltb a b) (λ t. rw t e) (λ t. rw t refl)

-- so the library's answer is that
pub rises_by : (s : List ℕ) (r : Bool) → IsAllAdjacentAnswer (λ a b t. t ≡ ltb a b) s r → r ≡ rises s
rises_by s true f = sym (all_rise s (λ k d h. let q : k + 1 < length s = omega arith in rw add-one at (f k d q)))
rises_by s false (k, h, f) = sym (one_falls s k (omega arith) (λ d. rw add-one at (f d)))

-- a list by its tests
pub too_many : (s : List ℕ) → most_files < length s → good_files s ≡ false
unfolding good_files
too_many [] h = refl
too_many (a ∷ l) h = rw (lt-leb (length (a ∷ l)) most_files h) refl

-- 1 stands for a first entry that is not there
pub not_from_0 : (s : List ℕ) → eqb (get_or s 0 1) 0 ≡ false → good_files s ≡ false
unfolding good_files
not_from_0 [] e = refl
not_from_0 (a ∷ l) e = by_test (leb (length (a ∷ l)) most_files) (λ t. rw (t, e) refl) (λ t. rw t refl)

pub from_0 : (s : List ℕ) → length s ≤ most_files → eqb (get_or s 0 1) 0 ≡ true → rises s ≡ good_files s
unfolding good_files
from_0 [] h e = absurd (not_both e refl)
from_0 (a ∷ l) h e = sym (rw (le-leb (length (a ∷ l)) most_files h, e) refl)

-- a good list is short
pub good_few : (s : List ℕ) → good_files s ≡ true → length s ≤ most_files
unfolding good_files
good_few [] h = omega arith
good_few (a ∷ l) h = leb-true _ _ (both (leb (length (a ∷ l)) most_files) _ h).0

-- place 0 lies in file 0
none_at_0 : (a : ℕ) (l : List ℕ) → rises (a ∷ l) ≡ true → (found n : ℕ) → last_from found n l 0 ≡ found
unfolding rises last_from
none_at_0 a [] h found n = refl
none_at_0 a (b ∷ l) h found n =
    let q = both (ltb a b) (rises (b ∷ l)) h in
    let o = ltb-true a b q.0 in
    rw (lt-leb b 0 (omega arith)) (none_at_0 b l q.1 found (n + 1))

pub file_zero : (s : List ℕ) → good_files s ≡ true → file_of s 0 ≡ 0
unfolding good_files file_of last_from
file_zero [] h = absurd (not_both h refl)
file_zero (a ∷ l) h =
    let q = both (leb (length (a ∷ l)) most_files) _ h in
    let r = both (eqb a 0) (rises (a ∷ l)) q.1 in
    rw (eqb-true a 0 r.0) (none_at_0 a l r.1 0 1)

-- of one file everything is in it
pub one_file_lem : (place : ℕ) → file_of (0 ∷ []) place ≡ 0
unfolding file_of last_from
one_file_lem place = by_test (leb 0 place) (λ t. rw t refl) (λ t. rw t refl)
