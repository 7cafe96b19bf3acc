-- Which paths a list has, and that "one distinct" goes by that alone.
use Prim.Native.Nat.{ℕ}
use mathlib.Core.Path.{◌≡◌, refl, sym, ◌∙◌}
use mathlib.Core.Bool.{Bool, true, false, not}
use mathlib.Core.List.{List, [], ◌∷◌}
use Rattle.paths_numbers.specs.meaning.Text.{same}
use Rattle.paths_numbers.specs.meaning.Lists.{any}
use Rattle.paths_numbers.proofs.Texts.{by_test, not_both, is_false, same_true, same_refl}
use Rattle.queries.specs.meaning.Lookup.{distinct}

-- whether a list has a path
abbrev pub has : List ℕ → List (List ℕ) → Bool
has q l = any (same q) l

abbrev pub SameMembers : List (List ℕ) → List (List ℕ) → Type 0
SameMembers x y = (q : List ℕ) → has q x ≡ has q y

-- the first, and one behind it
has_first : (a : List ℕ) (l : List (List ℕ)) → has a (a ∷ l) ≡ true
unfolding any
has_first a l = rw (same_refl a) refl

pub behind_first : (q a : List ℕ) (l : List (List ℕ)) → has q l ≡ true → has q (a ∷ l) ≡ true
unfolding any
behind_first q a l h = by_test (same q a) (λ t. rw t refl) (λ t. rw t h)

-- another path than a
abbrev other : List ℕ → List ℕ → Bool
other a r = not (same r a)

-- some path of a list is another than a: it has that path
other_there : (a : List ℕ) (l : List (List ℕ)) → any (other a) l ≡ true
    → (r : List ℕ) × (has r l ≡ true) × (same r a ≡ false)
unfolding any
other_there a [] h = absurd (not_both {t = false} h refl)
other_there a (x ∷ l) h =
    by_test (same x a)
    (λ e. let k = other_there a l (rw e at h) in (k.0, by_test (same k.0 x) (λ t. rw t refl) (λ t. rw t k.1), k.2))
    (λ e. (x, has_first x l, e))

-- and where a list has another path, some path of it is another
there_other : (a r : List ℕ) (l : List (List ℕ)) → has r l ≡ true → same r a ≡ false → any (other a) l ≡ true
unfolding any
there_other a r [] h n = absurd (not_both {t = false} h refl)
there_other a r (x ∷ l) h n =
    by_test (same r x)
    (λ e. rw (← same_true r x e) (rw n refl))
    (λ e. by_test (same x a) (λ t. rw t (there_other a r l (rw e at h) n)) (λ t. rw t refl))

-- where no path is another, each that the list has is a
all_the_same : (a q : List ℕ) (l : List (List ℕ)) → any (other a) (a ∷ l) ≡ false → has q (a ∷ l) ≡ true → same q a ≡ true
all_the_same a q l n h =
    by_test (same q a) (λ t. t) (λ t. absurd (not_both (there_other a q (a ∷ l) h t) n))

-- the first is not another than itself
first_not_other : (a : List ℕ) (l : List (List ℕ)) → any (other a) (a ∷ l) ≡ any (other a) l
unfolding any
first_not_other a l = rw (same_refl a) refl

-- two lists that have the same paths, of which the first begins with a and the second with b
module _ (a b : List ℕ) (x y : List (List ℕ)) (m : SameMembers (a ∷ x) (b ∷ y)) where
  others : any (other a) x ≡ true → any (other b) y ≡ true
  others h =
      let k = other_there a x h in
      let r : has k.0 (b ∷ y) ≡ true = sym (m k.0) ∙ behind_first k.0 a x k.1 in
      by_test (same a b)
      (λ e. let n : same k.0 b ≡ false = rw (← same_true a b e) k.2 in
      sym (first_not_other b y) ∙ there_other b k.0 (b ∷ y) r n)
      (λ e. sym (first_not_other b y) ∙ there_other b a (b ∷ y) (sym (m a) ∙ has_first a x) e)

  one_path : any (other a) x ≡ false → b ≡ a
  one_path h = same_true b a (all_the_same a b x (first_not_other a x ∙ h) (m b ∙ has_first b y))

pub distinct_same : (x y : List (List ℕ)) → SameMembers x y → distinct x ≡ distinct y
unfolding distinct any
distinct_same [] [] m = refl
distinct_same [] (b ∷ y) m = absurd (not_both (m b ∙ has_first b y) refl)
distinct_same (a ∷ x) [] m = absurd (not_both (sym (m a) ∙ has_first a x) refl)
distinct_same (a ∷ x) (b ∷ y) m =
    by_test (any (other a) x)
    (λ h. rw (h, others a b x y m h) refl)
    (λ h. let n : any (other b) y ≡ false =
    is_false (any (other b) y) (λ k. not_both (others b a y x (λ q. sym (m q)) k) h) in
    rw (h, n, one_path a b x y m h) refl)
