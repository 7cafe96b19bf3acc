-- Laws of `any`.
use Rattle.std.proofs.Common.{◌≡◌, Bool, true, false, cond, List, [], ◌∷◌, ◌++◌, sym, refl, ◌∙◌}
use Rattle.paths_numbers.proofs.Texts.{by_test}
use Rattle.paths_numbers.specs.meaning.Lists.{any}

-- over two lists
pub any_append : {A : Type 0} (f : A → Bool) (x y : List A) → any f (x ++ y) ≡ cond (any f x) true (any f y)
unfolding any
any_append f [] y = refl
any_append f (a ∷ x) y = by_test (f a) (λ e. rw e refl) (λ e. rw e (any_append f x y))

-- the first element
pub any_head : {A : Type 0} (f : A → Bool) (a : A) (l : List A) → f a ≡ true → any f (a ∷ l) ≡ true
unfolding any
any_head f a l h = rw h refl

-- what the first list has, both have
pub any_front : {A : Type 0} (f : A → Bool) (x y : List A) → any f x ≡ true → any f (x ++ y) ≡ true
any_front f x y e = any_append f x y ∙ rw e refl

-- what the second list has, both have
pub any_back : {A : Type 0} (f : A → Bool) (x y : List A) → any f y ≡ true → any f (x ++ y) ≡ true
any_back f x y e = any_append f x y ∙ by_test (any f x) (λ h. rw h refl) (λ h. rw h e)

-- a middle that has none makes no difference
pub any_middle : {A : Type 0} (f : A → Bool) (x z y : List A) → any f z ≡ false → any f (x ++ (z ++ y)) ≡ any f (x ++ y)
any_middle f x z y e = any_append f x (z ++ y) ∙ rw (any_append f z y, e) (sym (any_append f x y))
