-- Lists all of whose elements pass a test, and choices between two of them.
use mathlib.Core.Path.{◌≡◌, refl}
use mathlib.Core.Bool.{Bool, true, false}
use mathlib.Core.List.{List, [], ◌∷◌, ◌++◌}
use Rattle.paths_numbers.proofs.Texts.{by_test, not_both, both}
use Rattle.definition_log.specs.machine.Good.{all}
use Rattle.paths_numbers.specs.meaning.Lists.{any}

module _ {A : Type 0} (p : A → Bool) where
  pub all_one : (a : A) → p a ≡ true → all p (a ∷ []) ≡ true
  unfolding all
  all_one a e = rw e refl

  pub all_first : (a : A) (l : List A) → all p (a ∷ l) ≡ true → p a ≡ true
  unfolding all
  all_first a l e = (both (p a) (all p l) e).0

  pub all_rest : (a : A) (l : List A) → all p (a ∷ l) ≡ true → all p l ≡ true
  unfolding all
  all_rest a l e = (both (p a) (all p l) e).1

  pub all_append : (x y : List A) → all p x ≡ true → all p y ≡ true → all p (x ++ y) ≡ true
  unfolding all
  all_append [] y e f = f
  all_append (a ∷ x) y e f = let h = both (p a) (all p x) e in rw h.0 (all_append x y h.1 f)

  -- an element that another test finds passes too
  pub all_found : (q : A → Bool) (l : List A) → all p l ≡ true → any q l ≡ true → (a : A) × (p a ≡ true) × (q a ≡ true)
  unfolding all any
  all_found q [] e f = absurd (not_both {t = false} f refl)
  all_found q (a ∷ l) e f =
      let h = both (p a) (all p l) e in
      by_test (q a) (λ t. (a, h.0, t)) (λ t. all_found q l h.1 (rw t at f))
