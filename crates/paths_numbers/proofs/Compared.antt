-- What the library's comparisons of slices decide: `same` and `begins`.
use Rattle.std.proofs.Common.{◌≡◌, ℕ, suc, ◌+◌, ◌≤◌, add-one, Bool, true, false, cond, ◌&&◌, eqb, List, [], ◌∷◌, length, take, drop, sym, refl}
use Rattle.std.proofs.Common.{◌∙◌, arith, drop-cons, ne_eqb, eq-eqb, eqb-true, get_or, ◌++◌}
use Rattle.std.specs.Prelude.{Option, Some, None, unwrap_or, option_map}
use Rattle.std.specs.Option.{option_eq}
use denote.Ref.{Bor}
use borrow.Author.Tests.{eqb-false}
use lib.ListN.{length-take}
use lib.Pointwise.{pointwise}
use Rattle.std.specs.List.{list_all, enumerate_from}
use Rattle.paths_numbers.specs.meaning.Text.{begins, same}
use Rattle.paths_numbers.proofs.Texts.{by_test, begins_same}

-- two tests, the second asked only where the first holds
pub and_cond : (t u v : Bool) → u ≡ v → (t && u) ≡ cond t v false
and_cond true u v e = e
and_cond false u v e = refl

pub same_pointwise : (s t : List ℕ) → pointwise eqb s t ≡ same s t
unfolding same
same_pointwise [] [] = refl
same_pointwise [] (b ∷ t) = refl
same_pointwise (a ∷ s) [] = refl
same_pointwise (a ∷ s) (b ∷ t) = and_cond (eqb a b) _ _ (same_pointwise s t)

eqb_swap : (a b : ℕ) → eqb b a ≡ eqb a b
eqb_swap a b = by_test (eqb a b) (λ t. rw t (eq-eqb b a (sym (eqb-true a b t)))) (λ t. rw t (ne_eqb b a (λ e. eqb-false a b t (sym e))))

pub starts_pointwise : (s p : List ℕ) → pointwise eqb p (take (length p) s) ≡ begins s p
unfolding begins
starts_pointwise s [] = refl
starts_pointwise [] (b ∷ p) = refl
starts_pointwise (a ∷ s) (b ∷ p) = and_cond (eqb b a) _ _ (starts_pointwise s p) ∙ rw (eqb_swap a b) refl

-- a byte that may not be there, held against another
pub maybe_byte : (o : Option (Bor ℕ)) (b : Bor ℕ)
    → option_eq (λ x y. eqb x.now y.now) o (Some b) ≡ eqb (unwrap_or (option_map (λ x. x.now) o) (suc b.now)) b.now
maybe_byte (Some x) b = refl
maybe_byte None b = sym (ne_eqb (suc b.now) b.now (λ e. omega arith))

-- a text begins with what ends in b where b stands there, behind what is in front of it
pub begins_last : (s p : List ℕ) (b : ℕ) → begins s (p ++ b ∷ []) ≡ cond (eqb (get_or s (length p) (suc b)) b) (begins s p) false
unfolding begins
begins_last [] [] b = sym (rw (ne_eqb (suc b) b (λ e. omega arith)) refl)
begins_last (a ∷ s) [] b = refl
begins_last [] (c ∷ p) b = sym (rw (ne_eqb (suc b) b (λ e. omega arith)) refl)
begins_last (a ∷ s) (c ∷ p) b = rw (begins_last s p b) (swapped (eqb a c) (eqb (get_or s (length p) (suc b)) b) (begins s p))
  where
    swapped : (t u v : Bool) → cond t (cond u v false) false ≡ cond u (cond t v false) false
    swapped true true v = refl
    swapped true false v = refl
    swapped false true v = refl
    swapped false false v = refl

-- a text begins with another as the other begins with as many bytes of the text
pub begins_taken : (s p : List ℕ) → length p ≤ length s → begins p (take (length p) s) ≡ begins s p
begins_taken s p h =
    begins_same p (take (length p) s) (omega (arith, length-take (length p) s))
    ∙ sym (same_pointwise p (take (length p) s))
    ∙ starts_pointwise s p

-- a text that is no longer, byte by byte with the places of its bytes
pub begins_numbered : (p f : List ℕ) (n : ℕ) → n + length f ≤ length p
    → list_all (λ (q : ℕ × ℕ). eqb q.1 (get_or p q.0 0)) (enumerate_from n f) ≡ begins (drop n p) f
unfolding begins
begins_numbered p [] n h = refl
begins_numbered p (b ∷ f) n h =
    let d : drop n p ≡ get_or p n 0 ∷ drop (n + 1) p = drop-cons p n 0 (omega arith) ∙ rw add-one refl in
    and_cond (eqb b (get_or p n 0)) _ (begins (drop (n + 1) p) f) (begins_numbered p f (n + 1) (omega arith))
    ∙ rw (d, eqb_swap (get_or p n 0) b) refl
