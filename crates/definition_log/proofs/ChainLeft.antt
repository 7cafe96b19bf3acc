-- What a walk along a chain has still to come.
use Prim.Native.Nat.{ℕ, zero, suc, ◌-◌, ◌<◌}
use mathlib.Core.Path.{◌≡◌, refl, sym, ap, ◌∙◌}
use mathlib.Core.Bool.{Bool, true, false, cond, ◌||◌}
use mathlib.Core.List.{List, [], ◌∷◌, map}
use native.Mathlib.Omega.{arith}
use borrow.Author.Tests.{ne_eqb}
use Rattle.std.specs.Prelude.{Option, Some, None, MatchOption}
use Rattle.std.specs.List.{list_any}
use Rattle.paths_numbers.specs.meaning.Lists.{any}
use Rattle.paths_numbers.proofs.Texts.{not_both}
use Rattle.definition_log.specs.meaning.Record.{leads, next_of}
use Rattle.definition_log.specs.meaning.ReadBack.{chain_from}
use Rattle.definition_log.specs.declared.chain.Walk.{Walk}
use Rattle.definition_log.specs.machine.ChainLeft.{goes_on, walk_left, Stopped, Stepped}

-- whether a walk goes on
pub none_left : (words : List ℕ) (r left : ℕ) → left ≡ 0 → goes_on words r left ≡ false
unfolding goes_on
none_left words r left e = rw e refl

pub some_left : (words : List ℕ) (r left : ℕ) → (left ≡ 0 → ⊥) → goes_on words r left ≡ leads words r
unfolding goes_on
some_left words r left n = rw (ne_eqb left 0 n) refl

-- a walk that goes on has its record, and then what follows
pub goes : (words : List ℕ) (r left : ℕ) → goes_on words r left ≡ true
    → chain_from left words r ≡ r ∷ chain_from (left - 1) words (next_of words r)
unfolding chain_from
goes words r zero t = absurd (not_both t (none_left words r 0 refl))
goes words r (suc left) t =
    let e : suc left - 1 ≡ left = omega arith in
    let l : leads words r ≡ true = sym (some_left words r (suc left) (λ z. omega arith)) ∙ t in
    rw (e, l) refl

pub goes_left : (words : List ℕ) (r left : ℕ) → goes_on words r left ≡ true → 0 < left
goes_left words r zero t = absurd (not_both t (none_left words r 0 refl))
goes_left words r (suc left) t = omega arith

-- one that does not go on is at its end
pub stops : (words : List ℕ) (r left : ℕ) → goes_on words r left ≡ false → chain_from left words r ≡ []
unfolding chain_from
stops words r zero t = refl
stops words r (suc left) t =
    let l : leads words r ≡ false = sym (some_left words r (suc left) (λ z. omega arith)) ∙ t in
    rw l refl

pub stepped : (words : List ℕ) (s t : Walk) (r : ℕ) → Stepped words s t r → walk_left words s ≡ r ∷ walk_left words t
stepped words s t r p =
    ap (chain_from s.left words) p.here ∙ goes words r s.left p.going
    ∙ rw (p.next, p.left) refl

pub stopped : (words : List ℕ) (s t : Walk) → Stopped words s t → (walk_left words s ≡ []) × (walk_left words t ≡ [])
stopped words s t p =
    let e = stops words s.next s.left p.stops in
    (e, ap (walk_left words) p.same ∙ e)

-- as an iterator has it
pub yielded : (words : List ℕ) (s t : Walk) (o : Option ℕ) → MatchOption o (Stopped words s t) (Stepped words s t)
    → MatchOption o ((walk_left words s ≡ []) × (walk_left words t ≡ [])) (λ x. walk_left words s ≡ x ∷ walk_left words t)
yielded words s t None p = stopped words s t p
yielded words s t (Some r) p = stepped words s t r p

pub step_nearer : {words : List ℕ} {s t : Walk} {r : ℕ} → Stepped words s t r → t.left < s.left
step_nearer {words} {s} {t} {r} p = omega (arith, p.left, goes_left words r s.left p.going)

-- a test of some element, as the library has it and as our definitions have it
or_cond : (a b : Bool) → (a || b) ≡ cond a true b
or_cond true b = refl
or_cond false b = refl

pub any_map : {A B : Type 0} (f : B → Bool) (g : A → B) (xs : List A) → list_any (λ x. f (g x)) xs ≡ any f (map g xs)
unfolding any
any_map f g [] = refl
any_map f g (x ∷ xs) = or_cond (f (g x)) (list_any (λ x. f (g x)) xs) ∙ ap (cond (f (g x)) true) (any_map f g xs)
