-- Row 9's form of a path that is given by a parent and a name.
use Prim.Native.Nat.{ℕ, ◌-◌, ◌<◌}
use mathlib.Core.Path.{◌≡◌, refl, sym, ap, ◌∙◌}
use mathlib.Core.Bool.{Bool, true, false, cond}
use mathlib.Core.List.{List, [], ◌∷◌, ◌++◌}
use native.Mathlib.Omega.{arith}
use borrow.Author.Tests.{eqb-true, eq-eqb, ne_eqb}
use lib.Dec.{eqb}
use lib.ListN.{length, get_or, take, drop}
use Rattle.paths_numbers.specs.meaning.Byte.{slash}
use Rattle.paths_numbers.specs.meaning.Text.{same, is_empty, starts_with}
use Rattle.paths_numbers.specs.meaning.Path.{root, join, with_unit, joined, components, good_path}
use Rattle.paths_numbers.proofs.Texts.{by_test, not_both, same_true, rest}
use Rattle.short_paths.specs.meaning.Short.{has_components}
use Rattle.short_paths.specs.machine.Front.{front_of}

-- components and a name behind them
components_append : (after : Bool) (s t : List ℕ)
    → components after (s ++ slash ∷ t) ≡ cond (components after s) (components true t) false
unfolding components
components_append true [] t = refl
components_append false [] t = refl
components_append true (b ∷ s) t =
    by_test (eqb b slash) (λ e. rw e refl) (λ e. rw e (components_append false s t))
components_append false (b ∷ s) t =
    by_test (eqb b slash) (λ e. rw e (components_append true s t)) (λ e. rw e (components_append false s t))

-- a name at the root
at_root : (name : List ℕ) → has_components (slash ∷ name) ≡ components true name
unfolding has_components is_empty same good_path starts_with components
at_root [] = refl
at_root (b ∷ name) = refl

-- a name behind a parent that is no root
behind : (parent name : List ℕ) → same parent root ≡ false
    → has_components (parent ++ slash ∷ name) ≡ cond (good_path parent) (components true name) false
unfolding has_components is_empty same good_path starts_with
behind [] name h = at_root name
behind (b ∷ []) name h =
    by_test (eqb b slash)
    (λ e. absurd (not_both {t = true} refl (rw e at h)))
    (λ e. rw e refl)
behind (b ∷ d ∷ p) name h =
    by_test (eqb b slash)
    (λ e. rw e (components_append false (b ∷ d ∷ p) name))
    (λ e. rw e refl)

root_good : (parent : List ℕ) → same parent root ≡ true → good_path parent ≡ true
unfolding good_path is_empty same
root_good parent e = rw (same_true parent root e) refl

-- the name "/" leads to the root, which has no component
pub form_root : (parent name : List ℕ) → same name root ≡ true → has_components (joined parent name []) ≡ false
unfolding joined with_unit join is_empty has_components same
form_root parent name h = rw h refl

pub form_joined : (parent name : List ℕ) → same name root ≡ false
    → has_components (joined parent name []) ≡ cond (good_path parent) (components true name) false
unfolding joined with_unit join is_empty
form_joined parent name h =
    by_test (same parent root)
    (λ e. rw (h, e) (at_root name ∙ ap (λ (t : Bool). cond t (components true name) false) (sym (root_good parent e))))
    (λ e. rw (h, e) (behind parent name e))

-- a name's first byte, of which it has one, is no "/"; then the "/" in front of it does not matter
pub no_name : (name : List ℕ) → length name ≡ 0 → components true name ≡ false
unfolding components
no_name [] h = refl
no_name (b ∷ s) h = absurd (omega arith)

pub slash_ahead : (name : List ℕ) → 0 < length name → get_or name 0 0 ≡ slash → components true name ≡ false
unfolding components
slash_ahead [] h e = absurd (omega arith)
slash_ahead (b ∷ s) h e = rw (eq-eqb b slash e) refl

pub name_ahead : (name : List ℕ) → 0 < length name → (get_or name 0 0 ≡ slash → ⊥) → components true name ≡ components false name
unfolding components
name_ahead [] h e = absurd (omega arith)
name_ahead (b ∷ s) h e = rw (ne_eqb b slash e) refl

-- where there are components, the path is what stands before the name, a "/" and the name
pub front_joined : (parent name : List ℕ) → has_components (joined parent name []) ≡ true
    → joined parent name [] ≡ front_of parent ++ slash ∷ name
unfolding joined with_unit join is_empty front_of
front_joined parent name h =
    by_test (same name root)
    (λ n. absurd (not_both h (form_root parent name n)))
    (λ n. by_test (same parent root) (λ e. rw (n, e) refl) (λ e. rw (n, e) refl))

-- a path that starts with "/" as the root and a name
pub root_front : (path : List ℕ) → starts_with slash path ≡ true
    → front_of (take 1 path) ++ slash ∷ take (length path - 1) (drop 1 path) ≡ path
unfolding starts_with front_of same
root_front [] h = absurd (not_both {t = false} h refl)
root_front (b ∷ s) h =
    let e : b ≡ slash = eqb-true b slash h in
    rw (rest (b ∷ s) 1, e) refl

pub root_form : (path : List ℕ) → starts_with slash path ≡ true
    → has_components (joined (take 1 path) (take (length path - 1) (drop 1 path)) []) ≡ has_components path
unfolding starts_with joined with_unit join is_empty same has_components good_path components
root_form [] h = absurd (not_both {t = false} h refl)
root_form (b ∷ s) h =
    let e : b ≡ slash = eqb-true b slash h in
    rw (rest (b ∷ s) 1, e)
    (by_test (same s root)
    (λ n. rw n (sym (ap (λ (x : List ℕ). has_components (slash ∷ x)) (same_true s root n))))
    (λ n. rw n refl))

-- a path that does not start with "/" has none
pub no_slash : (path : List ℕ) → (0 < length path → get_or path 0 0 ≡ slash → ⊥) → has_components path ≡ false
unfolding has_components is_empty same good_path starts_with
no_slash [] n = refl
no_slash (b ∷ s) n =
    let e : eqb b slash ≡ false = ne_eqb b slash (n (omega arith)) in
    rw e refl
