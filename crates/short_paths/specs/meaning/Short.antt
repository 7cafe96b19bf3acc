-- 02, request 5: "a component without @ matches one equal to it before the first @, if any, and exactly one distinct live node path with
-- as many components is taken": which paths a path with unit addresses left out may mean.
use Rattle.std.specs.Prelude.{ℕ, Bool, true, false, cond, List, [], ◌∷◌, eqb}
use Rattle.paths_numbers.specs.meaning.Byte.{slash, at_sign}
use Rattle.paths_numbers.specs.meaning.Text.{same, is_empty}
use Rattle.paths_numbers.specs.meaning.Lists.{any}
use Rattle.paths_numbers.specs.meaning.Path.{root, good_path}

-- a component up to its first @, all of it where there is none
unfoldable pub before_at : List ℕ → List ℕ
before_at [] = []
before_at (b ∷ s) = cond (eqb b at_sign) [] (b ∷ before_at s)

abbrev pub has_at : List ℕ → Bool
has_at c = any (λ (b : ℕ). eqb b at_sign) c

-- a component with an @ matches only an equal one
unfoldable pub component_matches : List ℕ → List ℕ → Bool
component_matches c d = cond (has_at c) (same c d) (same c (before_at d))

-- the texts between a path's slashes; of a path of row 9's form, an empty one and then its components
abbrev pub onto : ℕ → List (List ℕ) → List (List ℕ)
onto b [] = (b ∷ []) ∷ []
onto b (c ∷ cs) = (b ∷ c) ∷ cs

unfoldable pub split : List ℕ → List (List ℕ)
split [] = [] ∷ []
split (b ∷ s) = cond (eqb b slash) ([] ∷ split s) (onto b (split s))

-- one by one, and as many
unfoldable pub all_match : List (List ℕ) → List (List ℕ) → Bool
all_match [] [] = true
all_match [] (d ∷ ds) = false
all_match (c ∷ cs) [] = false
all_match (c ∷ cs) (d ∷ ds) = cond (component_matches c d) (all_match cs ds) false

-- whether path p may mean the path q
unfoldable pub may_mean : List ℕ → List ℕ → Bool
may_mean p q = all_match (split p) (split q)

-- "in a nonempty path of row 9's form"; "/" has no component
unfoldable pub has_components : List ℕ → Bool
has_components p = cond (is_empty p) false (cond (same p root) false (good_path p))
