-- 02, request 5, in its smallest cases: the checker computes which texts a short one may mean.
use Rattle.std.specs.Prelude.{ℕ, ◌≡◌, refl, true, false, List, [], ◌∷◌, ◌++◌}
use Rattle.paths_numbers.specs.meaning.Text.{same, is_empty, starts_with}
use Rattle.paths_numbers.specs.meaning.Lists.{any}
use Rattle.paths_numbers.specs.meaning.Path.{good_path, components}
use Rattle.short_paths.specs.meaning.Short.{before_at, component_matches, split, all_match, may_mean, has_components}

-- "bay", "bayou@1", "@", "@1"
abbrev pub bay : List ℕ
bay = 98 ∷ 97 ∷ 121 ∷ []

abbrev bayou1 : List ℕ
bayou1 = 98 ∷ 97 ∷ 121 ∷ 111 ∷ 117 ∷ 64 ∷ 49 ∷ []

abbrev at : List ℕ
at = 64 ∷ []

abbrev at1 : List ℕ
at1 = 64 ∷ 49 ∷ []

abbrev at12 : List ℕ
at12 = 64 ∷ 49 ∷ 64 ∷ 50 ∷ []

-- "bay" matches "bay", "bay@1", "bay@" and "bay@1@2" …
pub bay_matches : (component_matches bay bay ≡ true) × (component_matches bay (bay ++ at1) ≡ true) × (component_matches bay (bay ++ at) ≡ true)
    × (component_matches bay (bay ++ at12) ≡ true)
unfolding component_matches any same before_at
bay_matches = (refl, refl, refl, refl)

-- … and not "bayou@1"; "bay@" matches "bay@" and not "bay@1", "bay@1" not "bay@1@2", "@" not "@1"
pub no_match : (component_matches bay bayou1 ≡ false) × (component_matches (bay ++ at) (bay ++ at1) ≡ false)
    × (component_matches (bay ++ at1) (bay ++ at12) ≡ false) × (component_matches at at1 ≡ false)
unfolding component_matches any same before_at
no_match = (refl, refl, refl, refl)

pub same_address : (component_matches (bay ++ at) (bay ++ at) ≡ true) × (component_matches at1 at1 ≡ true)
unfolding component_matches any same before_at
same_address = (refl, refl)

-- "/", "/bay", "/r/bay"
abbrev root : List ℕ
root = 47 ∷ []

abbrev below : List ℕ → List ℕ → List ℕ
below parent name = parent ++ 47 ∷ name

abbrev r : List ℕ
r = 114 ∷ []

-- every component may be short, with as many on both sides: /r/bay may mean /r@1/bay@1, /r/bay@1, /r@1/bay and not /bay@1 or /r/bay@1/r
pub whole_paths : (may_mean (below (below [] r) bay) (below (below [] (r ++ at1)) (bay ++ at1)) ≡ true)
    × (may_mean (below (below [] r) bay) (below (below [] r) (bay ++ at1)) ≡ true)
    × (may_mean (below (below [] r) bay) (below (below [] (r ++ at1)) bay) ≡ true)
    × (may_mean (below (below [] r) bay) (below [] (bay ++ at1)) ≡ false)
    × (may_mean (below (below [] r) bay) (below (below (below [] r) (bay ++ at1)) r) ≡ false)
unfolding may_mean all_match split component_matches any same before_at
whole_paths = (refl, refl, refl, refl, refl)

-- row 9's form is needed: not "", "/", "/bay/", "//bay", "/r//bay"; "/bay" has it
pub forms : (has_components [] ≡ false) × (has_components root ≡ false) × (has_components (below (below [] bay) []) ≡ false)
    × (has_components (below (below [] []) bay) ≡ false) × (has_components (below (below (below [] r) []) bay) ≡ false)
    × (has_components (below [] bay) ≡ true)
unfolding has_components good_path components is_empty same starts_with
forms = (refl, refl, refl, refl, refl, refl)
