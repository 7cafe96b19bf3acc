-- Steps of the match of two paths, component by component.
use Rattle.std.specs.Prelude.{ℕ, false, cond, ◌≡◌, List, [], ◌∷◌, ◌++◌}
use Rattle.paths_numbers.specs.meaning.Text.{same}
use Rattle.paths_numbers.specs.meaning.Path.{root}
use Rattle.short_paths.specs.meaning.Short.{split, all_match}

-- what of a parent stands before the "/" in front of a name
unfoldable pub front_of : List ℕ → List ℕ
front_of parent = cond (same parent root) [] parent

-- the texts behind the end of one: none at the end of the path, else those behind its "/"
unfoldable pub more : List ℕ → List (List ℕ)
more [] = []
more (b ∷ s) = split s

-- rest stands behind as many texts of `full` as `path` has, and they match; or they don't
abbrev pub Matched : List ℕ → List ℕ → List ℕ → Type 0
Matched path full rest = (cs : List (List ℕ)) → all_match (split path ++ cs) (split full) ≡ all_match cs (more rest)

abbrev pub Unmatched : List ℕ → List ℕ → Type 0
Unmatched path full = (cs : List (List ℕ)) → all_match (split path ++ cs) (split full) ≡ false
