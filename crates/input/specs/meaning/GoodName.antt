-- 01, row 5: names that are not empty and have no "/".
use Rattle.std.specs.Prelude.{ℕ, Bool, true, false, not, cond, List, [], ◌∷◌, eqb}
use Rattle.paths_numbers.specs.meaning.Byte.{slash}
use Rattle.paths_numbers.specs.meaning.Lists.{any}
use Rattle.input.specs.meaning.Tree.{Tree, Trees, tree, empty, more, name_kind}

-- row 5, of every name in a tree: not empty, and without a "/"
abbrev pub good_name : List ℕ → Bool
good_name [] = false
good_name (b ∷ s) = not (any (λ (c : ℕ). eqb c slash) (b ∷ s))

unfoldable mutual
  pub good_names : Tree → Bool
  good_names (tree k text w span parts second) =
      cond (cond (eqb k name_kind) (good_name text) true) (cond (good_names_in parts) (good_names_in second) false) false

  pub good_names_in : Trees → Bool
  good_names_in empty = true
  good_names_in (more t ts) = cond (good_names t) (good_names_in ts) false
