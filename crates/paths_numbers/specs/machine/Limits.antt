-- What the code works with on its way.
use Rattle.std.specs.Prelude.{ℕ, cond, List, []}
use Rattle.paths_numbers.specs.meaning.Text.{same}
use Rattle.paths_numbers.specs.meaning.Path.{root}

-- what stands before the "/" in front of a name
abbrev pub stem : List ℕ → List ℕ
stem parent = cond (same parent root) [] parent
