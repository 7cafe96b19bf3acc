-- 02, request 8: "It gives the first "/" from any given place on, and none only if there is none."
use Rattle.std.specs.Prelude.{ℕ, suc, ◌≤◌, ◌<◌, ◌≡◌, cond, List, [], ◌∷◌, eqb, length, drop, get_or, Option, Some, None}

-- "/"
abbrev pub slash : ℕ
slash = 47

-- the place of the first "/" of a text whose first byte stands at i
unfoldable pub first_from : ℕ → List ℕ → Option ℕ
first_from i [] = None
first_from i (b ∷ s) = cond (eqb b slash) (Some i) (first_from (suc i) s)

-- the place of the first "/" at or behind a place, counted from the path's start
unfoldable pub next_slash : List ℕ → ℕ → Option ℕ
next_slash path from = first_from from (drop from path)

-- the same in plain words: k is the first "/" at or behind a place, or there is none
pub record First (path : List ℕ) (from k : ℕ) : Type 0 where
  pub behind : from ≤ k
  pub inside : k < length path
  pub slashed : get_or path k 0 ≡ slash
  pub before : (j : ℕ) → from ≤ j → j < k → get_or path j 0 ≡ slash → ⊥

unfoldable pub NoSlash : List ℕ → ℕ → Type 0
NoSlash path from = (j : ℕ) → from ≤ j → j < length path → get_or path j 0 ≡ slash → ⊥

unfoldable pub Stands : List ℕ → ℕ → Option ℕ → Type 0
Stands path from (Some k) = First path from k
Stands path from None = NoSlash path from

-- the theorem, for every path and place
unfoldable pub FirstOrNone : Type 0
FirstOrNone = (path : List ℕ) (from : ℕ) → Stands path from (next_slash path from)
