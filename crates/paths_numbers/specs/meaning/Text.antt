-- Texts are lists of bytes: how they are compared, and what a buffer holds after one is written into it.
use Rattle.std.specs.Prelude.{ℕ, ◌+◌, Bool, true, false, cond, List, [], ◌∷◌, ◌++◌, length, take, drop, ◌==◌}

-- whether s begins with p
unfoldable pub begins : List ℕ → List ℕ → Bool
begins s [] = true
begins [] (b ∷ p) = false
begins (a ∷ s) (b ∷ p) = cond (a == b) (begins s p) false

-- whether s and t are the same bytes
unfoldable pub same : List ℕ → List ℕ → Bool
same [] [] = true
same [] (b ∷ t) = false
same (a ∷ s) [] = false
same (a ∷ s) (b ∷ t) = cond (a == b) (same s t) false

-- whether there is no byte
unfoldable pub is_empty : List ℕ → Bool
is_empty [] = true
is_empty (b ∷ s) = false

-- whether the first byte is b
unfoldable pub starts_with : ℕ → List ℕ → Bool
starts_with b [] = false
starts_with b (a ∷ s) = a == b

-- d with s in place from index at on
unfoldable pub written : List ℕ → ℕ → List ℕ → List ℕ
written d at s = take at d ++ s ++ drop (at + length s) d
