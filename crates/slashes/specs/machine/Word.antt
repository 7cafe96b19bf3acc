-- Bytes as one word, low byte first, and a mark for each that is "/": steps of the code, and no part of what the search means.
use Rattle.std.specs.Prelude.{ℕ, ◌+◌, ◌*◌, ◌<◌, ◌≡◌, cond, List, [], ◌∷◌, map, eqb, length}
use Rattle.slashes.specs.meaning.Slash.{slash}

-- each below 256
pub data Bytes : List ℕ → Type 0 where
  none : Bytes []
  more : {b : ℕ} {s : List ℕ} → b < 256 → Bytes s → Bytes (b ∷ s)

-- bytes as one word
unfoldable pub word : List ℕ → ℕ
word [] = 0
word (b ∷ s) = word s * 256 + b

-- a word is that of these bytes
pub record Loaded (t : List ℕ) (w : ℕ) : Type 0 where
  pub bytes : Bytes t
  pub same : w ≡ word t

-- the mark of a byte: bit 7 of a "/"
unfoldable pub mark_of : ℕ → ℕ
mark_of b = cond (eqb b slash) 128 0

-- m has the marks of the eight bytes of w
abbrev pub Marked : ℕ → ℕ → Type 0
Marked w m = (t : List ℕ) → Bytes t → length t ≡ 8 → w ≡ word t → m ≡ word (map mark_of t)
