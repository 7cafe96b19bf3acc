-- 02, request 3: "The caller lends the files' start offsets, and output word 13 of every definition, binding, extension and diagnostic
-- holds the number, from 0, of the last start not above its span start; word 14 does so for its name span."
use Rattle.std.specs.Prelude.{ℕ, ◌+◌, ◌≤◌, ◌<◌, ◌≡◌, Bool, true, false, cond, List, [], ◌∷◌, eqb, leb, ltb, length, get_or}

-- "Racks are built from up to 16 files run together"
abbrev pub most_files : ℕ
most_files = 16

-- each entry is above the one before it
unfoldable pub rises : List ℕ → Bool
rises [] = true
rises (a ∷ []) = true
rises (a ∷ b ∷ l) = cond (ltb a b) (rises (b ∷ l)) false

-- "A list that is empty, has over 16 entries, doesn't begin with 0 or doesn't rise strictly is refused"
unfoldable pub good_files : List ℕ → Bool
good_files [] = false
good_files (a ∷ l) = cond (leb (length (a ∷ l)) most_files) (cond (eqb a 0) (rises (a ∷ l)) false) false

-- the number of the last start not above a place, of starts that are numbered from n on; `before` where none of them is
unfoldable pub last_from : ℕ → ℕ → List ℕ → ℕ → ℕ
last_from before n [] place = before
last_from before n (a ∷ l) place = last_from (cond (leb a place) n before) (n + 1) l place

unfoldable pub file_of : List ℕ → ℕ → ℕ
file_of starts place = last_from 0 0 starts place

-- the same in plain words: a number of a start, which is not above the place, while each start behind it is
pub record LastNotAbove (starts : List ℕ) (place n : ℕ) : Type 0 where
  pub one : n < length starts
  pub not_above : get_or starts n 0 ≤ place
  pub last : (k : ℕ) → n < k → k < length starts → place < get_or starts k 0

-- of a good list there is one for every place, and that is it
unfoldable pub FileIsLast : Type 0
FileIsLast = (starts : List ℕ) (place : ℕ) → good_files starts ≡ true → LastNotAbove starts place (file_of starts place)
