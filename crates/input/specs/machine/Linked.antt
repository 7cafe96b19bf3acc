-- What row 2 leaves of an accepted input for the functions that read it: links go up and lead to records.
use Rattle.std.specs.Prelude.{ℕ, ◌<◌, ◌≡◌, List}
use Rattle.input.specs.meaning.Input.{record_count, next_at, child_at, second_at}

-- a link l of record r is 0, or leads above r and to a record that there is
pub record Link (words : List ℕ) (r l : ℕ) : Type 0 where
  pub up : (l ≡ 0 → ⊥) → r < l
  pub within : (l ≡ 0 → ⊥) → l < record_count words

pub record Links (words : List ℕ) (r : ℕ) : Type 0 where
  pub next : Link words r (next_at words r)
  pub child : Link words r (child_at words r)
  pub second : Link words r (second_at words r)

pub record Linked (words : List ℕ) : Type 0 where
  pub all : (r : ℕ) → r < record_count words → Links words r

-- a record's number, or 0
abbrev pub At : List ℕ → ℕ → Type 0
At words r = (r ≡ 0 → ⊥) → r < record_count words
