-- The paths of records that are there, read at their places in the bytes.
use Prim.Native.Nat.{ℕ, ◌+◌, ◌-◌, ◌≤◌}
use mathlib.Core.Path.{◌≡◌, refl, sym, ap, ◌∙◌}
use mathlib.Core.Bool.{true}
use mathlib.Core.List.{List, [], ◌∷◌, ◌++◌}
use native.Mathlib.Omega.{arith}
use lib.ListN.{length}
use Rattle.paths_numbers.specs.meaning.Text.{is_empty}
use Rattle.making.specs.declared.place.PathAt.{PathAt}
use Rattle.making.specs.declared.place.PathAt.TheVariants as P
use Rattle.definition_log.specs.meaning.Record.{text_in}
use Rattle.making.specs.machine.Events.{Event, start_of, end_of}
use Rattle.making.specs.machine.Buffers.{Layout}
use Rattle.making.specs.machine.PathPlaces.{path_in}
use Rattle.making.proofs.PathPlaces.{path_bytes, settled_there}
use Rattle.making.proofs.ReadEvents.{text_at_lem}
use Rattle.making.proofs.Removing.{splits_of, end_above}

-- the place of bytes
abbrev pub place_of : ℕ → ℕ → PathAt
place_of start size = P.Bytes start size

-- a text that stands there is the path that is read
pub path_read : (bytes : List ℕ) (used start size : ℕ) (text : List ℕ) → text_in bytes start size ≡ text → start + size ≤ used
    → start + size ≤ length bytes
    → path_in used bytes (place_of start size) ≡ text
path_read bytes used start size text e h k =
    sym (path_bytes used bytes (place_of start size) start size (settled_there used bytes start size h k)) ∙ e

-- a text by where the texts before it end
from_start : (bytes : List ℕ) (at : ℕ) (text : List ℕ) → text_in bytes (start_of at text) (length text) ≡ text
    → text_in bytes at (length text) ≡ text
unfolding is_empty
from_start bytes at [] e = refl
from_start bytes at (a ∷ text) e = e

module _ {words bytes : List ℕ} {records used : ℕ} (xs : List Event) (e : Event) (ys : List Event)
    (l : Layout words bytes records used (xs ++ e ∷ ys)) (alive : e.alive ≡ true) where
  -- the first text of a record
  pub text_first : text_in bytes (start_of (end_of 0 xs) e.text) (length e.text) ≡ e.text
  text_first =
      ap (λ (b : List ℕ). text_in b (start_of (end_of 0 xs) e.text) (length e.text)) l.bytes_are
      ∙ text_at_lem (xs ++ e ∷ ys) (length bytes - end_of 0 (xs ++ e ∷ ys)) (splits_of 1 0 xs e ys) alive

  -- the same where those before it end
  pub path_first : path_in used bytes (place_of (end_of 0 xs) (length e.text)) ≡ e.text
  path_first =
      let h = end_above 0 xs e ys in
      path_read bytes used (end_of 0 xs) (length e.text) e.text
      (from_start bytes (end_of 0 xs) e.text text_first)
      (omega (arith, l.used_are)) (omega (arith, l.bytes_fit))
