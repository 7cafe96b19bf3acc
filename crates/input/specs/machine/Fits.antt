-- Rows 4 and 6 of whole trees, as proofs about what rows 1 to 6 accept use them.
use Rattle.std.specs.Prelude.{ℕ, suc, max, Bool, true, false, cond}
use Rattle.input.specs.meaning.Tree.{Tree, Trees, tree, empty, more}
use Rattle.input.specs.meaning.Place.{InputPlace, child_place, second_place, fits_alone}

-- what W of a tree leads to
abbrev pub second_of : Tree → Trees
second_of (tree k t w s c v) = v

-- row 4's rule of a whole tree: of each record in it; children stand where the kind above them says
unfoldable mutual
  pub fits_place : InputPlace → Tree → Bool
  fits_place place (tree k text w span children second) =
      cond (fits_alone place k w span)
      (cond (fits_places (child_place k) children) (fits_places (second_place k) second) false)
      false

  pub fits_places : InputPlace → Trees → Bool
  fits_places place empty = true
  fits_places place (more t ts) = cond (fits_place place t) (fits_places place ts) false

-- row 6: the "child, item or value links" to the deepest record of a chain, the one that leads to the chain among them; next links count
-- none
unfoldable mutual
  pub depth_of : Tree → ℕ
  depth_of (tree k text w span children second) = suc (max (depths_of children) (depths_of second))

  pub depths_of : Trees → ℕ
  depths_of empty = 0
  depths_of (more t ts) = max (depth_of t) (depths_of ts)
