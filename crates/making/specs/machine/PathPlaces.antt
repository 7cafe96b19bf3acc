-- The path that a place in the bytes of a log in the making stands for.
use Rattle.std.specs.Prelude.{ℕ, ◌+◌, Bool, false, cond, List, leb, length, take, drop}
use Rattle.paths_numbers.specs.meaning.Path.{root}
use Rattle.definition_log.specs.meaning.Record.{out_field}
use Rattle.making.specs.declared.place.PathAt.{PathAt}
use Rattle.making.specs.declared.place.PathAt.TheVariants as P

-- "/", or the bytes there
unfoldable pub path_of : List ℕ → PathAt → List ℕ
path_of bytes P.Root = root
path_of bytes (P.Bytes start size) = take size (drop start bytes)

-- how long it is
abbrev pub place_len : PathAt → ℕ
place_len P.Root = 1
place_len (P.Bytes start size) = size

-- whether its bytes lie among those in use
unfoldable pub stands : ℕ → List ℕ → ℕ → ℕ → Bool
stands used bytes start size = cond (leb (start + size) used) (leb (start + size) (length bytes)) false

-- the same place where they do, and an empty one where they do not
unfoldable pub settled : ℕ → List ℕ → PathAt → PathAt
settled used bytes P.Root = P.Root
settled used bytes (P.Bytes start size) = cond (stands used bytes start size) (P.Bytes start size) (P.Bytes 0 0)

-- the path that is read there
abbrev pub path_in : ℕ → List ℕ → PathAt → List ℕ
path_in used bytes p = path_of bytes (settled used bytes p)

-- the place of a text, whose start and length are words i and i + 1 of a record
abbrev pub placed_in : List ℕ → ℕ → ℕ → PathAt
placed_in words r i = P.Bytes (out_field words r i) (out_field words r (i + 1))
