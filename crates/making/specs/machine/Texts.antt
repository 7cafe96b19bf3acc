-- What the texts of a record that is made say.
use Rattle.std.specs.Prelude.{ℕ, List}
use Rattle.paths_numbers.specs.meaning.Path.{joined}
use Rattle.making.specs.declared.text.Piece.{Piece}
use Rattle.making.specs.declared.text.Piece.TheVariants as C
use Rattle.making.specs.declared.text.Text.{Text}
use Rattle.making.specs.declared.text.Text.TheVariants as T
use Rattle.making.specs.machine.PathPlaces.{path_in}

-- the bytes given, or the path that is read
abbrev pub piece_in : ℕ → List ℕ → Piece → List ℕ
piece_in used bytes (C.Given text) = text.now
piece_in used bytes (C.At p) = path_in used bytes p

-- these, or a path joined with a name
abbrev pub text_said : ℕ → List ℕ → Text → List ℕ
text_said used bytes (T.Whole piece) = piece_in used bytes piece
text_said used bytes (T.Joined p name unit) = joined (path_in used bytes p) (piece_in used bytes name) unit.now
