-- 01, input kind 8: what a reference record names (lower_phandle).
use Rattle.std.specs.Prelude.{cond, [], ◌∷◌, eqb}
use Rattle.std.proofs.Math.Option.{Option, some, none}
use Rattle.paths_numbers.specs.meaning.Text.{is_empty}
use Rattle.paths_numbers.specs.meaning.Reference.{Target, label, label_path, path, unreadable, target}
use Rattle.input.specs.meaning.Tree.{Tree, text_of, w_of, children_of, first_of, macro_kind}
use Rattle.input.specs.meaning.Place.{raw_reference}
use Rattle.input.specs.meaning.Report.{Got, found, failed, undefined_macro}

-- a target that can be read
abbrev pub readable : Target → Got Target
readable (label l) = found (label l)
readable (label_path l p) = found (label_path l p)
readable (path p) = found (path p)
readable unreadable = failed []

-- a reference record without a macro: W 1 is raw, W 0 a name, "length 0 missing"
abbrev pub plain_target : Tree → Got Target
plain_target r = cond (eqb (w_of r) raw_reference) (readable (target (text_of r)))
    (cond (is_empty (text_of r)) (failed []) (found (label (text_of r))))

abbrev pub macro_first : Option Tree → Tree → Got Target
macro_first (some m) r = failed (undefined_macro m ∷ [])
macro_first none r = plain_target r

-- what a reference record names
unfoldable pub lower_phandle : Tree → Got Target
lower_phandle r = macro_first (first_of macro_kind (children_of r)) r
