-- 01, "History of P, earliest first".
use Rattle.std.specs.Prelude.{ℕ, Bool, true, false, cond, List, [], ◌∷◌}
use Rattle.paths_numbers.specs.meaning.Text.{same}
use Rattle.definition_log.specs.meaning.Contents.{Def}
use Rattle.queries.specs.meaning.Kind.{is_node, is_property, is_deletion}
use Rattle.queries.specs.meaning.Live.{deletes}

-- "node or property at P sets this, any deletion at P … clears it"
abbrev pub defined_by : Def → Bool → Bool
defined_by d defined = cond (is_node d.value) true (cond (is_property d.value) true (cond (is_deletion d.value) false defined))

-- from here on, where P is defined or not: "definitions at P; also each node deletion above P while P is defined … a listed deletion above
-- clears it"
unfoldable pub history_from : Bool → List ℕ → List Def → List Def
history_from defined path [] = []
history_from defined path (d ∷ later) =
    cond (same d.path path) (d ∷ history_from (defined_by d defined) path later)
    (cond (cond defined (deletes path d) false) (d ∷ history_from false path later)
    (history_from defined path later))

unfoldable pub history : List ℕ → List Def → List Def
history path defs = history_from false path defs
