-- What one pass over a chain does at a record. These are the steps of the code, and no part of what the queries mean.
use Rattle.std.specs.Prelude.{ℕ, Bool, true, false, cond, List}
use Rattle.paths_numbers.specs.meaning.Text.{same}
use Rattle.definition_log.specs.meaning.Contents.{Def}
use Rattle.queries.specs.meaning.Live.{deletes, node_at}
use Rattle.queries.specs.meaning.Labels.{has_label_at}
use Rattle.queries.specs.meaning.History.{defined_by}

-- what is found after a definition that sets or clears it
abbrev pub found_after : Bool → Bool → Bool → Bool
found_after sets clears found = cond sets true (cond clears false found)

-- a live node at a path, and one with a label
abbrev pub node_found : List ℕ → Def → Bool → Bool
node_found path d found = found_after (node_at path d) (deletes path d) found

abbrev pub label_found : List ℕ → List ℕ → Def → Bool → Bool
label_found label path d found = found_after (has_label_at label path d) (deletes path d) found

-- whether a definition is in a path's history, where the path was defined before it or not, and whether the path is defined after it
unfoldable pub is_listed : List ℕ → Def → Bool → Bool
is_listed path d defined = cond (same d.path path) true (cond defined (deletes path d) false)

unfoldable pub defined_after : List ℕ → Def → Bool → Bool
defined_after path d defined =
    cond (same d.path path) (defined_by d defined) (cond (cond defined (deletes path d) false) false defined)
