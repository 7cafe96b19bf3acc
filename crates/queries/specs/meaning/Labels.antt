-- 01, "Deleting a node removes, for each live node at or under it, its labels' bindings to that node's path": which labels a definition
-- has.
use Rattle.std.specs.Prelude.{ℕ, Bool, false, cond, List, []}
use Rattle.paths_numbers.specs.meaning.Text.{same}
use Rattle.definition_log.specs.meaning.Contents.{DefValue, node, property, deleted_node, deleted_property, version, plugin, Def}
use Rattle.paths_numbers.specs.meaning.Lists.{any}

-- the labels of a node
abbrev pub labels_in : DefValue → List (List ℕ)
labels_in (node ls o) = ls
labels_in (property vs) = []
labels_in deleted_node = []
labels_in deleted_property = []
labels_in version = []
labels_in plugin = []

-- whether a definition is at a path and has a label
abbrev pub has_label_at : List ℕ → List ℕ → Def → Bool
has_label_at label path d = cond (same d.path path) (any (same label) (labels_in d.value)) false
