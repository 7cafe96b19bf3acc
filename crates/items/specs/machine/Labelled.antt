-- Labels are added to a node's definition after it is made: what the log says then.
use Rattle.std.specs.Prelude.{ℕ, ◌+◌, ◌≡◌, true, List, ◌++◌, length}
use Rattle.making.specs.declared.ctx.LowerCtx.{LowerCtx}
use Rattle.making.specs.declared.place.PathAt.{PathAt}
use Rattle.definition_log.specs.meaning.Contents.{DefValue, node, property, deleted_node, deleted_property, version, plugin, Binding}
use Rattle.making.specs.meaning.State.{State, texts_bytes, bindings_bytes, diags_bytes}
use Rattle.making.specs.machine.Adding.{on_last, changed, in_node}
use Rattle.making.specs.machine.Represents.{Context, with_place, Represents}
use Rattle.input.specs.meaning.Report.{Made}
use Rattle.items.specs.meaning.Lower.{label_texts}

-- labels more of a node
abbrev pub with_labels : List (List ℕ) → DefValue → DefValue
with_labels ls (node ms o) = node (ms ++ ls) o
with_labels ls (property vs) = property vs
with_labels ls deleted_node = deleted_node
with_labels ls deleted_property = deleted_property
with_labels ls version = version
with_labels ls plugin = plugin

-- the labels of bindings added to the newest definition, the bindings made, and what is reported on the way
unfoldable pub labelled_by : Made Binding → State → State
labelled_by m s =
    record {
      defs = on_last (changed (with_labels (label_texts m.made))) s.defs;
      exts = s.exts;
      binds = s.binds ++ m.made;
      diags = s.diags ++ m.reports;
      records = s.records + (length m.made + length m.made + length m.reports);
      bytes = s.bytes + (texts_bytes (label_texts m.made) + bindings_bytes m.made + diags_bytes m.reports);
    }

-- what the labels of a node whose path stands at a place do
pub record LabelsAt (place : PathAt) (c d : LowerCtx) (words bytes w b : List ℕ) (m : List ℕ → Made Binding) : Type 0 where
  pub labels : (k : Context) (p : List ℕ) (s : State) → Represents (with_place (record { at = place; path = p }) k) c words bytes s
      → in_node s ≡ true
      → Represents (with_place (record { at = place; path = p }) k) d w b (labelled_by (m p) s)
