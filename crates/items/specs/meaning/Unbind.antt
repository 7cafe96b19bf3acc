-- 01, "Deleting a node removes, for each live node at or under it, its labels' bindings to that node's path."
use Rattle.std.specs.Prelude.{ℕ, Bool, cond, List, [], ◌∷◌}
use Rattle.definition_log.specs.meaning.Contents.{Def, Binding}
use Rattle.making.specs.meaning.State.{State}
use Rattle.paths_numbers.specs.meaning.Lists.{any}
use Rattle.queries.specs.meaning.Live.{live}
use Rattle.queries.specs.meaning.Labels.{has_label_at}

-- whether a binding is of a node's label to that node's path
abbrev pub binds_label_of : Binding → Def → Bool
binds_label_of b d = has_label_at b.label b.path d

-- the bindings without those of the nodes of a list
unfoldable pub without : List Def → List Binding → List Binding
without ds [] = []
without ds (b ∷ bs) = cond (any (binds_label_of b) ds) (without ds bs) (b ∷ without ds bs)

-- the state without the bindings of the live nodes at or under a path
unfoldable pub unbind : List ℕ → State → State
unbind p s =
    record {
      defs = s.defs;
      exts = s.exts;
      binds = without (live p s.defs) s.binds;
      diags = s.diags;
      records = s.records;
      bytes = s.bytes;
    }
