-- 01, "A reference resolves by its label's first binding, or by a live node at the path" (resolve_phandle); 02, request 5: which node that
-- is, where unit addresses are left out.
use Rattle.std.specs.Prelude.{ℕ, cond, List, [], ◌∷◌}
use Rattle.std.proofs.Math.Option.{Option, some, none}
use Rattle.paths_numbers.specs.meaning.Code.{label_not_found, node_not_found, node_ambiguous}
use Rattle.paths_numbers.specs.meaning.Text.{same}
use Rattle.paths_numbers.specs.meaning.Path.{join}
use Rattle.paths_numbers.specs.meaning.Reference.{Target, label, label_path, path, unreadable}
use Rattle.definition_log.specs.meaning.Contents.{Def, Binding, Diag}
use Rattle.queries.specs.meaning.Kind.{sets_overlay}
use Rattle.queries.specs.meaning.Lookup.{LookedUp, found, no_node, several, lookup}
use Rattle.input.specs.meaning.Tree.{Tree, span_of}
use Rattle.input.specs.meaning.Report.{report}

-- the path of a label's first binding
unfoldable pub first_binding : List ℕ → List Binding → Option (List ℕ)
first_binding l [] = none
first_binding l (b ∷ bs) = cond (same b.label l) (some b.path) (first_binding l bs)

-- where a reference leads: to a path, or nowhere, with code 3, 4 or 29 and its text
pub data Resolution : Type 0 where
  reaches : List ℕ → Resolution
  missing : ℕ → List ℕ → Resolution

-- 02, request 5: "Lookup now returns the full path"; "More than one match counts as not found, with code 29 and 4's text in place of 4"
abbrev pub by_lookup : List ℕ → LookedUp → Resolution
by_lookup p (found full) = reaches full
by_lookup p no_node = missing node_not_found p
by_lookup p several = missing node_ambiguous p

-- the live node that the path means
abbrev pub live_at : List ℕ → List Def → Resolution
live_at p defs = by_lookup p (lookup p defs)

-- the label's first binding, and the path below it where there is one
abbrev pub by_label : List ℕ → Option (List ℕ) → Resolution
by_label l (some p) = reaches p
by_label l none = missing label_not_found l

abbrev pub below_label : List ℕ → List ℕ → Option (List ℕ) → List Def → Resolution
below_label l p (some base) defs = live_at (join base p) defs
below_label l p none defs = missing label_not_found l

unfoldable pub resolve : Target → List Binding → List Def → Resolution
resolve (label l) binds defs = by_label l (first_binding l binds)
resolve (label_path l p) binds defs = below_label l p (first_binding l binds) defs
resolve (path p) binds defs = live_at p defs
resolve unreadable binds defs = missing label_not_found []

-- what a reference that leads nowhere reports: in an overlay nothing
abbrev pub unresolved : Tree → ℕ → List ℕ → List Def → List Diag
unresolved r code text defs = cond (sets_overlay defs) [] (report code text (span_of r) ∷ [])
