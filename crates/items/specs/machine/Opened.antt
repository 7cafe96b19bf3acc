-- A node's definition is made first, then its labels: what the log says then, and where the node's path stands.
use Rattle.std.specs.Prelude.{ℕ, List, []}
use Rattle.making.specs.declared.ctx.LowerCtx.{LowerCtx}
use Rattle.making.specs.declared.place.PathAt.{PathAt}
use Rattle.definition_log.specs.meaning.Contents.{Span, node, Def}
use Rattle.making.specs.meaning.State.{State, define}
use Rattle.making.specs.machine.Represents.{Context, with_place, Represents}
use Rattle.input.specs.meaning.Tree.{Trees, has, omit_kind}
use Rattle.input.specs.meaning.Name.{node_name_span}
use Rattle.items.specs.meaning.Lower.{opened}
use Rattle.items.specs.declared.open_node.Opened.{Opened}

-- a node's definition before its labels
abbrev pub bare_node : List ℕ → Trees → Span → Def
bare_node p parts span = record { path = p; value = node [] (has omit_kind parts); span = span; name_span = node_name_span parts span }

-- the labels after the definition: the node is opened, and its path stands at a place
pub record Opens (c : LowerCtx) (words bytes w b : List ℕ) (parts : Trees) (o : Opened) : Type 0 where
  pub opens : (k : Context) (p : List ℕ) (span : Span) (s : State) → Represents k c words bytes (define (bare_node p parts span) s)
      → Represents (with_place (record { at = o.place; path = p }) k) o.ctx w b (opened p parts span s)

-- a node opened at a path that is given by its parent's
pub record OpensAt (parent : PathAt) (c : LowerCtx) (words bytes w b : List ℕ) (parts : Trees) (span : Span) (path : List ℕ → List ℕ)
    (o : Opened) : Type 0 where
  pub opens : (k : Context) (p : List ℕ) (s : State) → Represents (with_place (record { at = parent; path = p }) k) c words bytes s
      → Represents (with_place (record { at = o.place; path = path p }) (with_place (record { at = parent; path = p }) k)) o.ctx w b
      (opened (path p) parts span s)
