-- What the deletions by a reference that leads somewhere do to the log in hand.
use Rattle.std.specs.Prelude.{ℕ, ◌≡◌, true, false, List, Option as Maybe}
use Rattle.std.proofs.Math.Option.{some}
use Rattle.making.specs.declared.ctx.LowerCtx.{LowerCtx}
use Rattle.definition_log.specs.meaning.Contents.{Span, deleted_node}
use Rattle.definition_log.specs.meaning.Record.{first_text}
use Rattle.making.specs.meaning.State.{State, define}
use Rattle.making.specs.machine.Represents.{Context, Represents}
use Rattle.queries.specs.meaning.Live.{contains_node}
use Rattle.resolving.specs.meaning.Resolve.{first_binding}
use Rattle.resolving.specs.machine.Leading.{InChain}
use Rattle.items.specs.meaning.Lower.{bare, delete_node}
use Rattle.items.specs.machine.Unbinding.{bound_path}
use Rattle.items.specs.declared.unbind.Below.{Below}

-- of a live node's path
pub record DeletesAt (path : List ℕ) (span : Span) (c d : LowerCtx) (words bytes w b : List ℕ) : Type 0 where
  pub deletes : (k : Context) (s : State) → Represents k c words bytes s → c.short ≡ false → contains_node path s.defs ≡ true
      → Represents k d w b (delete_node path span s)

-- of the path of a definition
pub record DeletesThere (r : ℕ) (span : Span) (c d : LowerCtx) (words bytes w b : List ℕ) : Type 0 where
  pub deletes : (k : Context) (s : State) → Represents k c words bytes s → c.short ≡ false → InChain words c.defs.first r
      → Represents k d w b (delete_node (first_text words bytes r) span s)

-- of the path of a label's first binding, or of a path below that
pub record DeletesBound (below : Maybe Below) (label : List ℕ) (span : Span) (c d : LowerCtx) (words bytes w b : List ℕ) : Type 0 where
  pub deletes : (k : Context) (s : State) (p : List ℕ) → Represents k c words bytes s → c.short ≡ false
      → first_binding label s.binds ≡ some p
      → Represents k d w b (delete_node (bound_path below p) span s)

-- the deletion itself
pub record DefinesBound (below : Maybe Below) (label : List ℕ) (span : Span) (c d : LowerCtx) (words bytes w b : List ℕ) : Type 0 where
  pub defines : (k : Context) (s : State) (p : List ℕ) → Represents k c words bytes s → c.short ≡ false
      → first_binding label s.binds ≡ some p
      → Represents k d w b (define (bare (bound_path below p) deleted_node span) s)
