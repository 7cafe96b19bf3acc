-- The log in hand: how its state and its buffers stand to the records made, and what each operation adds to them. Not what a reader must
-- believe: what is read back follows from it (proofs/ReadLog).
use Rattle.std.specs.Prelude.{ℕ, ◌+◌, ◌≡◌, Bool, true, false, cond, List, [], ◌∷◌, ◌++◌, eqb}
use Rattle.making.specs.declared.ctx.Chain.{Chain}
use Rattle.making.specs.declared.ctx.LowerCtx.{LowerCtx}
use Rattle.making.specs.machine.Events.{Event, defs_of, exts_of, bindings, diagnostics, post_diagnostics, children_of, first, last}
use Rattle.making.specs.machine.Buffers.{Layout, Exceeds}

-- which log is in hand, which log's chain its extensions are in, and whether the post checks run
pub record Hand : Type 0 where
  pub log : ℕ
  pub exts : ℕ
  pub post : Bool

-- the chain of the diagnostics
abbrev pub diags_of : Bool → ℕ
diags_of post = cond post post_diagnostics diagnostics

-- the ends of a chain
pub record Runs (chain : ℕ) (x : Chain) (es : List Event) : Type 0 where
  pub first_is : x.first ≡ first chain 1 es
  pub last_is : x.last ≡ last chain 1 es

-- of the four chains in hand
pub record Ends (g : Hand) (c : LowerCtx) (es : List Event) : Type 0 where
  pub defs_run : Runs (defs_of g.log) c.defs es
  pub exts_run : Runs (exts_of g.exts) c.exts es
  pub binds_run : Runs bindings c.binds es
  pub diags_run : Runs (diags_of g.post) c.diags es

-- the state and the buffers hold these records, or they did not fit
pub data Holds (g : Hand) (c : LowerCtx) (words bytes : List ℕ) (es : List Event) : Type 0 where
  going : c.short ≡ false → Layout words bytes c.records c.bytes es → Ends g c es → Holds g c words bytes es
  over : c.short ≡ true → Exceeds words bytes es → Holds g c words bytes es

-- whether record r is there, in a list whose records are numbered from k on
unfoldable pub there : ℕ → ℕ → List Event → Bool
there r k [] = false
there r k (e ∷ es) = cond (eqb r k) e.alive (there r (k + 1) es)

-- an operation from c to d that adds a child to a record that is there, whose last child is given, 0 where it has none
pub record AddsBelow (c d : LowerCtx) (words bytes w b : List ℕ) (owner last_child : ℕ) (e : Event) : Type 0 where
  pub holds : (g : Hand) (es : List Event) → Holds g c words bytes es → (c.short ≡ false → there owner 1 es ≡ true)
      → (c.short ≡ false → last_child ≡ last (children_of owner) 1 es) → Holds g d w b (es ++ e ∷ [])
  pub stays : c.short ≡ true → d.short ≡ true
