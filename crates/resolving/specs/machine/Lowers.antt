-- What the functions of lowering do to the log in hand: what a definition does to what the log says.
use Rattle.std.specs.Prelude.{ℕ, List}
use Rattle.making.specs.declared.ctx.LowerCtx.{LowerCtx}
use Rattle.making.specs.declared.place.PathAt.{PathAt}
use Rattle.making.specs.meaning.State.{State}
use Rattle.making.specs.machine.Represents.{Context, with_place, Represents}

-- from state c to state d, and from words and bytes to w and b
pub record Lowers (c d : LowerCtx) (words bytes w b : List ℕ) (f : State → State) : Type 0 where
  pub lowers : (k : Context) (s : State) → Represents k c words bytes s → Represents k d w b (f s)

-- the same under a path, for which a place in the bytes stands
pub record LowersAt (parent : PathAt) (c d : LowerCtx) (words bytes w b : List ℕ) (f : List ℕ → State → State) : Type 0 where
  pub lowers : (k : Context) (p : List ℕ) (s : State) → Represents (with_place (record { at = parent; path = p }) k) c words bytes s
      → Represents (with_place (record { at = parent; path = p }) k) d w b (f p s)
