-- A state that ran short stays so, whatever goes on around it and whatever is lowered: the need only grows.
use Prim.Native.Nat.{ℕ}
use mathlib.Core.Path.{◌≡◌, refl}
use mathlib.Core.Bool.{true}
use mathlib.Core.List.{List}
use Rattle.making.specs.declared.ctx.LowerCtx.{LowerCtx}
use Rattle.making.specs.declared.place.PathAt.{PathAt}
use Rattle.making.specs.meaning.State.{State}
use Rattle.making.specs.machine.Represents.{Context, Represents, over}
use Rattle.resolving.specs.machine.Lowers.{LowersAt}
use Rattle.resolving.proofs.Lowers.{Grows, need_of, stays_over}

pub short_anywhere : {k l : Context} {c : LowerCtx} {words bytes : List ℕ} {s : State} → c.short ≡ true → Represents k c words bytes s
    → Represents l c words bytes s
short_anywhere z m = over z (need_of m z)

pub short_lowers : {parent : PathAt} {c : LowerCtx} {words bytes : List ℕ} {f : List ℕ → State → State} → ((p : List ℕ) → Grows (f p))
    → c.short ≡ true
    → LowersAt parent c c words bytes words bytes f
short_lowers {f = f} g z =
    record { lowers = λ k p s r. stays_over (f p s) (λ y. (y, refl, refl)) z ((g p).records s) ((g p).bytes s) r }
