-- From operations of the log to what functions of lowering do: a need only grows, so that a state that ran short stays so.
use Prim.Native.Nat.{ℕ, ◌≤◌}
use mathlib.Core.Path.{◌≡◌}
use mathlib.Core.Bool.{true}
use mathlib.Core.List.{List}
use native.Mathlib.Omega.{arith}
use Rattle.paths_numbers.proofs.Texts.{by_test, not_both}
use Rattle.making.specs.declared.ctx.LowerCtx.{LowerCtx}
use Rattle.definition_log.specs.meaning.Contents.{Def, Binding, Diag}
use Rattle.making.specs.meaning.State.{State, define, bind, emit}
use Rattle.making.specs.machine.Adding.{add_part}
use Rattle.making.specs.machine.Represents.{Context, TooMuch, Represents, going, over, Steps}
use Rattle.making.proofs.Extended.{more_need}
use Rattle.resolving.specs.machine.Lowers.{Lowers}

-- counts never fall
pub record Grows (f : State → State) : Type 0 where
  pub records : (s : State) → s.records ≤ (f s).records
  pub bytes : (s : State) → s.bytes ≤ (f s).bytes

pub define_grows : (d : Def) → Grows (define d)
unfolding define
define_grows d = record { records = λ s. omega arith; bytes = λ s. omega arith }

pub bind_grows : (bs : List Binding) → Grows (bind bs)
unfolding bind
bind_grows bs = record { records = λ s. omega arith; bytes = λ s. omega arith }

pub emit_grows : (ds : List Diag) → Grows (emit ds)
unfolding emit
emit_grows ds = record { records = λ s. omega arith; bytes = λ s. omega arith }

pub part_grows : (f : _) (size : ℕ) → Grows (add_part f size)
unfolding add_part
part_grows f size = record { records = λ s. omega arith; bytes = λ s. omega arith }

-- the need of a state that ran short
pub need_of : {k : Context} {c : LowerCtx} {words bytes : List ℕ} {s : State} → Represents k c words bytes s → c.short ≡ true
    → TooMuch words bytes s
need_of (over z m) h = m
need_of (going es z l cr cb o m st ps ss mk) h = absurd (not_both h z)

-- it stays short, whatever is done to what the log says
pub stays_over : {k : Context} {c d : LowerCtx} {words bytes w b : List ℕ} {s : State} (t : State)
    → (c.short ≡ true → (d.short ≡ true) × (w ≡ words) × (b ≡ bytes)) → c.short ≡ true
    → s.records ≤ t.records → s.bytes ≤ t.bytes → Represents k c words bytes s → Represents k d w b t
stays_over t stays h r b m = let q = stays h in over q.0 (rw (q.1, q.2) (more_need r b (need_of m h)))

module _ {c d : LowerCtx} {words bytes w b : List ℕ} {f : State → State} where
  pub steps_lower : Grows f → Steps c d words bytes w b f → Lowers c d words bytes w b f
  steps_lower g h =
      record {
        lowers = λ k s r. by_test c.short (λ z. stays_over (f s) h.stays z (g.records s) (g.bytes s) r) (λ z. h.steps k s r z);
      }

-- one after the other
pub lowers_then : {c d e : LowerCtx} {words bytes w b v u : List ℕ} {f g : State → State} → Lowers c d words bytes w b f
    → Lowers d e w b v u g
    → Lowers c e words bytes v u (λ (s : State). g (f s))
lowers_then {f = f} x y = record { lowers = λ k s h. y.lowers k (f s) (x.lowers k s h) }
