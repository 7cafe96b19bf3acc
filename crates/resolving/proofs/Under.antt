-- What functions of lowering do under a path, for which a place stands.
use Prim.Native.Nat.{ℕ, ◌+◌}
use mathlib.Core.Path.{◌≡◌, refl, subst}
use mathlib.Core.List.{List, [], append-nil}
use native.Mathlib.Omega.{arith}
use Rattle.paths_numbers.proofs.Texts.{by_test}
use Rattle.making.specs.declared.ctx.LowerCtx.{LowerCtx}
use Rattle.making.specs.declared.place.PathAt.{PathAt}
use Rattle.making.specs.machine.PathPlaces.{path_in}
use Rattle.making.specs.meaning.State.{State, emit, diags_bytes}
use Rattle.making.specs.machine.Represents.{with_place, Represents, Steps}
use Rattle.making.proofs.InHand.{place_reads}
use Rattle.resolving.specs.machine.Lowers.{Lowers, LowersAt}
use Rattle.resolving.proofs.Lowers.{Grows, stays_over}

module _ {parent : PathAt} {c d : LowerCtx} {words bytes w b : List ℕ} where
  -- an operation on the path that is read at the place
  pub steps_under : (f : List ℕ → State → State) → ((p : List ℕ) → Grows (f p))
      → Steps c d words bytes w b (f (path_in c.bytes bytes parent)) → LowersAt parent c d words bytes w b f
  steps_under f g h =
      record {
        lowers = λ k p s r.
            by_test c.short
            (λ z. stays_over (f p s) h.stays z ((g p).records s) ((g p).bytes s) r)
            (λ z.
            subst (λ (q : List ℕ). Represents (with_place (record { at = parent; path = p }) k) d w b (f q s))
            (place_reads r z)
            (h.steps (with_place (record { at = parent; path = p }) k) s r z));
      }

  -- what is the same under every path
  pub lowers_under : {f : State → State} → Lowers c d words bytes w b f → LowersAt parent c d words bytes w b (λ p s. f s)
  lowers_under h = record { lowers = λ k p s r. h.lowers (with_place (record { at = parent; path = p }) k) s r }

-- nothing done
pub idle : {c : LowerCtx} {words bytes : List ℕ} {f : State → State} → ((s : State) → f s ≡ s) → Lowers c c words bytes words bytes f
idle {c} {words} {bytes} e = record { lowers = λ k s r. rw (e s) r }

pub idle_under : {parent : PathAt} {c : LowerCtx} {words bytes : List ℕ} {f : List ℕ → State → State}
    → ((p : List ℕ) (s : State) → f p s ≡ s) → LowersAt parent c c words bytes words bytes f
idle_under e = record { lowers = λ k p s r. rw (e p s) r }

-- one after the other
pub under_then : {parent : PathAt} {c d e : LowerCtx} {words bytes w b v u : List ℕ} {f g : List ℕ → State → State}
    → LowersAt parent c d words bytes w b f → LowersAt parent d e w b v u g
    → LowersAt parent c e words bytes v u (λ p s. g p (f p s))
under_then {f = f} x y = record { lowers = λ k p s h. y.lowers k p (f p s) (x.lowers k p s h) }

-- no diagnostics, and two lists of them
pub emit_none : (s : State) → emit [] s ≡ s
unfolding emit diags_bytes
emit_none s =
    let a : s.records + 0 ≡ s.records = omega arith in
    let b : s.bytes + 0 ≡ s.bytes = omega arith in
    rw (append-nil, a, b) refl
