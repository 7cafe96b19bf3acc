-- Diagnostics made, by what they report.
use Prim.Native.Nat.{ℕ, ◌+◌}
use mathlib.Core.Path.{◌≡◌, refl, sym}
use mathlib.Core.List.{List, [], ◌∷◌, ◌++◌, append_assoc, append-nil}
use lib.ListN.{length-append}
use native.Mathlib.Omega.{arith}
use Rattle.std.specs.Prelude.{Some, None, Result}
use Rattle.making.specs.declared.ctx.LowerCtx.{LowerCtx}
use Rattle.definition_log.specs.declared.parts.Span.{Span as SpanRead}
use Rattle.definition_log.specs.meaning.Contents.{Span, Def, Ext, Binding, Diag}
use Rattle.making.specs.machine.Recs.{diag_made, no_span}
use Rattle.definition_log.specs.machine.Parts.{meant}
use Rattle.making.specs.meaning.State.{State, emit, diags_bytes}
use Rattle.making.specs.machine.Represents.{Steps}
use Rattle.input.specs.meaning.Report.{report}
use Rattle.resolving.specs.machine.Lowers.{Lowers}
use Rattle.input.specs.machine.NameRead.{name_read, full_read}
use Rattle.input.specs.declared.name.FullName.{FullName}
use Rattle.input.specs.declared.report.Report.{Report}
use Rattle.resolving.proofs.Lowers.{emit_grows, steps_lower}

-- states are equal by their parts
pub same_states : {a a' : List Def} (e : List Ext) (n : List Binding) {g g' : List Diag} {r r' b b' : ℕ} → a ≡ a' → g ≡ g' → r ≡ r' → b ≡ b'
    → ◌≡◌ {A = State}
    (record { defs = a; exts = e; binds = n; diags = g; records = r; bytes = b })
    (record { defs = a'; exts = e; binds = n; diags = g'; records = r'; bytes = b' })
same_states e n p q u v = rw (p, q, u, v) refl

-- nothing reported changes nothing
pub emit_none : (s : State) → emit [] s ≡ s
unfolding emit diags_bytes
emit_none s = same_states s.exts s.binds refl (append-nil s.diags) (omega arith) (omega arith)

bytes_append : (a b : List Diag) → diags_bytes (a ++ b) ≡ diags_bytes a + diags_bytes b
unfolding diags_bytes
bytes_append [] b = omega arith
bytes_append (d ∷ a) b = omega (arith, bytes_append a b)

-- reports one after the other
pub emit_then : (a b : List Diag) (s : State) → emit b (emit a s) ≡ emit (a ++ b) s
unfolding emit
emit_then a b s =
    same_states s.exts s.binds refl (append_assoc s.diags a b) (omega (arith, length-append a b)) (omega (arith, bytes_append a b))

module _ {c d : LowerCtx} {words bytes w b : List ℕ} where
  -- a diagnostic with this span
  pub reported : (code : ℕ) (text : List ℕ) {s : SpanRead} (span : Span) → meant s ≡ span
      → Steps c d words bytes w b (emit (diag_made code text s no_span ∷ []))
      → Lowers c d words bytes w b (emit (report code text span ∷ []))
  reported code text span e h = rw (sym e) (steps_lower (emit_grows _) h)

  -- the same reports
  pub same_reports : {ds es : List Diag} → ds ≡ es → Lowers c d words bytes w b (emit ds) → Lowers c d words bytes w b (emit es)
  same_reports e h = rw (sym e) h

-- nothing is reported
pub reports_none : {c : LowerCtx} {words bytes : List ℕ} → Lowers c c words bytes words bytes (emit [])
reports_none = record { lowers = λ k s h. rw (emit_none s) h }

-- one after the other
pub reports_then : {c d e : LowerCtx} {words bytes w b v u : List ℕ} (x y : List Diag) → Lowers c d words bytes w b (emit x)
    → Lowers d e w b v u (emit y)
    → Lowers c e words bytes v u (emit (x ++ y))
reports_then x y f g = record { lowers = λ k s h. rw (sym (emit_then x y s)) (g.lowers k (emit x s) (f.lowers k s h)) }

-- the macros in the places of a name and of its unit address
pub full_reports : (words text : List ℕ) (f : FullName) (u : Result ℕ Report) → f.unit ≡ Some u
    → (name_read words text f.name).reports ++ (name_read words text u).reports ≡ (full_read words text f).reports
unfolding full_read
full_reports words text f u e = rw e refl

pub name_reports : (words text : List ℕ) (f : FullName) → f.unit ≡ None
    → (name_read words text f.name).reports ≡ (full_read words text f).reports
unfolding full_read
name_reports words text f e = rw e refl
