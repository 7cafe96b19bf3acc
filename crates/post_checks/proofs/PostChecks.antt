-- The post checks one after the other: each reads what the log says of bindings and definitions, which the reports before it leave.
use Prim.Native.Nat.{ℕ}
use mathlib.Core.Path.{◌≡◌, refl, ap, subst, ◌∙◌}
use mathlib.Core.List.{List, [], ◌∷◌, ◌++◌}
use Rattle.making.specs.declared.ctx.LowerCtx.{LowerCtx}
use Rattle.definition_log.specs.meaning.Contents.{Span, Cell, number, reference, Value, string, cell_list, bytestring, phandle, DefValue}
use Rattle.definition_log.specs.meaning.Contents.{node}
use Rattle.definition_log.specs.meaning.Contents.{property, deleted_node, deleted_property, version, plugin, Def, Diag}
use Rattle.making.specs.meaning.State.{State, emit}
use Rattle.making.specs.machine.Represents.{Represents}
use Rattle.queries.specs.meaning.Live.{live}
use Rattle.post_checks.specs.meaning.Post.{duplicate_labels, check_cell, check_cells, check_value, check_values, check_def, check_defs}
use Rattle.post_checks.specs.meaning.Post.{check_references, check_directives, post_checks}
use Rattle.resolving.specs.machine.Lowers.{Lowers}
use Rattle.post_checks.proofs.Checks.{emit_then}

-- references are checked by the bindings and the definitions alone
module _ (s t : State) (bs : s.binds ≡ t.binds) (ds : s.defs ≡ t.defs) where
  cell_alike : (span : Span) (c : Cell) → check_cell s span c ≡ check_cell t span c
  cell_alike span (number n) = refl
  cell_alike span (reference x) = rw (bs, ds) refl

  cells_alike : (span : Span) (cs : List Cell) → check_cells s span cs ≡ check_cells t span cs
  unfolding check_cells
  cells_alike span [] = refl
  cells_alike span (c ∷ cs) = rw (cell_alike span c, cells_alike span cs) refl

  value_alike : (span : Span) (v : Value) → check_value s span v ≡ check_value t span v
  value_alike span (string x) = refl
  value_alike span (cell_list w cs) = cells_alike span cs
  value_alike span (bytestring x) = refl
  value_alike span (phandle x) = rw (bs, ds) refl

  values_alike : (span : Span) (vs : List Value) → check_values s span vs ≡ check_values t span vs
  unfolding check_values
  values_alike span [] = refl
  values_alike span (v ∷ vs) = rw (value_alike span v, values_alike span vs) refl

  def_alike : (span : Span) (v : DefValue) → check_def s span v ≡ check_def t span v
  def_alike span (node l o) = refl
  def_alike span (property vs) = values_alike span vs
  def_alike span deleted_node = refl
  def_alike span deleted_property = refl
  def_alike span version = refl
  def_alike span plugin = refl

  pub defs_alike : (l : List Def) → check_defs s l ≡ check_defs t l
  unfolding check_defs
  defs_alike [] = refl
  defs_alike (d ∷ l) = rw (def_alike d.name_span d.value, defs_alike l) refl

  pub references_alike : check_references s ≡ check_references t
  unfolding check_references
  references_alike = rw (defs_alike (live [] s.defs), ds) refl

-- two checks, of which the second reads nothing that the first reports
pub checks_then : {c d e : LowerCtx} {words bytes w b v u : List ℕ} (f g : State → List Diag)
    → ((ds : List Diag) (s : State) → g (emit ds s) ≡ g s)
    → Lowers c d words bytes w b (λ (s : State). emit (f s) s) → Lowers d e w b v u (λ (s : State). emit (g s) s)
    → Lowers c e words bytes v u (λ (s : State). emit (f s ++ g s) s)
checks_then {e = e} {v = v} {u} f g same x y =
    record {
      lowers = λ k s h.
          subst (λ (t : State). Represents k e v u t)
          (ap (λ (ds : List Diag). emit ds (emit (f s) s)) (same (f s) s) ∙ emit_then (f s) (g s) s)
          (y.lowers k (emit (f s) s) (x.lowers k s h));
    }

-- all three
pub post_lowers : {c d e f : LowerCtx} {words bytes w b v u x y : List ℕ}
    → Lowers c d words bytes w b (λ (s : State). emit (duplicate_labels [] s.binds) s)
    → Lowers d e w b v u (λ (s : State). emit (check_references s) s)
    → Lowers e f v u x y (λ (s : State). emit (check_directives s.defs) s)
    → Lowers c f words bytes x y (λ (s : State). emit (post_checks s) s)
unfolding post_checks emit
post_lowers labels references directives =
    checks_then (λ (s : State). duplicate_labels [] s.binds ++ check_references s) (λ (s : State). check_directives s.defs)
    (λ ds s. refl)
    (checks_then (λ (s : State). duplicate_labels [] s.binds) (λ (s : State). check_references s)
    (λ ds s. references_alike (emit ds s) s refl refl) labels references)
    directives
