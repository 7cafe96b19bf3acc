-- Directives: what names report, deletions by reference, and a directive by its W.
use Prim.Native.Nat.{ℕ, ◌≤◌}
use mathlib.Core.Path.{◌≡◌, refl, sym, ap, ◌∙◌}
use mathlib.Core.Bool.{true, false}
use mathlib.Core.List.{List, [], ◌∷◌}
use mathlib.Core.Option.{Option, some, none}
use native.Mathlib.Omega.{arith}
use borrow.Author.Tests.{ne_eqb}
use Rattle.std.specs.Prelude.{Option as Maybe, Some, None, Result, Ok, Err}
use Rattle.paths_numbers.specs.meaning.Path.{joined}
use Rattle.paths_numbers.specs.meaning.Reference.{Target}
use Rattle.paths_numbers.proofs.Texts.{not_both}
use Rattle.making.specs.declared.ctx.LowerCtx.{LowerCtx}
use Rattle.making.specs.declared.place.PathAt.{PathAt}
use Rattle.definition_log.specs.declared.parts.Span.{Span as LogSpan}
use Rattle.making.specs.declared.recs.DefKind.TheVariants as D
use Rattle.making.specs.machine.Recs.{bare_def}
use Rattle.definition_log.specs.machine.Parts.{meant}
use Rattle.definition_log.specs.meaning.Contents.{Span, Diag, DefValue, deleted_property, version, plugin}
use Rattle.definition_log.specs.meaning.Record.{second_text}
use Rattle.definition_log.specs.meaning.ReadBack.{read_bindings, read_defs}
use Rattle.making.specs.machine.PathPlaces.{path_in}
use Rattle.making.specs.meaning.State.{State, define, emit}
use Rattle.making.specs.machine.Represents.{Context, Represents, Steps}
use Rattle.making.proofs.InHand.{represents_defs, represents_bindings}
use Rattle.queries.specs.meaning.Live.{contains_node}
use Rattle.input.specs.meaning.Tree.{Tree, Trees, span_of, name_kind, reference_kind, first_of}
use Rattle.input.specs.meaning.Report.{report}
use Rattle.input.specs.meaning.Name.{full_name}
use Rattle.input.specs.meaning.Phandle.{lower_phandle}
use Rattle.resolving.specs.meaning.Resolve.{Resolution, reaches, missing, first_binding, resolve, unresolved}
use Rattle.input.specs.meaning.Input.{text_at, span_at, child_at, number_at, chain_at}
use Rattle.input.specs.machine.At.{record_at}
use Rattle.items.specs.meaning.Lower.{bare, delete_node, delete_resolved, delete_target, delete_referenced, delete_named, lower_delete_node}
use Rattle.items.specs.meaning.Lower.{delete_property_named, lower_directive, version_directive, plugin_directive, include_directive}
use Rattle.items.specs.meaning.Lower.{delete_node_directive, delete_property_directive}
use Rattle.resolving.specs.machine.Lowers.{Lowers, LowersAt}
use Rattle.input.specs.machine.Read.{FirstOf}
use Rattle.input.specs.machine.ChainLeft.{trees_left}
use Rattle.input.specs.declared.linked.Chain.{Chain}
use Rattle.input.specs.machine.NameRead.{name_text, unit_text, is_there, full_read, FullNameRead}
use Rattle.input.specs.machine.OfRecord.{tree_of, phandle_told}
use Rattle.input.specs.declared.linked.Record.{Record}
use Rattle.input.specs.meaning.GoodName.{good_names_in}
use Rattle.resolving.specs.machine.Leading.{resolution, bound_by, Leads, ReportsMissing}
use Rattle.items.specs.declared.unbind.Below.{Below}
use Rattle.items.specs.machine.Deleting.{DeletesAt, DeletesThere, DeletesBound}
use Rattle.input.specs.declared.name.FullName.{FullName}
use Rattle.input.specs.declared.report.Report.{Report}
use Rattle.paths_numbers.specs.declared.phandle.MirPhandleTarget.{MirPhandleTarget}
use Rattle.resolving.specs.declared.resolve.Leads.{Leads as Led}
use Rattle.resolving.specs.declared.resolve.Leads.TheVariants as R
use Rattle.resolving.specs.declared.resolve.Missing.{Missing}
use Rattle.resolving.specs.declared.resolve.Missing.TheVariants as M
use Rattle.input.proofs.Read.{first_missing, first_there}
use Rattle.input.proofs.NameRead.{full_joined}
use Rattle.resolving.proofs.Lowers.{Grows, define_grows, emit_grows, steps_lower}
use Rattle.resolving.proofs.Under.{steps_under, lowers_under, idle_under}
use Rattle.resolving.proofs.Leading.{joined_plain}
use Rattle.items.proofs.Deleting.{delete_grows}

-- the same by another name
pub under_as : {parent : PathAt} {c d : LowerCtx} {words bytes w b : List ℕ} {f g : List ℕ → State → State}
    → ((p : List ℕ) (s : State) → f p s ≡ g p s)
    → LowersAt parent c d words bytes w b g → LowersAt parent c d words bytes w b f
under_as e h = record { lowers = λ k p s r. rw (e p s) (h.lowers k p s r) }

-- a property deleted
module _ {parent : PathAt} {c : LowerCtx} {out bytes : List ℕ} (parts : Chain) (n : Maybe ℕ) (f : FirstOf parts name_kind n)
    (span : LogSpan) where
  pub no_property : n ≡ None → LowersAt parent c c out bytes out bytes
      (λ p s. delete_property_named p (meant span) (first_of name_kind (trees_left parts)) s)
  no_property e = idle_under (λ p s. rw (first_missing parts name_kind n f parts.input.text.now e) refl)

  pub a_property : {d : LowerCtx} {w b : List ℕ} (r : ℕ) → n ≡ Some r → {t u : List ℕ}
      → t ≡ text_at parts.input.words.now parts.input.text.now r → u ≡ []
      → Steps c d out bytes w b (define (bare_def D.DeletedProperty span span (joined (path_in c.bytes bytes parent) t u)))
      → LowersAt parent c d out bytes w b (λ p s. delete_property_named p (meant span) (first_of name_kind (trees_left parts)) s)
  unfolding record_at
  a_property r e {t} {u} x y g =
      under_as
      (λ p s. rw (
        first_there parts name_kind n f parts.input.text.now r e,
        x,
        y,
        joined_plain p (text_at parts.input.words.now parts.input.text.now r),
      ) refl)
      (steps_under (λ p s. define (bare (joined p t u) deleted_property (meant span)) s) (λ p. define_grows _) g)

-- where a reference leads
abbrev pub Deletes : Target → Tree → Span → LowerCtx → LowerCtx → List ℕ → List ℕ → List ℕ → List ℕ → Type 0
Deletes t rec span c d out bytes w b = Lowers c d out bytes w b (λ s. delete_resolved rec span (resolve t s.binds s.defs) s)

module _ (t : Target) (rec : Tree) (span : Span) (c : LowerCtx) {out bytes l p : List ℕ} {v : Result Led Missing} (n : c.short ≡ false)
    (e : resolution out bytes l p v ≡ resolve t (read_bindings out bytes c.binds.first) (read_defs out bytes c.defs.first))
    (i : Leads out bytes c.binds.first c.defs.first l p v)
  where
    resolved : {k : Context} {s : State} → Represents k c out bytes s → resolve t s.binds s.defs ≡ resolution out bytes l p v
    resolved {s = s} h =
        sym
        (e ∙ ap (λ (x : List _). resolve t x (read_defs out bytes c.defs.first)) (represents_bindings h n)
        ∙ ap (λ (y : List _). resolve t s.binds y) (represents_defs h n))

    first_in : {k : Context} {s : State} → Represents k c out bytes s → (r : ℕ) → bound_by v ≡ some r
        → first_binding l s.binds ≡ some (second_text out bytes r)
    first_in h r q = ap (first_binding l) (sym (represents_bindings h n)) ∙ i.first r q

    pub target_bound : {d : LowerCtx} {w b : List ℕ} (r : ℕ) → v ≡ Ok (R.Bound r) → DeletesBound None l span c d out bytes w b
        → Deletes t rec span c d out bytes w b
    unfolding resolution
    target_bound r q x =
        record {
          lowers = λ k s h.
              rw (resolved h ∙ ap (resolution out bytes l p) q) (x.deletes k s (second_text out bytes r) h n (first_in h r (ap bound_by q)));
        }

    pub target_below_lem : {d : LowerCtx} {w b : List ℕ} (r : ℕ) (below : Below) → below.name.now ≡ p → below.unit.now ≡ [] → v ≡ Ok (R.BoundPath r)
        → DeletesBound (Some below) l span c d out bytes w b
        → Deletes t rec span c d out bytes w b
    unfolding resolution
    target_below_lem r below named alone q x =
        record {
          lowers = λ k s h.
              rw (resolved h ∙ ap (resolution out bytes l p) q, ← named, ← alone) (x.deletes k s (second_text out bytes r) h n (first_in h r (ap bound_by q)));
        }

    pub target_at_lem : {d : LowerCtx} {w b : List ℕ} → v ≡ Ok R.AtPath → DeletesAt p span c d out bytes w b → Deletes t rec span c d out bytes w b
    unfolding resolution
    target_at_lem q x =
        record {
          lowers = λ k s h.
              rw (resolved h ∙ ap (resolution out bytes l p) q)
              (x.deletes k s h n (ap (contains_node p) (sym (represents_defs h n)) ∙ i.alive q));
        }

    pub target_there : {d : LowerCtx} {w b : List ℕ} (r : ℕ) → v ≡ Ok (R.Node r) → DeletesThere r span c d out bytes w b
        → Deletes t rec span c d out bytes w b
    unfolding resolution
    target_there r q x =
        record { lowers = λ k s h. rw (resolved h ∙ ap (resolution out bytes l p) q) (x.deletes k s h n (i.named r q)) }

    target_missing : {d : LowerCtx} {w b : List ℕ} (m : Missing) (code : ℕ) (text : List ℕ) → v ≡ Err m
        → resolution out bytes l p (Err m) ≡ missing code text → {at : Span}
        → at ≡ span_of rec → ReportsMissing v l p at c d out bytes w b → Deletes t rec span c d out bytes w b
    target_missing m code text f q e x =
        let r = ap (resolution out bytes l p) f ∙ q in
        record { lowers = λ k s h. rw (resolved h ∙ r, ← e) (x.reports k s code text h n i r) }

    pub target_nowhere : {d : LowerCtx} {w b : List ℕ} {at : Span} (m : Missing) → v ≡ Err m → at ≡ span_of rec
        → ReportsMissing v l p at c d out bytes w b → Deletes t rec span c d out bytes w b
    unfolding resolution
    target_nowhere M.NoLabel q e x = target_missing M.NoLabel 3 l q refl e x
    target_nowhere (M.NoNode code) q e x = target_missing (M.NoNode code) code p q refl e x
    target_nowhere (M.NoNodeBelow code r) q e x =
        target_missing (M.NoNodeBelow code r) code (joined (second_text out bytes r) p []) q refl e x

-- counts never fall
resolved_grows : (rec : Tree) (span : Span) (v : Resolution) (s : State)
    → (s.records ≤ (delete_resolved rec span v s).records) × (s.bytes ≤ (delete_resolved rec span v s).bytes)
resolved_grows rec span (reaches p) s = ((delete_grows p span).records s, (delete_grows p span).bytes s)
resolved_grows rec span (missing code text) s = (
  (emit_grows (unresolved rec code text s.defs)).records s,
  (emit_grows
      (unresolved rec code text s.defs)).bytes s,
)

target_grows : (rec : Tree) (span : Span) (ds : List Diag) (t : Option Target) (s : State)
    → (s.records ≤ (delete_target rec span ds t s).records) × (s.bytes ≤ (delete_target rec span ds t s).bytes)
target_grows rec span ds (some t) s = resolved_grows rec span (resolve t s.binds s.defs) s
target_grows rec span ds none s = ((emit_grows ds).records s, (emit_grows ds).bytes s)

referenced_grows : (span : Span) (o : Option Tree) (s : State) → (s.records ≤ (delete_referenced span o s).records)
    × (s.bytes ≤ (delete_referenced span o s).bytes)
referenced_grows span (some r) s = target_grows r span (lower_phandle r).reports (lower_phandle r).result s
referenced_grows span none s = (omega arith, omega arith)

pub reference_grows : (span : Span) (o : Option Tree) → Grows (delete_referenced span o)
reference_grows span o = record { records = λ s. (referenced_grows span o s).0; bytes = λ s. (referenced_grows span o s).1 }

-- by a reference, from what it is read as
pub a_reference_lem : (reference : Record) (span : Span) {c d : LowerCtx} {out bytes w b : List ℕ} (read : Result MirPhandleTarget Report)
    → phandle_told reference read ≡ lower_phandle (tree_of reference)
    → Lowers c d out bytes w b (delete_target (tree_of reference) span (phandle_told reference read).reports
    (phandle_told reference read).result)
    → Lowers c d out bytes w b (delete_referenced span (some (tree_of reference)))
a_reference_lem reference span read e h = rw e at h

-- by a name, or by a reference
module _ (words text : List ℕ) (parts : ℕ) (f : FullName) (g : FullNameRead words parts f) (span : Span) where
  pub by_name_lem : good_names_in (chain_at words text parts) ≡ true → is_there (full_read words text f).result ≡ true → (p : List ℕ) (s : State)
      → lower_delete_node p (chain_at words text parts) span s ≡ delete_node
      (joined p (name_text words text f.name) (unit_text words text f.unit)) span (emit (full_read words text f).reports s)
  unfolding lower_delete_node
  by_name_lem good t p s = go (full_name (chain_at words text parts)).result refl (rw (g.read text) at t)
    where
      go : (o : Option (List ℕ)) → (full_name (chain_at words text parts)).result ≡ o
          → is_there (full_name (chain_at words text parts)).result ≡ true
          → delete_named p (chain_at words text parts) span (full_name (chain_at words text parts)).result
          (emit (full_name (chain_at words text parts)).reports s)
          ≡ delete_node (joined p (name_text words text f.name) (unit_text words text f.unit)) span
          (emit (full_read words text f).reports s)
      go (some n) e h = rw (g.read text, e, full_joined words text parts f g good p n e) refl
      go none e h = absurd (not_both (rw e at h) refl)

  pub by_reference : is_there (full_read words text f).result ≡ false → (s : State) (p : List ℕ)
      → lower_delete_node p (chain_at words text parts) span s ≡ delete_referenced span (first_of reference_kind (chain_at words text parts))
      (emit (full_read words text f).reports s)
  unfolding lower_delete_node
  by_reference t s p = go (full_name (chain_at words text parts)).result refl (rw (g.read text) at t)
    where
      go : (o : Option (List ℕ)) → (full_name (chain_at words text parts)).result ≡ o
          → is_there (full_name (chain_at words text parts)).result ≡ false
          → delete_named p (chain_at words text parts) span (full_name (chain_at words text parts)).result
          (emit (full_name (chain_at words text parts)).reports s)
          ≡ delete_referenced span (first_of reference_kind (chain_at words text parts)) (emit (full_read words text f).reports s)
      go (some n) e h = absurd (not_both refl (rw e at h))
      go none e h = rw (g.read text, e) refl

-- a directive by its W
module _ {parent : PathAt} {c d : LowerCtx} {out bytes w b : List ℕ} (words text : List ℕ) (r v : ℕ) (q : v ≡ number_at words r) {at : Span}
    (m : at ≡ span_at words r) where
  defines : (value : DefValue) → ((p : List ℕ) (s : State) → lower_directive v p (chain_at words text (child_at words r)) at s ≡ define
      (bare p value at) s)
      → Steps c d out bytes w b (define (bare (path_in c.bytes bytes parent) value at))
      → LowersAt parent c d out bytes w b (λ p s. lower_directive (number_at words r) p (chain_at words text (child_at words r))
      (span_at words r) s)
  defines value e f = rw (← q, ← m) (under_as e (steps_under (λ p s. define (bare p value at) s) (λ p. define_grows _) f))

  pub is_version : v ≡ version_directive → Steps c d out bytes w b (define (bare (path_in c.bytes bytes parent) version at))
      → LowersAt parent c d out bytes w b (λ p s. lower_directive (number_at words r) p (chain_at words text (child_at words r))
      (span_at words r) s)
  unfolding lower_directive
  is_version e f = defines version (λ p s. rw e refl) f

  pub is_plugin_lem : v ≡ plugin_directive → Steps c d out bytes w b (define (bare (path_in c.bytes bytes parent) plugin at))
      → LowersAt parent c d out bytes w b (λ p s. lower_directive (number_at words r) p (chain_at words text (child_at words r))
      (span_at words r) s)
  unfolding lower_directive
  is_plugin_lem e f = defines plugin (λ p s. rw e refl) f

  pub is_include : {t : List ℕ} → v ≡ include_directive → t ≡ [] → Steps c d out bytes w b (emit (report 2 t at ∷ []))
      → LowersAt parent c d out bytes w b (λ p s. lower_directive (number_at words r) p (chain_at words text (child_at words r))
      (span_at words r) s)
  unfolding lower_directive
  is_include {t} e x f = rw (← q, ← m) (under_as (λ p s. rw (e, ← x) refl) (lowers_under (steps_lower (emit_grows (report 2 t at ∷ [])) f)))

  pub is_delete_node : {parts : Trees} → v ≡ delete_node_directive → parts ≡ chain_at words text (child_at words r)
      → LowersAt parent c d out bytes w b (λ p s. lower_delete_node p parts at s)
      → LowersAt parent c d out bytes w b (λ p s. lower_directive (number_at words r) p (chain_at words text (child_at words r))
      (span_at words r) s)
  unfolding lower_directive
  is_delete_node e x f = rw (← q, ← m, ← x) (under_as (λ p s. rw e refl) f)

  pub is_delete_property : {parts : Trees} → v ≡ delete_property_directive → parts ≡ chain_at words text (child_at words r)
      → LowersAt parent c d out bytes w b (λ p s. delete_property_named p at (first_of name_kind parts) s)
      → LowersAt parent c d out bytes w b (λ p s. lower_directive (number_at words r) p (chain_at words text (child_at words r))
      (span_at words r) s)
  unfolding lower_directive
  is_delete_property e x f = rw (← q, ← m, ← x) (under_as (λ p s. rw e refl) f)

pub is_other : {parent : PathAt} {c : LowerCtx} {out bytes : List ℕ} (words text : List ℕ) (r v : ℕ) → v ≡ number_at words r
    → (v ≡ version_directive → ⊥)
    → (v ≡ plugin_directive → ⊥) → (v ≡ include_directive → ⊥) → (v ≡ delete_node_directive → ⊥) → (v ≡ delete_property_directive → ⊥)
    → LowersAt parent c c out bytes out bytes (λ p s. lower_directive (number_at words r) p (chain_at words text (child_at words r))
    (span_at words r) s)
unfolding lower_directive
is_other words text r v q n₁ n₂ n₃ n₄ n₅ =
    idle_under (λ p s. rw (← q) (simp (
      ne_eqb v version_directive n₁,
      ne_eqb v plugin_directive n₂,
      ne_eqb v include_directive n₃,
      ne_eqb v
          delete_node_directive n₄,
      ne_eqb v delete_property_directive n₅,
    )))
