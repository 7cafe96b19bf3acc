-- Where a node goes by its reference: to the path that it leads to, or aside.
use Prim.Native.Nat.{ℕ}
use mathlib.Core.Path.{◌≡◌, refl, sym, ap, subst, ◌∙◌}
use mathlib.Core.Bool.{Bool, false, cond}
use mathlib.Core.List.{List, []}
use mathlib.Core.Option.{some, none}
use native.Mathlib.Omega.{arith}
use Rattle.std.specs.Prelude.{Result, Ok, Err}
use Rattle.paths_numbers.specs.meaning.Path.{joined}
use Rattle.paths_numbers.specs.meaning.Reference.{Target}
use Rattle.paths_numbers.proofs.Texts.{by_test}
use Rattle.making.specs.declared.ctx.LowerCtx.{LowerCtx}
use Rattle.making.specs.declared.place.PathAt.{PathAt}
use Rattle.definition_log.specs.declared.parts.Span.{Span as SpanRead}
use Rattle.making.specs.declared.recs.DefKind.{DefKind}
use Rattle.paths_numbers.specs.declared.phandle.MirPhandleTarget.{MirPhandleTarget}
use Rattle.definition_log.specs.meaning.Contents.{Span, node, Def, Binding}
use Rattle.making.specs.machine.PathPlaces.{path_in, placed_in}
use Rattle.definition_log.specs.meaning.Record.{first_text, second_text}
use Rattle.definition_log.specs.meaning.ReadBack.{read_bindings, read_defs}
use Rattle.making.specs.machine.Recs.{bare_value, bare_def}
use Rattle.definition_log.specs.machine.Parts.{meant, target_made}
use Rattle.making.specs.meaning.State.{State, define, emit}
use Rattle.making.specs.machine.Represents.{Context, with_place, Represents, Steps}
use Rattle.making.proofs.InHand.{represents_defs, represents_bindings, binding_path, def_path}
use Rattle.queries.specs.meaning.Kind.{sets_overlay}
use Rattle.input.specs.meaning.Tree.{Tree, Trees, has, omit_kind}
use Rattle.input.specs.meaning.Report.{Got}
use Rattle.input.specs.meaning.Name.{node_name_span}
use Rattle.input.specs.meaning.Phandle.{lower_phandle}
use Rattle.resolving.specs.meaning.Resolve.{Resolution, reaches, missing, resolve}
use Rattle.items.specs.meaning.Lower.{at, Placed, by_resolution, by_target, opened}
use Rattle.input.specs.meaning.Input.{span_at}
use Rattle.input.specs.machine.At.{record_at}
use Rattle.resolving.specs.machine.Lowers.{Lowers}
use Rattle.input.specs.machine.PhandleRead.{label_at, path_at}
use Rattle.resolving.specs.machine.Leading.{resolution, Leads, ReportsMissing}
use Rattle.items.specs.machine.Opened.{Opens}
use Rattle.items.specs.machine.NodePlaced.{PlacesIn, DefinesLeading}
use Rattle.resolving.specs.declared.resolve.Leads.{Leads as Led}
use Rattle.resolving.specs.declared.resolve.Leads.TheVariants as R
use Rattle.resolving.specs.declared.resolve.Missing.{Missing}
use Rattle.resolving.specs.declared.resolve.Missing.TheVariants as M
use Rattle.items.specs.declared.open_node.Opened.{Opened}
use Rattle.items.specs.declared.dt_node.NodePlace.TheVariants as N
use Rattle.items.specs.declared.dt_node.PlacedNode.{PlacedNode}
use Rattle.items.proofs.Reported.{emit_none}
use Rattle.items.proofs.Opened.{bare_node_lem}

-- a path that is reached
path_of_lem : Resolution → List ℕ → List ℕ
path_of_lem (reaches p) q = p
path_of_lem (missing code text) q = q

same_path_lem : {p q : List ℕ} → reaches p ≡ reaches q → p ≡ q
unfolding path_of_lem
same_path_lem {p} e = ap (λ (r : Resolution). path_of_lem r p) e

never_reached : {A : Type 0} {code : ℕ} {text p : List ℕ} → missing code text ≡ reaches p → A
never_reached e = let z : ◌≡◌ {A = ℕ} 0 1 = cc in absurd (omega arith)

-- what the search answered
module _ (words bytes l path : List ℕ) where
  pub leads_to : (v : Led) → (p : List ℕ) × (resolution words bytes l path (Ok v) ≡ reaches p)
  unfolding resolution
  leads_to (R.Bound r) = (second_text words bytes r, refl)
  leads_to (R.BoundPath r) = (joined (second_text words bytes r) path [], refl)
  leads_to R.AtPath = (path, refl)
  leads_to (R.Node r) = (first_text words bytes r, refl)

  pub leads_nowhere : (m : Missing) → (code : ℕ) × (text : List ℕ) × (resolution words bytes l path (Err m) ≡ missing code text)
  unfolding resolution
  leads_nowhere M.NoLabel = (3, l, refl)
  leads_nowhere (M.NoNode code) = (code, path, refl)
  leads_nowhere (M.NoNodeBelow code r) = (code, joined (second_text words bytes r) path [], refl)

-- the definition there
module _ {c d : LowerCtx} {words bytes w b : List ℕ} {parts : Trees} (v : Result Led Missing) (l path : List ℕ) (kind : DefKind)
    (span name_span : SpanRead) (found : Span) (q : List ℕ) (made : Steps c d words bytes w b (define (bare_def kind span name_span q)))
    (value_is : bare_value kind ≡ node [] (has omit_kind parts)) (span_is : meant span ≡ found)
    (name_span_is : meant name_span ≡ node_name_span parts found) where
  defines_at : ((k : Context) (s : State) (p : List ℕ) → Represents k c words bytes s → c.short ≡ false
      → Leads words bytes c.binds.first c.defs.first l path v → resolution words bytes l path v ≡ reaches p → q ≡ p)
      → DefinesLeading v l path c d words bytes w b parts found
  defines_at e =
      record {
        defines = λ k s p r z i h.
            subst (λ (x : Def). Represents k d w b (define x s))
            (bare_node_lem kind span name_span q p parts found (e k s p r z i h) value_is span_is name_span_is) (made.steps k s r z);
      }

  pub defines_bound : (n : ℕ) → v ≡ Ok (R.Bound n) → q ≡ path_in c.bytes bytes (placed_in words n 4)
      → DefinesLeading v l path c d words bytes w b parts found
  unfolding resolution
  defines_bound n e g =
      defines_at (λ k s p r z i h.
      let x = i.there n (rw e refl) in
      g ∙ binding_path r z x.before x.after n x.chain ∙ same_path_lem (rw e at h))

  pub defines_below : (n : ℕ) → v ≡ Ok (R.BoundPath n) → q ≡ joined (path_in c.bytes bytes (placed_in words n 4)) path []
      → DefinesLeading v l path c d words bytes w b parts found
  unfolding resolution
  defines_below n e g =
      defines_at (λ k s p r z i h.
      let x = i.there n (rw e refl) in
      g ∙ ap (λ (y : List ℕ). joined y path []) (binding_path r z x.before x.after n x.chain) ∙ same_path_lem (rw e at h))

  pub defines_path : v ≡ Ok R.AtPath → q ≡ path → DefinesLeading v l path c d words bytes w b parts found
  unfolding resolution
  defines_path e g = defines_at (λ k s p r z i h. g ∙ same_path_lem (rw e at h))

  pub defines_named : (n : ℕ) → v ≡ Ok (R.Node n) → q ≡ path_in c.bytes bytes (placed_in words n 2)
      → DefinesLeading v l path c d words bytes w b parts found
  unfolding resolution
  defines_named n e g =
      defines_at (λ k s p r z i h.
      let x = i.named n e in
      g ∙ def_path r z x.before x.after n x.chain ∙ same_path_lem (rw e at h))

-- none where it leads nowhere
pub defines_none : {c : LowerCtx} {words bytes : List ℕ} {parts : Trees} {span : Span} (v : Result Led Missing) (l path : List ℕ) (m : Missing)
    → v ≡ Err m → DefinesLeading v l path c c words bytes words bytes parts span
defines_none {words = words} {bytes} v l path m e =
    let x = leads_nowhere words bytes l path m in
    record { defines = λ k s p r z i h. never_reached (sym (ap (resolution words bytes l path) e ∙ x.2) ∙ h) }

-- the node placed
module _ (c : LowerCtx) (words bytes : List ℕ) (target : Target) (l path : List ℕ) (v : Result Led Missing)
    (bound : Leads words bytes c.binds.first c.defs.first l path v)
    (resolved : resolution words bytes l path v ≡ resolve target (read_bindings words bytes c.binds.first)
    (read_defs words bytes c.defs.first)) where
  -- in the log in hand
  in_hand : (k : Context) (s : State) → Represents k c words bytes s → c.short ≡ false
      → resolve target s.binds s.defs ≡ resolution words bytes l path v
  in_hand k s r z =
      sym (resolved ∙ ap (λ (x : List Binding). resolve target x (read_defs words bytes c.defs.first)) (represents_bindings r z)
      ∙ ap (λ (x : List Def). resolve target s.binds x) (represents_defs r z))

  pub place_found : {parent : PathAt} {d : LowerCtx} {w₁ b₁ w b input text : List ℕ} {parts : Trees} {span : Span} {o : Opened} (t : Tree)
      (to : Led) → v ≡ Ok to
      → DefinesLeading v l path c d words bytes w₁ b₁ parts span → Opens d w₁ b₁ w b parts o
      → PlacesIn parent c words bytes w b input text parts span
      (λ p s. by_resolution t target s.defs (resolve target s.binds s.defs)) (record { node = N.At o.place; ctx = o.ctx })
  place_found {parent} {w = w} {b} {parts = parts} {span} {o} t to on de op =
      let x = leads_to words bytes l path to in
      let e₁ = ap (resolution words bytes l path) on ∙ x.1 in
      record {
        places = λ k p s z r.
            let e : by_resolution t target s.defs (resolve target s.binds s.defs) ≡ record { place = at x.0; reports = [] } =
            rw (in_hand (with_place (record { at = parent; path = p }) k) s r z, e₁) refl in (
              x.0,
              ap (λ (y : Placed). y.place) e,
              subst (λ (u : State). Represents (with_place (record { at = o.place; path = x.0 })
                  (with_place (record { at = parent; path = p }) k)) o.ctx w b (opened x.0 parts span u))
                  (sym (emit_none s) ∙ ap (λ (y : Placed). emit y.reports s) (sym e))
                  (op.opens (with_place (record { at = parent; path = p }) k) x.0 span s
                  (de.defines (with_place (record { at = parent; path = p }) k) s x.0 r z bound e₁)),
            );
      }

-- or put aside, kept or dropped
pub place_missing : (c : LowerCtx) (words bytes : List ℕ) (v : Result Led Missing) (m : Missing) {parent : PathAt} {d : LowerCtx} {w b : List ℕ} {parts : Trees}
    {span : Span} {keeps : Bool} (input text : List ℕ) (reference : ℕ)
    (kind : MirPhandleTarget) → Leads words bytes c.binds.first c.defs.first (label_at input text reference) (path_at input text reference)
    v
    → resolution words bytes (label_at input text reference) (path_at input text reference) v ≡ resolve
    (target_made kind (label_at input text reference) (path_at input text reference)) (read_bindings words bytes c.binds.first)
    (read_defs words bytes c.defs.first)
    → v ≡ Err m → keeps ≡ sets_overlay (read_defs words bytes c.defs.first)
    → ReportsMissing v (label_at input text reference) (path_at input text reference) (span_at input reference) c d words bytes w b
    → PlacesIn parent c words bytes w b input text parts span
    (λ p s. by_resolution (record_at input text reference) (target_made kind (label_at input text reference) (path_at input text reference))
    s.defs (resolve (target_made kind (label_at input text reference) (path_at input text reference)) s.binds s.defs))
    (record { node = cond keeps (N.Aside reference kind) (N.Dropped reference kind); ctx = d })
unfolding record_at
place_missing c words bytes v m {parent} {keeps = keeps} input text reference kind bound g on keep re =
    let l = label_at input text reference in
    let path = path_at input text reference in
    let x = leads_nowhere words bytes l path m in
    let e₁ = ap (resolution words bytes l path) on ∙ x.2 in
    record {
      places = λ k p s z r.
          let e = in_hand c words bytes (target_made kind l path) l path v bound g (with_place (record { at = parent; path = p }) k) s r z ∙ e₁ in
          let kept = sym (keep ∙ ap sets_overlay (represents_defs r z)) in
          let told = re.reports (with_place (record { at = parent; path = p }) k) s x.0 x.1 r z bound e₁ in
          by_test keeps (λ y. rw (e, y) (refl, kept ∙ y, told)) (λ y. rw (e, y) (refl, kept ∙ y, told));
    }

-- a reference by what it was read as
module _ {parent : PathAt} {c : LowerCtx} {words bytes w b input text : List ℕ} {parts : Trees} {span : Span} {n : PlacedNode} (t : Tree)
    (got : Got Target) (e : got ≡ lower_phandle t) where
  pub read_named : (target : Target) → got.result ≡ some target
      → PlacesIn parent c words bytes w b input text parts span
      (λ p s. by_resolution t target s.defs (resolve target s.binds s.defs)) n
      → PlacesIn parent c words bytes w b input text parts span (λ p s. by_target t (lower_phandle t).reports (lower_phandle t).result s) n
  read_named target q h = rw (sym e, q) h

pub read_nowhere : {parent : PathAt} {c d : LowerCtx} {words bytes w b input text : List ℕ} {parts : Trees} {span : Span} (t : Tree)
    (got : Got Target) → got ≡ lower_phandle t → got.result ≡ none
    → Lowers c d words bytes w b (emit got.reports)
    → PlacesIn parent c words bytes w b input text parts span (λ p s. by_target t (lower_phandle t).reports (lower_phandle t).result s)
    (record { node = N.Nowhere; ctx = d })
read_nowhere {parent} t got e q h =
    rw (sym e, q) (record { places = λ k p s z r. (refl, h.lowers (with_place (record { at = parent; path = p }) k) s r) })
