-- The two-run theorem over trees and states: a new subnode and its deletion, anywhere in a body that enters the main log, leave all that is
-- read alike.
use Prim.Native.Nat.{ℕ}
use mathlib.Core.Path.{◌≡◌, refl, sym, ap}
use mathlib.Core.Bool.{Bool, true, false, cond}
use mathlib.Core.List.{List, [], ◌∷◌}
use Rattle.paths_numbers.specs.meaning.Text.{is_empty}
use Rattle.paths_numbers.specs.meaning.Path.{at_or_under}
use Rattle.paths_numbers.specs.meaning.Reference.{Target}
use Rattle.paths_numbers.proofs.Texts.{not_both, both}
use Rattle.definition_log.specs.meaning.Contents.{Span, Cell, number, reference, Value, string, cell_list, bytestring, phandle, DefValue}
use Rattle.definition_log.specs.meaning.Contents.{node}
use Rattle.definition_log.specs.meaning.Contents.{property, deleted_node, deleted_property, version, plugin, Def, Diag}
use Rattle.queries.specs.meaning.Kind.{sets_overlay}
use Rattle.queries.specs.meaning.Live.{live}
use Rattle.queries.specs.meaning.History.{history}
use Rattle.queries.proofs.Gap.{gap_within, gap_history}
use Rattle.input.specs.meaning.Tree.{Trees, tree, node_kind}
use Rattle.making.specs.meaning.State.{State, emit}
use Rattle.items.specs.meaning.Lower.{at, nowhere, place_of, opened, lower_node, lower_item, lower_items, lowered}
use Rattle.post_checks.specs.meaning.Post.{at_first, reference_report, check_target, check_cell, check_cells, check_value}
use Rattle.post_checks.specs.meaning.Post.{check_values, check_def, check_defs, check_references, check_directives, post_checks}
use Rattle.two_runs.specs.meaning.TwoRuns.{Inserted, here, after, within, unlowered, Alike, TwoRuns}
use Rattle.input.specs.meaning.GoodName.{good_names, good_names_in}
use Rattle.two_runs.proofs.Sim.{Sim, Like, equal, gap, like_live, like_overlay, sim_refl, same_resolve, keeps}
use Rattle.input.proofs.GoodNames.{good_second}
use Rattle.two_runs.proofs.Pair.{pair_sim}
use Rattle.two_runs.proofs.Defined.{Defined, still, opened_defined, directives_same}

-- a node that is placed at a path, as a whole
node_at_lem : (level : ℕ) (parent : List ℕ) (s : State) (text : List ℕ) (w : ℕ) (span : Span) (parts body : Trees) (p : List ℕ)
    → (place_of parent parts span s).place ≡ at p
    → lower_item level (tree node_kind text w span parts body) parent s ≡ lower_items level body p
    (opened p parts span (emit (place_of parent parts span s).reports s))
unfolding lower_item lower_node
node_at_lem level parent s text w span parts body p e = rw e refl

-- a node whose body is not lowered, whatever the body
node_nowhere : (level : ℕ) (parent : List ℕ) (s : State) (text : List ℕ) (w : ℕ) (span : Span) (parts body : Trees)
    → (place_of parent parts span s).place ≡ nowhere
    → lower_item level (tree node_kind text w span parts body) parent s ≡ emit (place_of parent parts span s).reports s
unfolding lower_item lower_node
node_nowhere level parent s text w span parts body e = rw e refl

-- two runs that part by the gap of the log in hand, or by nothing
abbrev Part : List ℕ → State → State → Type 0
Part new a b = (t : Bool) × Sim new t a b

part_keeps : (level : ℕ) (rest : Trees) (new parent : List ℕ) {a b : State} → Part new a b
    → Part new (lower_items level rest parent a) (lower_items level rest parent b)
part_keeps level rest new parent (t, s) = (t, keeps level rest new parent t _ _ s)

-- where the two are put in, the runs part so
sims : {level : ℕ} {new parent : List ℕ} {s : State} {a b : Trees} → Inserted level new parent s a b → good_names_in b ≡ true
    → (is_empty parent ≡ false → Defined s) → Part new (lower_items level a parent s) (lower_items level b parent s)
unfolding lower_items good_names_in
sims {level} {new} {parent} {s} (here {n = n} {d} {rest} p) good h =
    part_keeps level rest new parent (true, pair_sim p (both (good_names n) _ good).0 (h p.in_body))
sims {level} {new} {parent} {s} (after {t = t} i) good h = sims i (both (good_names t) _ good).1 (λ e. still level t parent s (h e))
sims {level} {new} {parent} {s} (within {text = text} {w} {span} {parts} {body} {body'} {rest} {p} e i) good h =
    part_keeps level rest new parent
    (rw (node_at_lem level parent s text w span parts body p e, node_at_lem level parent s text w span parts body' p e)
    (sims i (good_second node_kind text w span parts body' (both (good_names (tree node_kind text w span parts body')) _ good).0)
    (λ f. opened_defined p parts span (emit (place_of parent parts span s).reports s))))
sims {level} {new} {parent} {s} (unlowered {text = text} {w} {span} {parts} {body} {body'} {rest} e) good h =
    part_keeps level rest new parent
    (rw (node_nowhere level parent s text w span parts body e, node_nowhere level parent s text w span parts body' e)
    (false, sim_refl new (emit (place_of parent parts span s).reports s)))

-- post checks of references
module _ {new : List ℕ} {t : Bool} {a b : State} (s : Sim new t a b) where
  same_target : (span : Span) (x : Target) → check_target a span x ≡ check_target b span x
  same_target span x = ap (reference_report span) (same_resolve s x)

  same_cell : (span : Span) (c : Cell) → check_cell a span c ≡ check_cell b span c
  same_cell span (number n) = refl
  same_cell span (reference x) = same_target span x

  same_cells : (span : Span) (cs : List Cell) → check_cells a span cs ≡ check_cells b span cs
  unfolding check_cells
  same_cells span [] = refl
  same_cells span (c ∷ cs) = cc (same_cell span c, same_cells span cs)

  same_value : (span : Span) (v : Value) → check_value a span v ≡ check_value b span v
  same_value span (string x) = refl
  same_value span (cell_list w cs) = same_cells span cs
  same_value span (bytestring x) = refl
  same_value span (phandle x) = same_target span x

  same_values : (span : Span) (vs : List Value) → check_values a span vs ≡ check_values b span vs
  unfolding check_values
  same_values span [] = refl
  same_values span (v ∷ vs) = cc (same_value span v, same_values span vs)

  same_def : (span : Span) (v : DefValue) → check_def a span v ≡ check_def b span v
  same_def span (node l o) = refl
  same_def span (property vs) = same_values span vs
  same_def span deleted_node = refl
  same_def span deleted_property = refl
  same_def span version = refl
  same_def span plugin = refl

  same_defs : (ds : List Def) → check_defs a ds ≡ check_defs b ds
  unfolding check_defs
  same_defs [] = refl
  same_defs (d ∷ ds) = cc (same_def d.name_span d.value, same_defs ds)

-- two such states are alike
like_directives : {new : List ℕ} {t : Bool} {a b : List Def} → Like new t a b → check_directives a ≡ check_directives b
unfolding check_directives
like_directives equal = refl
like_directives (gap g) =
    rw (g.first, g.second) (sym (directives_same (gap_within g) g.before g.after at_first g.defined))

like_history : {new : List ℕ} {t : Bool} {a b : List Def} → Like new t a b → (path : List ℕ) → at_or_under path new ≡ false
    → history path a ≡ history path b
like_history equal path out = refl
like_history (gap g) path out = gap_history g path out

module _ {new : List ℕ} {t : Bool} {a b : State} (s : Sim new t a b) where
  same_references : check_references a ≡ check_references b
  unfolding check_references
  same_references =
      rw (like_overlay s.logs, like_live s.logs [])
      (ap (λ (l : List Diag). cond (sets_overlay b.defs) [] l) (same_defs s (live [] b.defs)))

  sim_alike : Alike new a b
  unfolding post_checks
  sim_alike =
      record {
        lives = like_live s.logs;
        bindings = s.binds;
        extensions = s.exts;
        diagnostics = s.diags;
        checks = cc (s.binds, same_references, like_directives s.logs);
        histories = like_history s.logs;
      }

pub two_runs : TwoRuns
unfolding TwoRuns lowered is_empty
two_runs level new a b good i = sim_alike (sims i good (λ e. absurd (not_both {t = true} refl e))).1
