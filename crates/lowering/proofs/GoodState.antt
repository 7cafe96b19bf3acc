-- States whose definitions, extensions, bindings and diagnostics keep row 8's rules for spans and paths: every operation of a state keeps
-- them.
use Prim.Native.Nat.{ℕ}
use mathlib.Core.Path.{◌≡◌, refl}
use mathlib.Core.Bool.{true}
use mathlib.Core.List.{List, [], ◌∷◌, ◌++◌}
use Rattle.paths_numbers.proofs.Texts.{both, cond_in}
use Rattle.definition_log.specs.meaning.Contents.{Def, Ext, Binding, Diag}
use Rattle.definition_log.specs.meaning.Sound.{nonempty_path}
use Rattle.making.specs.meaning.State.{State, start, define, bind, emit, apart, dropped, extended}
use Rattle.definition_log.specs.machine.Good.{all, in_order, path_fits, good_def, good_ext, good_binding, good_diag}
use Rattle.paths_numbers.specs.meaning.Lists.{any}
use Rattle.queries.specs.meaning.Live.{is_live, live}
use Rattle.items.specs.meaning.Unbind.{binds_label_of, without, unbind}
use Rattle.lowering.proofs.GoodLists.{all_one, all_append}
use Rattle.lowering.proofs.GoodReports.{GoodDiags}

pub record GoodState (s : State) : Type 0 where
  pub defs : all good_def s.defs ≡ true
  pub exts : all good_ext s.exts ≡ true
  pub binds : all good_binding s.binds ≡ true
  pub diags : GoodDiags s.diags

pub good_start : GoodState start
unfolding all
good_start = record { defs = refl; exts = refl; binds = refl; diags = refl }

-- a definition with its spans in order and a path that fits
pub good_def_lem : (d : Def) → in_order d.span ≡ true → in_order d.name_span ≡ true → path_fits d.value d.path ≡ true → good_def d ≡ true
unfolding good_def
good_def_lem d e f h = rw (e, f) h

pub def_parts : (d : Def) → good_def d ≡ true → (in_order d.name_span ≡ true) × (path_fits d.value d.path ≡ true)
unfolding good_def
def_parts d g = both (in_order d.name_span) _ (both (in_order d.span) _ g).1

-- and a binding
pub binding_parts : (b : Binding) → good_binding b ≡ true → (in_order b.span ≡ true) × (nonempty_path b.path ≡ true)
unfolding good_binding
binding_parts b g = both (in_order b.span) (nonempty_path b.path) g

-- the live ones of a list are some of it
pub live_good : (base : List ℕ) (ds : List Def) → all good_def ds ≡ true → all good_def (live base ds) ≡ true
unfolding live all
live_good base [] g = refl
live_good base (d ∷ ds) g =
    let h = both (good_def d) (all good_def ds) g in
    all_append good_def (live base ds) _ (live_good base ds h.1)
    (cond_in (λ (l : List Def). all good_def l ≡ true) (is_live base d ds) (all_one good_def d h.0) refl)

-- and so are the bindings that a deletion leaves
without_good : (ds : List Def) (bs : List Binding) → all good_binding bs ≡ true → all good_binding (without ds bs) ≡ true
unfolding without all
without_good ds [] g = refl
without_good ds (b ∷ bs) g =
    let h = both (good_binding b) (all good_binding bs) g in
    let rest = without_good ds bs h.1 in
    cond_in (λ (l : List Binding). all good_binding l ≡ true) (any (binds_label_of b) ds) rest (rw h.0 rest)

module _ {s : State} (g : GoodState s) where
  pub good_define : (d : Def) → good_def d ≡ true → GoodState (define d s)
  unfolding define
  good_define d e =
      record {
        defs = all_append good_def s.defs (d ∷ []) g.defs (all_one good_def d e);
        exts = g.exts;
        binds = g.binds;
        diags = g.diags;
      }

  pub good_bind : (bs : List Binding) → all good_binding bs ≡ true → GoodState (bind bs s)
  unfolding bind
  good_bind bs e = record { defs = g.defs; exts = g.exts; binds = all_append good_binding s.binds bs g.binds e; diags = g.diags }

  pub good_emit : (ds : List Diag) → GoodDiags ds → GoodState (emit ds s)
  unfolding emit
  good_emit ds e = record { defs = g.defs; exts = g.exts; binds = g.binds; diags = all_append good_diag s.diags ds g.diags e }

  pub good_unbind : (p : List ℕ) → GoodState (unbind p s)
  unfolding unbind
  good_unbind p = record { defs = g.defs; exts = g.exts; binds = without_good (live p s.defs) s.binds g.binds; diags = g.diags }

  -- a body with a log of its own, and what is left of it
  pub good_apart : GoodState (apart s)
  unfolding apart all
  good_apart = record { defs = refl; exts = refl; binds = g.binds; diags = g.diags }

  pub good_dropped : {t : State} → GoodState t → GoodState (dropped s t)
  unfolding dropped
  good_dropped h = record { defs = g.defs; exts = g.exts; binds = h.binds; diags = h.diags }

  pub good_extended : {t : State} (e : Ext) → e.body ≡ t.defs → in_order e.span ≡ true → in_order e.name_span ≡ true → GoodState t
      → GoodState (extended e s t)
  unfolding extended good_ext
  good_extended {t} e b i j h =
      let own : good_ext e ≡ true = rw (i, j, b) h.defs in
      record {
        defs = g.defs;
        exts = all_append good_ext (s.exts ++ t.exts) (e ∷ []) (all_append good_ext s.exts t.exts g.exts h.exts)
            (all_one good_ext e own);
        binds = h.binds;
        diags = h.diags;
      }
