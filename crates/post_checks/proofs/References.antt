-- References of live properties: what the records that stay say of them (Kept), where each leads, and the steps of the walks through
-- definitions, values and cells.
use Prim.Native.Nat.{ℕ, ◌+◌, ◌≤◌, ◌<◌}
use mathlib.Core.Path.{◌≡◌, refl, sym, ap, ◌∙◌}
use mathlib.Core.Bool.{true, false}
use mathlib.Core.List.{List, [], ◌∷◌, ◌++◌, map, map-append, append_assoc, append-nil}
use native.Mathlib.Numerals.{add-one}
use native.Mathlib.Omega.{arith}
use borrow.Author.Tests.{ne_eqb}
use lib.Dec.{eqb}
use lib.ListN.{length, get_or, take}
use lib.Seq.{take-suc, take_all}
use Rattle.paths_numbers.specs.meaning.Path.{joined}
use Rattle.paths_numbers.proofs.Texts.{by_test}
use Rattle.making.specs.declared.ctx.LowerCtx.{LowerCtx}
use Rattle.making.specs.declared.place.PathAt.{PathAt}
use Rattle.definition_log.specs.declared.parts.Span as declared
use Rattle.definition_log.specs.meaning.Contents.{Span, Def, Diag}
use Rattle.definition_log.specs.meaning.Record.{kind_of, child_of, n_of, m_of, span_start, span_end, name_start, name_end, first_text}
use Rattle.definition_log.specs.meaning.Record.{second_text, log_count, node_kind, property_kind, deleted_node_kind, deleted_property_kind}
use Rattle.definition_log.specs.meaning.Record.{plugin_kind}
use Rattle.definition_log.specs.meaning.Record.{cell_list_kind, bytestring_kind, reference_kind}
use Rattle.definition_log.specs.meaning.ReadBack.{chain_of, name_span_at, target_at, read_labels, cell_at, read_cells, value_at}
use Rattle.definition_log.specs.meaning.ReadBack.{read_values, def_value_at, def_at}
use Rattle.definition_log.specs.meaning.ReadBack.{read_defs, binding_at, read_bindings}
use Rattle.making.specs.machine.PathPlaces.{path_in, placed_in}
use Rattle.making.specs.machine.Recs.{diag_made, no_span}
use Rattle.definition_log.specs.machine.Parts.{meant}
use Rattle.making.specs.meaning.State.{State, emit}
use Rattle.making.specs.machine.Represents.{Context, Represents, Steps}
use Rattle.making.specs.machine.Kept.{Still, All, all_none, all_more, Kept, Keeps}
use Rattle.making.proofs.InHand.{represents_defs, represents_bindings}
use Rattle.making.proofs.Keeping.{still_kept, binds_still, defs_still, parts_still, first_place, second_place_lem}
use Rattle.queries.specs.meaning.Kind.{sets_overlay}
use Rattle.queries.specs.meaning.Live.{is_live, live}
use Rattle.queries.specs.meaning.Query.{live_numbers}
use Rattle.queries.specs.machine.Table.{fitted}
use Rattle.queries.proofs.Chain.{chain_most}
use Rattle.queries.proofs.Numbers.{live_numbers_lem, live_most, written_start, fitted_full}
use Rattle.resolving.specs.meaning.Resolve.{resolve}
use Rattle.post_checks.specs.meaning.Post.{check_target, check_cell, check_cells, check_value, check_values, check_def, check_defs}
use Rattle.post_checks.specs.meaning.Post.{check_references}
use Rattle.resolving.specs.machine.Lowers.{Lowers}
use Rattle.resolving.specs.machine.Leading.{resolution, Leads, target_label}
use Rattle.post_checks.specs.machine.Checks.{Reports, ReportsLive, Parts, said, target_place}
use Rattle.resolving.specs.declared.resolve.Leads.{Leads as Led}
use Rattle.resolving.specs.declared.resolve.Leads.TheVariants as R
use Rattle.resolving.specs.declared.resolve.Missing.{Missing}
use Rattle.resolving.specs.declared.resolve.Missing.TheVariants as M
use Rattle.std.specs.Prelude.{Result, Ok, Err}
use Rattle.post_checks.proofs.Checks.{all_first, all_at, chain_kept, reports_none, reports_one, reports_as, reports_under}
use Rattle.post_checks.proofs.Checks.{reports_then, reports_lower}
use Rattle.post_checks.proofs.Headers.{no_text}
use Rattle.post_checks.proofs.Duplicates.{binding_kept}
use Rattle.resolving.proofs.Leading.{below_text}
use Rattle.post_checks.proofs.PostChecks.{defs_alike}

-- what is read of records that stay
all_alike : {A : Type 0} {P : ℕ → Type 0} (f g : ℕ → A) {l : List ℕ} → ((r : ℕ) → P r → f r ≡ g r) → All P l → map f l ≡ map g l
all_alike f g h all_none = refl
all_alike f g h (all_more {r} {l} p a) = cc (h r p, all_alike f g h a)

module _ {k : Context} {s : State} {c d : LowerCtx} {words bytes w b : List ℕ} (rep : Represents k c words bytes s) (z : c.short ≡ false)
    (kept : Kept c d words bytes w b) where
  target_kept : (r : ℕ) → Still words c.records r → target_at w b r ≡ target_at words bytes r
  unfolding target_at
  target_kept r h =
      let n : n_of w r ≡ n_of words r = kept.field r 7 h (omega arith) in
      rw (n, kept.first r h, kept.second r h) refl

  cell_kept : (r : ℕ) → Still words c.records r → cell_at w b r ≡ cell_at words bytes r
  unfolding cell_at
  cell_kept r h =
      let x : kind_of w r ≡ kind_of words r = kept.field r 0 h (omega arith) in
      let n : n_of w r ≡ n_of words r = kept.field r 7 h (omega arith) in
      let m : m_of w r ≡ m_of words r = kept.field r 8 h (omega arith) in
      rw (x, n, m, target_kept r h) refl

  -- the chain from a record, and of the records below one
  from_kept : (r : ℕ) → All (Still words c.records) (chain_of words r) → chain_of w r ≡ chain_of words r
  unfolding chain_of
  from_kept r a = rw kept.count (chain_kept kept (log_count words) r a)

  below_kept : (r : ℕ) → Still words c.records r → chain_of w (child_of w r) ≡ chain_of words (child_of words r)
  below_kept r h =
      let x : child_of w r ≡ child_of words r = kept.field r 6 h (omega arith) in
      rw x (from_kept (child_of words r) (parts_still rep z h))

  cells_kept : (r : ℕ) → Still words c.records r → read_cells w b (child_of w r) ≡ read_cells words bytes (child_of words r)
  unfolding read_cells
  cells_kept r h = rw (below_kept r h) (all_alike (cell_at w b) (cell_at words bytes) cell_kept (parts_still rep z h))

  value_kept : (r : ℕ) → Still words c.records r → value_at w b r ≡ value_at words bytes r
  unfolding value_at
  value_kept r h =
      let x : kind_of w r ≡ kind_of words r = kept.field r 0 h (omega arith) in
      let n : n_of w r ≡ n_of words r = kept.field r 7 h (omega arith) in
      rw (x, n, cells_kept r h, kept.first r h, target_kept r h) refl

  values_kept : (r : ℕ) → Still words c.records r → read_values w b (child_of w r) ≡ read_values words bytes (child_of words r)
  unfolding read_values
  values_kept r h = rw (below_kept r h) (all_alike (value_at w b) (value_at words bytes) value_kept (parts_still rep z h))

  labels_kept : (r : ℕ) → Still words c.records r → read_labels w b (child_of w r) ≡ read_labels words bytes (child_of words r)
  unfolding read_labels
  labels_kept r h = rw (below_kept r h) (all_alike (first_text w b) (first_text words bytes) kept.first (parts_still rep z h))

  def_value_kept : (r : ℕ) → Still words c.records r → def_value_at w b r ≡ def_value_at words bytes r
  unfolding def_value_at
  def_value_kept r h =
      let x : kind_of w r ≡ kind_of words r = kept.field r 0 h (omega arith) in
      let n : n_of w r ≡ n_of words r = kept.field r 7 h (omega arith) in
      rw (x, n, labels_kept r h, values_kept r h) refl

  name_kept : (r : ℕ) → Still words c.records r → name_span_at w r ≡ name_span_at words r
  name_kept r h =
      let x : name_start w r ≡ name_start words r = kept.field r 11 h (omega arith) in
      let y : name_end w r ≡ name_end words r = kept.field r 12 h (omega arith) in
      rw (x, y) refl

  def_kept : (r : ℕ) → Still words c.records r → def_at w b r ≡ def_at words bytes r
  unfolding def_at
  def_kept r h =
      let x : span_start w r ≡ span_start words r = kept.field r 9 h (omega arith) in
      let y : span_end w r ≡ span_end words r = kept.field r 10 h (omega arith) in
      rw (kept.first r h, def_value_kept r h, x, y, name_kept r h) refl

  -- what all definitions and bindings say
  said_kept : said d w b ≡ said c words bytes
  unfolding said read_defs read_bindings
  said_kept =
      let ds = defs_still rep z in
      let bs = binds_still rep z in
      rw (
        kept.defs,
        kept.binds,
        from_kept c.defs.first ds,
        from_kept c.binds.first bs,
        all_alike (def_at w b) (def_at words bytes)
            def_kept ds,
        all_alike (binding_at w b) (binding_at words bytes) (λ r h. binding_kept kept h) bs,
      ) refl

  -- one record on: the steps of chains of cells and of values (check_parts), and of check_definitions
  pub cells_next : (span : Span) (r : ℕ) (later : List ℕ) → Still words c.records r
      → check_cells (said c words bytes) span (map (cell_at words bytes) (r ∷ later)) ≡ check_cell (said d w b) span (cell_at w b r)
      ++ check_cells (said c words bytes) span (map (cell_at words bytes) later)
  unfolding check_cells
  cells_next span r later h = rw (said_kept, cell_kept r h) refl

  pub values_next : (span : Span) (r : ℕ) (later : List ℕ) → Still words c.records r
      → check_values (said c words bytes) span (map (value_at words bytes) (r ∷ later))
      ≡ check_value (said d w b) span (value_at w b r) ++ check_values (said c words bytes) span (map (value_at words bytes) later)
  unfolding check_values
  values_next span r later h = rw (said_kept, value_kept r h) refl

  definition_kept : (r : ℕ) → Still words c.records r
      → check_def (said d w b) (name_span_at w r) (def_value_at w b r) ≡ check_defs (said c words bytes) (map (def_at words bytes) (r ∷ []))
  unfolding check_defs def_at
  definition_kept r h = rw (said_kept, def_value_kept r h, name_kept r h) (sym (append-nil _))

-- the kinds of chains: of cells, and of values
pub cells_none : (s : State) (span : Span) → check_cells s span [] ≡ []
unfolding check_cells
cells_none s span = refl

pub values_none : (s : State) (span : Span) → check_values s span [] ≡ []
unfolding check_values
values_none s span = refl

abbrev pub cell_parts : Parts
cell_parts =
    record {
      one = λ s span w b r. check_cell s span (cell_at w b r);
      all = λ s span w b rs. check_cells s span (map (cell_at w b) rs);
      none = λ s span w b. cells_none s span;
      next = cells_next;
    }

abbrev pub value_parts : Parts
value_parts =
    record {
      one = λ s span w b r. check_value s span (value_at w b r);
      all = λ s span w b rs. check_values s span (map (value_at w b) rs);
      none = λ s span w b. values_none s span;
      next = values_next;
    }

defs_append : (s : State) (xs ys : List Def) → check_defs s (xs ++ ys) ≡ check_defs s xs ++ check_defs s ys
unfolding check_defs
defs_append s [] ys = refl
defs_append s (d ∷ xs) ys = rw (defs_append s xs ys) (sym (append_assoc (check_def s d.name_span d.value) (check_defs s xs)
    (check_defs s ys)))

module _ {c d e : LowerCtx} {words bytes w b v u : List ℕ} (l : List ℕ) (i r : ℕ) (q : r ≡ get_or l i 0) (h : i < length l) where
  pub definitions_next : Reports c d words bytes w b l (check_defs (said c words bytes) (map (def_at words bytes) (take i l)))
      → Reports d e w b v u (r ∷ []) (check_def (said d w b) (name_span_at w r) (def_value_at w b r))
      → Reports c e words bytes v u l (check_defs (said c words bytes) (map (def_at words bytes) (take (i + 1) l)))
  definitions_next x y =
      let t : take (i + 1) l ≡ take i l ++ r ∷ [] = rw (add-one i, q) (take-suc l i 0 h) in
      let m : map (def_at words bytes) (take (i + 1) l) ≡ map (def_at words bytes) (take i l) ++ map (def_at words bytes) (r ∷ [])
      = ap (map (def_at words bytes)) t ∙ map-append (def_at words bytes) (take i l) (r ∷ []) in
      rw (m, defs_append (said c words bytes) (map (def_at words bytes) (take i l)) (map (def_at words bytes) (r ∷ [])))
      (reports_then (check_defs (said c words bytes) (map (def_at words bytes) (r ∷ []))) x y
      (λ k s rep z kept a.
      let j = rw (← q) at (all_at a i h) in
      (all_more (still_kept kept j) all_none, definition_kept rep z kept r j)))

pub definitions_all : {c d : LowerCtx} {words bytes w b : List ℕ} (l : List ℕ) (i : ℕ) → length l ≤ i
    → Reports c d words bytes w b l (check_defs (said c words bytes) (map (def_at words bytes) (take i l)))
    → Reports c d words bytes w b l (check_defs (said c words bytes) (map (def_at words bytes) l))
definitions_all l i h x = rw (take_all i l h) at x

-- its label as it stands in the bytes
label_read : {k : Context} {s : State} {c : LowerCtx} {words bytes : List ℕ} {r : ℕ} → Represents k c words bytes s → c.short ≡ false
    → Still words c.records r
    → path_in c.bytes bytes (target_place words r) ≡ target_label words bytes r
unfolding target_label
label_read {c = c} {words} {bytes} {r} rep z h =
    by_test (eqb (n_of words r) 1)
    (λ t. rw t (first_place rep z h))
    (λ t. by_test (eqb (n_of words r) 2) (λ u. rw (t, u) (first_place rep z h)) (λ u. rw (t, u) (no_text c.bytes bytes)))

-- the report on it, or none
abbrev on_target : LowerCtx → List ℕ → List ℕ → declared.Span → ℕ → List Diag
on_target c words bytes span r = check_target (said c words bytes) (meant span) (target_at words bytes r)

module _ {c : LowerCtx} {words bytes : List ℕ} (r : ℕ) (span : declared.Span) (v : Result Led Missing)
    (e : resolution words bytes (target_label words bytes r) (second_text words bytes r) v ≡ resolve (target_at words bytes r)
    (read_bindings words bytes c.binds.first) (read_defs words bytes c.defs.first)) where
  module _ {d : LowerCtx} {w b : List ℕ} (h : Keeps c d words bytes w b) where
    pub target_label_lem : (at : PathAt) → v ≡ Err M.NoLabel → at ≡ target_place words r
        → Steps c d words bytes w b (emit (diag_made 3 (path_in c.bytes bytes at) span no_span ∷ []))
        → Reports c d words bytes w b (r ∷ []) (on_target c words bytes span r)
    unfolding said resolution
    target_label_lem at q p t = rw (← e, q) (reports_as (reports_one h t) (λ k s rep z a. rw (p, label_read rep z (all_first a)) refl))

    pub target_node : (code : ℕ) (at : PathAt) → v ≡ Err (M.NoNode code) → at ≡ placed_in words r 4
        → Steps c d words bytes w b (emit (diag_made code (path_in c.bytes bytes at) span no_span ∷ []))
        → Reports c d words bytes w b (r ∷ []) (on_target c words bytes span r)
    unfolding said resolution
    target_node code at q p t = rw (← e, q) (reports_as (reports_one h t) (λ k s rep z a. rw (p, second_place_lem rep z (all_first a)) refl))

    pub target_below_lem : (code x : ℕ) (base at : PathAt) → v ≡ Err (M.NoNodeBelow code x) → base ≡ placed_in words x 4 → at ≡ placed_in words r 4
        → Leads words bytes c.binds.first c.defs.first (target_label words bytes r) (second_text words bytes r) v
        → Steps c d words bytes w b (emit (diag_made code (joined (path_in c.bytes bytes base) (path_in c.bytes bytes at) []) span no_span
        ∷ []))
        → Reports c d words bytes w b (r ∷ []) (on_target c words bytes span r)
    unfolding said resolution
    target_below_lem code x base at q f p i t =
        rw (← e, q)
        (reports_as (reports_one h t)
        (λ k s rep z a. rw (f, p, second_place_lem rep z (all_first a), below_text x (second_text words bytes r) rep z (rw q at i)) refl))

  pub target_led : (to : Led) → v ≡ Ok to → Reports c c words bytes words bytes (r ∷ []) (on_target c words bytes span r)
  unfolding said resolution
  target_led (R.Bound x) q = rw (← e, q) (reports_none c words bytes (r ∷ []))
  target_led (R.BoundPath x) q = rw (← e, q) (reports_none c words bytes (r ∷ []))
  target_led R.AtPath q = rw (← e, q) (reports_none c words bytes (r ∷ []))
  target_led (R.Node x) q = rw (← e, q) (reports_none c words bytes (r ∷ []))

-- the reports on a cell, a value and a definition, by their kinds
module _ (c : LowerCtx) (words bytes : List ℕ) (s : State) (span : Span) (r n : ℕ) (e : n ≡ kind_of words r) where
  pub cell_other : (n ≡ reference_kind → ⊥) → Reports c c words bytes words bytes (r ∷ []) (check_cell s span (cell_at words bytes r))
  unfolding cell_at
  cell_other f = let q = ne_eqb (kind_of words r) reference_kind (λ h. f (e ∙ h)) in rw q (reports_none c words bytes (r ∷ []))

  pub value_other : (n ≡ cell_list_kind → ⊥) → (n ≡ reference_kind → ⊥)
      → Reports c c words bytes words bytes (r ∷ []) (check_value s span (value_at words bytes r))
  unfolding value_at
  value_other f g =
      let p = ne_eqb (kind_of words r) cell_list_kind (λ h. f (e ∙ h)) in
      let q = ne_eqb (kind_of words r) reference_kind (λ h. g (e ∙ h)) in
      by_test (eqb (kind_of words r) bytestring_kind)
      (λ t. rw (p, t) (reports_none c words bytes (r ∷ [])))
      (λ t. rw (p, t, q) (reports_none c words bytes (r ∷ [])))

  pub def_other : (n ≡ property_kind → ⊥) → Reports c c words bytes words bytes (r ∷ []) (check_def s span (def_value_at words bytes r))
  unfolding def_value_at
  def_other f =
      let p = ne_eqb (kind_of words r) property_kind (λ h. f (e ∙ h)) in
      let x = reports_none c words bytes (r ∷ []) in
      by_test (eqb (kind_of words r) node_kind)
      (λ t. rw t x)
      (λ t.
      by_test (eqb (kind_of words r) deleted_node_kind)
      (λ u. rw (t, p, u) x)
      (λ u.
      by_test (eqb (kind_of words r) deleted_property_kind)
      (λ i. rw (t, p, u, i) x)
      (λ i. by_test (eqb (kind_of words r) plugin_kind) (λ j. rw (t, p, u, i, j) x) (λ j. rw (t, p, u, i, j) x))))

  module _ {d : LowerCtx} {w b : List ℕ} where
    pub cell_target : n ≡ reference_kind → Reports c d words bytes w b (r ∷ []) (check_target s span (target_at words bytes r))
        → Reports c d words bytes w b (r ∷ []) (check_cell s span (cell_at words bytes r))
    unfolding cell_at
    cell_target h x = let q : kind_of words r ≡ reference_kind = sym e ∙ h in rw q x

    pub value_target : n ≡ reference_kind → Reports c d words bytes w b (r ∷ []) (check_target s span (target_at words bytes r))
        → Reports c d words bytes w b (r ∷ []) (check_value s span (value_at words bytes r))
    unfolding value_at
    value_target h x = let q : kind_of words r ≡ reference_kind = sym e ∙ h in rw q x

    -- what is below it stays with it
    below_reports : {ds : List Diag} → Reports c d words bytes w b (chain_of words (child_of words r)) ds
        → Reports c d words bytes w b (r ∷ []) ds
    below_reports x = reports_under x (λ k t rep z a. parts_still rep z (all_first a))

    pub value_cells : n ≡ cell_list_kind → (first : ℕ) → first ≡ child_of words r
        → Reports c d words bytes w b (chain_of words first) (check_cells s span (read_cells words bytes first))
        → Reports c d words bytes w b (r ∷ []) (check_value s span (value_at words bytes r))
    unfolding value_at
    value_cells h first f x = let q : kind_of words r ≡ cell_list_kind = sym e ∙ h in rw q (below_reports (rw f at x))

    pub def_values : n ≡ property_kind → (first : ℕ) → first ≡ child_of words r
        → Reports c d words bytes w b (chain_of words first) (check_values s span (read_values words bytes first))
        → Reports c d words bytes w b (r ∷ []) (check_def s span (def_value_at words bytes r))
    unfolding def_value_at
    def_values h first f x = let q : kind_of words r ≡ property_kind = sym e ∙ h in rw q (below_reports (rw f at x))

-- the live definitions are in the chain
all_append : {P : ℕ → Type 0} {xs ys : List ℕ} → All P xs → All P ys → All P (xs ++ ys)
all_append all_none b = b
all_append (all_more p a) b = all_more p (all_append a b)

all_live : {P : ℕ → Type 0} (def : ℕ → Def) (base : List ℕ) {l : List ℕ} → All P l → All P (live_numbers def base l)
unfolding live_numbers
all_live def base all_none = all_none
all_live def base (all_more {r} {l} p a) =
    all_append (all_live def base a)
    (by_test (is_live base (def r) (map def l)) (λ t. rw t (all_more p all_none)) (λ t. rw t all_none))

-- and so no more than there are records
pub live_room : (words bytes base : List ℕ) (first n : ℕ) → n ≡ length (live_numbers (def_at words bytes) base (chain_of words first))
    → n ≤ log_count words
live_room words bytes base first n e = omega (arith, live_most (def_at words bytes) base (chain_of words first), chain_most words first)

module _ {c d : LowerCtx} {words bytes w b : List ℕ} where
  pub live_reports : (list after base : List ℕ) (n : ℕ) → base ≡ [] → log_count words ≤ length list
      → n ≡ length (live_numbers (def_at words bytes) base (chain_of words c.defs.first))
      → after ≡ fitted list (live_numbers (def_at words bytes) base (chain_of words c.defs.first))
      → Reports c d words bytes w b (take n after) (check_defs (said c words bytes) (map (def_at words bytes) (take n after)))
      → ReportsLive c d words bytes w b
  unfolding read_defs
  live_reports list after base n z m f e h =
      let chain = chain_of words c.defs.first in
      let found = live_numbers (def_at words bytes) [] chain in
      let f' : n ≡ length found = rw z at f in
      let e' : after ≡ fitted list found = rw z at e in
      let fits : length found ≤ length list = omega (arith, live_room words bytes [] c.defs.first n f') in
      let t : take n after ≡ found = ap (take n) (e' ∙ sym (fitted_full list found fits)) ∙ written_start list found n f' in
      rw (← live_numbers_lem (def_at words bytes) [] chain) (reports_under (rw t at h)
      (λ k s rep y a. all_live (def_at words bytes) [] (defs_still rep y)))

  -- as what lowering does to the log, but for an overlay
  pub phandles_lower : sets_overlay (read_defs words bytes c.defs.first) ≡ false
      → ReportsLive c d words bytes w b
      → Lowers c d words bytes w b (λ (s : State). emit (check_references s) s)
  unfolding check_references said
  phandles_lower o h =
      reports_lower (λ (s : State). check_references s) h
      (λ k s rep z.
      let q = represents_defs rep z in
      let p : sets_overlay s.defs ≡ false = ap sets_overlay (sym q) ∙ o in (
        all_none,
        rw p (defs_alike (said c words bytes) s (represents_bindings rep z) q (live [] (read_defs words bytes c.defs.first))
            ∙ ap (λ (ds : List Def). check_defs s (live [] ds)) q),
      ))

pub phandles_none : {c : LowerCtx} {words bytes : List ℕ} → sets_overlay (read_defs words bytes c.defs.first) ≡ true
    → Lowers c c words bytes words bytes (λ (s : State). emit (check_references s) s)
unfolding check_references
phandles_none {c} {words} {bytes} o =
    reports_lower (λ (s : State). check_references s) (reports_none c words bytes [])
    (λ k s rep z.
    let p : sets_overlay s.defs ≡ true = ap sets_overlay (sym (represents_defs rep z)) ∙ o in
    (all_none, rw p refl))
