-- The log in the making reads back as what its records say: definitions, extensions, bindings and diagnostics.
use Prim.Native.Nat.{ℕ, ◌+◌, ◌≤◌, ◌<◌}
use mathlib.Core.Path.{◌≡◌, refl, sym, ap, ◌∙◌}
use mathlib.Core.Bool.{true}
use mathlib.Core.List.{List, [], ◌∷◌, map}
use native.Mathlib.Omega.{arith}
use borrow.Author.Tests.{eqb-true}
use lib.ListN.{length}
use Rattle.paths_numbers.proofs.Texts.{by_test, both}
use Rattle.definition_log.specs.meaning.Record.{kind_of, child_of, n_of, m_of, span_start, span_end, name_start, name_end, text_start}
use Rattle.definition_log.specs.meaning.Record.{text_length, second_start}
use Rattle.definition_log.specs.meaning.Record.{second_length, first_text, second_text, log_count}
use Rattle.definition_log.specs.meaning.ReadBack.{chain_of, span_at, name_span_at, target_at, read_labels, cell_at, read_cells, value_at}
use Rattle.definition_log.specs.meaning.ReadBack.{read_values}
use Rattle.definition_log.specs.meaning.ReadBack.{def_value_at, def_at, read_defs, binding_at, read_bindings, diag_at, read_diags}
use Rattle.definition_log.specs.meaning.ReadBack.{ext_target, ext_at, read_exts}
use Rattle.making.specs.machine.Events.{Event, Ordered, ordered_none, ordered_next, children_of, defs_of, in_chain, first, words16}
use Rattle.making.specs.machine.Events.{bytes_in, Numbered, members, all_words, all_bytes, start_of, span_of, name_span_of, target_of}
use Rattle.making.specs.machine.Events.{below}
use Rattle.making.specs.machine.Events.{label_of, cell_of, value_of, def_value_of, def_of, defs_in, binding_of, diag_of, target_below}
use Rattle.making.specs.machine.Events.{ext_of}
use Rattle.making.proofs.ReadEvents.{Splits, splits_here, splits_later, splits_from, field_at, numbers_of, leads_there, chain_members}
use Rattle.making.proofs.ReadEvents.{text_at_lem, second_at_lem}

-- so that the first child of a record is found behind it
pub first_behind : {k at r b : ℕ} {xs es : List Event} {e : Event} → Ordered k xs → Splits k at xs r b e es
    → first (children_of r) k xs ≡ first (children_of r) (r + 1) es
unfolding first
first_behind {r = r} (ordered_next {e = e} o h) splits_here =
    by_test (in_chain (children_of r) e)
    (λ t. absurd (omega (arith, o r (eqb-true e.chain (children_of r) (both e.alive _ t).1))))
    (λ t. rw t refl)
first_behind {k} {r = r} (ordered_next {e = x} o h) (splits_later s) =
    by_test (in_chain (children_of r) x)
    (λ t. absurd (omega (arith, o r (eqb-true x.chain (children_of r) (both x.alive _ t).1), splits_from s)))
    (λ t. rw t (first_behind h s))
first_behind ordered_none s = elim s [ ]

-- a chain mapped by number is the chain mapped by record
map_chain : {B : Type 0} (f : ℕ → B) (g : Numbered → B) (c k at : ℕ) (es : List Event)
    → ((r b : ℕ) (e : Event) (later : List Event) → Splits k at es r b e later → in_chain c e ≡ true
    → f r ≡ g (record { number = r; event = e }))
    → map f (numbers_of (members c k es)) ≡ map g (members c k es)
unfolding members numbers_of
map_chain f g c k at [] h = refl
map_chain f g c k at (x ∷ es) h =
    let more = map_chain f g c (k + 1) (at + bytes_in x) es (λ r b e later s t. h r b e later (splits_later s) t) in
    by_test (in_chain c x)
    (λ t. rw t (cc (h k at x es splits_here t, more)))
    (λ t. rw t more)

map_members : {B : Type 0} (f : ℕ → B) (g : Numbered → B) (c k at : ℕ) (es : List Event)
    → ((r b : ℕ) (e : Event) (later : List Event) → Splits k at es r b e later → e.alive ≡ true
    → f r ≡ g (record { number = r; event = e }))
    → map f (numbers_of (members c k es)) ≡ map g (members c k es)
map_members f g c k at es h = map_chain f g c k at es (λ r b e later s t. h r b e later s (both e.alive _ t).0)

module _ (head : List ℕ) (sixteen : length head ≡ 16) (es : List Event) (room more : ℕ)
    (fits : 1 + length es ≤ log_count (all_words head es room)) (ordered : Ordered 1 es) where
  abbrev words : List ℕ
  words = all_words head es room

  abbrev bytes : List ℕ
  bytes = all_bytes es more

  -- a chain by its first record
  pub chain_of_lem : (c : ℕ) → chain_of words (first c 1 es) ≡ numbers_of (members c 1 es)
  unfolding chain_of
  chain_of_lem c = chain_members head sixteen es room c (log_count words) 1 0 es (omega arith) (omega arith) (omega arith) (λ r b e later s. s)

  -- the words of a record that is there
  module _ {r b : ℕ} {e : Event} {later : List Event} (s : Splits 1 0 es r b e later) (t : e.alive ≡ true) where
    pub kind_at : kind_of words r ≡ e.kind
    unfolding words16
    kind_at = field_at head sixteen es room s 0 (omega arith) ∙ rw t refl

    pub n_at : n_of words r ≡ e.n
    unfolding words16
    n_at = field_at head sixteen es room s 7 (omega arith) ∙ rw t refl

    pub m_at : m_of words r ≡ e.m
    unfolding words16
    m_at = field_at head sixteen es room s 8 (omega arith) ∙ rw t refl

    pub span_at_lem : span_at words r ≡ span_of e
    unfolding words16
    span_at_lem =
        let x : span_start words r ≡ e.from = field_at head sixteen es room s 9 (omega arith) ∙ rw t refl in
        let y : span_end words r ≡ e.to = field_at head sixteen es room s 10 (omega arith) ∙ rw t refl in
        rw (x, y) refl

    pub name_span_at_lem : name_span_at words r ≡ name_span_of e
    unfolding words16
    name_span_at_lem =
        let x : name_start words r ≡ e.name_from = field_at head sixteen es room s 11 (omega arith) ∙ rw t refl in
        let y : name_end words r ≡ e.name_to = field_at head sixteen es room s 12 (omega arith) ∙ rw t refl in
        rw (x, y) refl

    pub first_text_at : first_text words bytes r ≡ e.text
    unfolding words16
    first_text_at =
        let x : text_start words r ≡ start_of b e.text = field_at head sixteen es room s 2 (omega arith) ∙ rw t refl in
        let y : text_length words r ≡ length e.text = field_at head sixteen es room s 3 (omega arith) ∙ rw t refl in
        rw (x, y) (text_at_lem es more s t)

    pub second_text_at : second_text words bytes r ≡ e.second
    unfolding words16
    second_text_at =
        let x : second_start words r ≡ start_of (b + length e.text) e.second = field_at head sixteen es room s 4 (omega arith)
        ∙ rw t refl in
        let y : second_length words r ≡ length e.second = field_at head sixteen es room s 5 (omega arith) ∙ rw t refl in
        rw (x, y) (second_at_lem es more s t)

    -- its children
    pub child_at_lem : child_of words r ≡ first (children_of r) 1 es
    unfolding words16
    child_at_lem = field_at head sixteen es room s 6 (omega arith) ∙ rw t (sym (first_behind ordered s))

    below_at : chain_of words (child_of words r) ≡ numbers_of (below es r)
    below_at = ap (λ (k : ℕ). chain_of words k) child_at_lem ∙ chain_of_lem (children_of r)

    -- what it says
    target_at_lem : target_at words bytes r ≡ target_of e
    unfolding target_at target_of
    target_at_lem = rw (n_at, first_text_at, second_text_at) refl

    cell_at_lem : cell_at words bytes r ≡ cell_of (record { number = r; event = e })
    unfolding cell_at cell_of
    cell_at_lem = rw (kind_at, n_at, m_at, target_at_lem) refl

  -- labels, cells, values and definitions by their chains
  labels_read : (r : ℕ) → map (first_text words bytes) (numbers_of (below es r)) ≡ map label_of (below es r)
  labels_read r = map_members (first_text words bytes) label_of (children_of r) 1 0 es (λ r b e later s t. first_text_at s t)

  cells_read : (r : ℕ) → map (cell_at words bytes) (numbers_of (below es r)) ≡ map cell_of (below es r)
  cells_read r = map_members (cell_at words bytes) cell_of (children_of r) 1 0 es (λ r b e later s t. cell_at_lem s t)

  value_at_lem : {r b : ℕ} {e : Event} {later : List Event} → Splits 1 0 es r b e later → e.alive ≡ true
      → value_at words bytes r ≡ value_of es (record { number = r; event = e })
  unfolding value_at value_of read_cells
  value_at_lem {r} s t = rw (kind_at s t, n_at s t, first_text_at s t, target_at_lem s t, below_at s t, cells_read r) refl

  values_read : (r : ℕ) → map (value_at words bytes) (numbers_of (below es r)) ≡ map (value_of es) (below es r)
  values_read r = map_members (value_at words bytes) (value_of es) (children_of r) 1 0 es (λ r b e later s t. value_at_lem s t)

  def_at_lem : {r b : ℕ} {e : Event} {later : List Event} → Splits 1 0 es r b e later → e.alive ≡ true
      → def_at words bytes r ≡ def_of es (record { number = r; event = e })
  unfolding def_at def_of def_value_at def_value_of read_labels read_values
  def_at_lem {r} s t =
      rw (kind_at s t, n_at s t, first_text_at s t, span_at_lem s t, name_span_at_lem s t, below_at s t, labels_read r, values_read r) refl

  -- the definitions of a log
  pub defs_read : (log : ℕ) → read_defs words bytes (first (defs_of log) 1 es) ≡ defs_in log es
  unfolding read_defs defs_in
  defs_read log =
      rw (chain_of_lem (defs_of log)) (map_members (def_at words bytes) (def_of es) (defs_of log) 1 0 es (λ r b e later s t. def_at_lem s t))

  -- the bindings
  pub bindings_read : (c : ℕ) → read_bindings words bytes (first c 1 es) ≡ map binding_of (members c 1 es)
  unfolding read_bindings binding_at
  bindings_read c =
      rw (chain_of_lem c) (map_members (binding_at words bytes) binding_of c 1 0 es
      (λ r b e later s t. rw (first_text_at s t, second_text_at s t, span_at_lem s t) refl))

  -- the diagnostics of a chain
  pub diags_read : (c : ℕ) → read_diags words bytes (first c 1 es) ≡ map diag_of (members c 1 es)
  unfolding read_diags diag_at
  diags_read c =
      rw (chain_of_lem c) (map_members (diag_at words bytes) diag_of c 1 0 es
      (λ r b e later s t. rw (n_at s t, first_text_at s t, span_at_lem s t, name_span_at_lem s t) refl))

  -- the reference below an extension
  target_read : (c k at : ℕ) (later : List Event) → 0 < k → k + length later ≤ log_count words
      → ((r b : ℕ) (e : Event) (ys : List Event) → Splits k at later r b e ys → Splits 1 0 es r b e ys)
      → ext_target words bytes (first c k later) ≡ target_below (members c k later)
  unfolding first members
  target_read c k at [] p h inj = refl
  target_read c k at (x ∷ later) p h inj =
      by_test (in_chain c x)
      (λ t.
      rw (t, leads_there words k p (omega arith)) (target_at_lem (inj k at x later splits_here) (both x.alive _ t).0))
      (λ t. rw t (target_read c (k + 1) (at + bytes_in x) later (omega arith) (omega arith) (λ r b e ys s. inj r b e ys (splits_later s))))

  -- the extensions of a chain, whose bodies are logs of their own
  pub exts_read : (c : ℕ) → ((r b : ℕ) (e : Event) (later : List Event) → Splits 1 0 es r b e later → in_chain c e ≡ true
      → e.m ≡ first (defs_of e.log) 1 es)
      → read_exts words bytes (first c 1 es) ≡ map (ext_of es) (members c 1 es)
  unfolding read_exts ext_at ext_of
  exts_read c bodies =
      rw (chain_of_lem c)
      (map_chain (ext_at words bytes) (ext_of es) c 1 0 es
      (λ r b e later s u.
      let t = (both e.alive _ u).0 in
      rw (
        child_at_lem s t,
        target_read (children_of r) 1 0 es (omega arith) fits (λ r b e ys s. s),
        m_at s t,
        bodies r b e later s u,
        defs_read
            e.log,
        span_at_lem s t,
        name_span_at_lem s t,
      )
      refl))
