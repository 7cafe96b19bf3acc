-- What a record's words say of the definition that it is.
use Prim.Native.Nat.{ℕ, ◌≤◌, ◌<◌}
use mathlib.Core.Path.{◌≡◌, refl, sym, ◌∙◌}
use mathlib.Core.Bool.{Bool, true, false, cond}
use mathlib.Core.List.{List, []}
use native.Mathlib.Omega.{arith}
use borrow.Author.Tests.{eqb-true, eqb-false, eq-eqb, ne_eqb}
use lib.Dec.{eqb}
use Rattle.paths_numbers.specs.meaning.Text.{same}
use Rattle.paths_numbers.specs.meaning.Path.{at_or_under}
use Rattle.paths_numbers.proofs.Texts.{by_test}
use Rattle.definition_log.specs.meaning.Contents.{Value, DefValue, node, property, deleted_node, deleted_property, version, plugin}
use Rattle.definition_log.specs.meaning.Record.{kind_of, child_of, first_text, node_kind, property_kind, deleted_node_kind}
use Rattle.definition_log.specs.meaning.Record.{deleted_property_kind, plugin_kind}
use Rattle.definition_log.specs.meaning.ReadBack.{def_at, def_value_at, read_labels}
use Rattle.queries.specs.meaning.Kind.{is_node, is_property, is_deleted_node, is_deleted_property, is_plugin}
use Rattle.paths_numbers.specs.meaning.Lists.{any}
use Rattle.queries.specs.meaning.Live.{deletes, overwrites, node_at}
use Rattle.queries.specs.machine.Table.{deleted_at}
use Rattle.queries.specs.meaning.History.{defined_by}
use Rattle.queries.specs.meaning.Labels.{labels_in, has_label_at}

-- by which of the kinds a number is
pub by_kind : (P : ℕ → Type 0) (k : ℕ) → P node_kind → P property_kind → P deleted_node_kind → P deleted_property_kind → P plugin_kind
    → (eqb k node_kind ≡ false → eqb k property_kind ≡ false → eqb k deleted_node_kind ≡ false → eqb k deleted_property_kind ≡ false
    → eqb k plugin_kind ≡ false → P k)
    → P k
by_kind P k n p dn dp pl other =
    by_test (eqb k node_kind) (λ t. rw (eqb-true k _ t) n)
    (λ f1. by_test (eqb k property_kind) (λ t. rw (eqb-true k _ t) p)
    (λ f2. by_test (eqb k deleted_node_kind) (λ t. rw (eqb-true k _ t) dn)
    (λ f3. by_test (eqb k deleted_property_kind) (λ t. rw (eqb-true k _ t) dp)
    (λ f4. by_test (eqb k plugin_kind) (λ t. rw (eqb-true k _ t) pl)
    (λ f5. other f1 f2 f3 f4 f5)))))

-- what a definition of a kind is, with these labels, this omit mark and these values
abbrev pub value_of : List (List ℕ) → Bool → List Value → ℕ → DefValue
value_of ls o vs k =
    cond (eqb k node_kind) (node ls o)
    (cond (eqb k property_kind) (property vs)
    (cond (eqb k deleted_node_kind) deleted_node
    (cond (eqb k deleted_property_kind) deleted_property
    (cond (eqb k plugin_kind) plugin
    version))))

module _ (ls : List (List ℕ)) (o : Bool) (vs : List Value) (k : ℕ) where
  is_node_lem : is_node (value_of ls o vs k) ≡ eqb k node_kind
  is_node_lem =
      by_kind (λ (k : ℕ). is_node (value_of ls o vs k) ≡ eqb k node_kind) k refl refl refl refl refl
      (λ a b c d e. simp (a, b, c, d, e))

  is_property_lem : is_property (value_of ls o vs k) ≡ eqb k property_kind
  is_property_lem =
      by_kind (λ (k : ℕ). is_property (value_of ls o vs k) ≡ eqb k property_kind) k refl refl refl refl refl
      (λ a b c d e. simp (a, b, c, d, e))

  is_deleted_node_lem : is_deleted_node (value_of ls o vs k) ≡ eqb k deleted_node_kind
  is_deleted_node_lem =
      by_kind (λ (k : ℕ). is_deleted_node (value_of ls o vs k) ≡ eqb k deleted_node_kind) k refl refl refl refl refl
      (λ a b c d e. simp (a, b, c, d, e))

  is_deleted_property_lem : is_deleted_property (value_of ls o vs k) ≡ eqb k deleted_property_kind
  is_deleted_property_lem =
      by_kind (λ (k : ℕ). is_deleted_property (value_of ls o vs k) ≡ eqb k deleted_property_kind) k refl refl refl refl refl
      (λ a b c d e. simp (a, b, c, d, e))

  is_plugin_lem : is_plugin (value_of ls o vs k) ≡ eqb k plugin_kind
  is_plugin_lem =
      by_kind (λ (k : ℕ). is_plugin (value_of ls o vs k) ≡ eqb k plugin_kind) k refl refl refl refl refl
      (λ a b c d e. simp (a, b, c, d, e))

  labels_in_lem : labels_in (value_of ls o vs k) ≡ cond (eqb k node_kind) ls []
  labels_in_lem =
      by_kind (λ (k : ℕ). labels_in (value_of ls o vs k) ≡ cond (eqb k node_kind) ls []) k refl refl refl refl refl
      (λ a b c d e. simp (a, b, c, d, e))

module _ (words bytes : List ℕ) (r : ℕ) where
  -- its path is its first text
  pub path_at_lem : (def_at words bytes r).path ≡ first_text words bytes r
  unfolding def_at
  path_at_lem = refl

  -- and its kind decides what it is
  pub node_kind_lem : is_node (def_at words bytes r).value ≡ eqb (kind_of words r) node_kind
  unfolding def_at def_value_at
  node_kind_lem = is_node_lem _ _ _ (kind_of words r)

  pub property_kind_lem : is_property (def_at words bytes r).value ≡ eqb (kind_of words r) property_kind
  unfolding def_at def_value_at
  property_kind_lem = is_property_lem _ _ _ (kind_of words r)

  pub deleted_node_kind_lem : is_deleted_node (def_at words bytes r).value ≡ eqb (kind_of words r) deleted_node_kind
  unfolding def_at def_value_at
  deleted_node_kind_lem = is_deleted_node_lem _ _ _ (kind_of words r)

  pub deleted_property_kind_lem : is_deleted_property (def_at words bytes r).value ≡ eqb (kind_of words r) deleted_property_kind
  unfolding def_at def_value_at
  deleted_property_kind_lem = is_deleted_property_lem _ _ _ (kind_of words r)

  pub plugin_kind_lem : is_plugin (def_at words bytes r).value ≡ eqb (kind_of words r) plugin_kind
  unfolding def_at def_value_at
  plugin_kind_lem = is_plugin_lem _ _ _ (kind_of words r)

  -- only a node has labels, and they are its children
  pub labels_kind : labels_in (def_at words bytes r).value ≡ cond (eqb (kind_of words r) node_kind)
      (read_labels words bytes (child_of words r)) []
  unfolding def_at def_value_at
  labels_kind = labels_in_lem _ _ _ (kind_of words r)

  -- so that these tests are tests of its words
  pub node_at_lem : (path : List ℕ) → node_at path (def_at words bytes r) ≡ cond (eqb (kind_of words r) node_kind)
      (same (first_text words bytes r) path) false
  node_at_lem path = rw (node_kind_lem, path_at_lem) refl

  pub deletes_at : (path : List ℕ) → deletes path (def_at words bytes r) ≡ cond (eqb (kind_of words r) deleted_node_kind)
      (at_or_under path (first_text words bytes r)) false
  deletes_at path = rw (deleted_node_kind_lem, path_at_lem) refl

  pub deleted_at_lem : (path : List ℕ) → deleted_at path (def_at words bytes r) ≡ cond (eqb (kind_of words r) deleted_node_kind)
      (same (first_text words bytes r) path) false
  deleted_at_lem path = rw (deleted_node_kind_lem, path_at_lem) refl

  pub overwrites_at : (path : List ℕ) → overwrites path (def_at words bytes r) ≡ cond
      (cond (eqb (kind_of words r) property_kind) true (eqb (kind_of words r) deleted_property_kind)) (same (first_text words bytes r) path) false
  overwrites_at path = rw (property_kind_lem, deleted_property_kind_lem, path_at_lem) refl

  -- a definition with a label at a path is a node there
  pub label_at : (label path : List ℕ)
      → has_label_at label path (def_at words bytes r) ≡ cond (node_at path (def_at words bytes r))
      (any (same label) (read_labels words bytes (child_of words r))) false
  unfolding any
  label_at label path =
      rw (node_kind_lem, labels_kind, path_at_lem)
      (by_test (eqb (kind_of words r) node_kind)
      (λ t. rw t refl)
      (λ t. rw t (by_test (same (first_text words bytes r) path) (λ u. rw u refl) (λ u. rw u refl))))

-- whether a path is defined after a definition at it, by the definition's kind
abbrev defined_at : ℕ → Bool → Bool
defined_at k defined =
    cond (eqb k node_kind) true (cond (eqb k property_kind) true (cond (cond (eqb k deleted_node_kind) true (eqb k deleted_property_kind)) false
    defined))

defined_kind : (words bytes : List ℕ) (r : ℕ) (defined : Bool) → defined_by (def_at words bytes r) defined ≡ defined_at (kind_of words r)
    defined
defined_kind words bytes r defined =
    rw (node_kind_lem words bytes r, property_kind_lem words bytes r, deleted_node_kind_lem words bytes r, deleted_property_kind_lem words bytes r) refl

module _ (words bytes : List ℕ) (r : ℕ) (defined : Bool) (k : ℕ) (e : k ≡ kind_of words r) where
  -- a node or a property
  pub defines_it : node_kind ≤ k → k ≤ property_kind → true ≡ defined_by (def_at words bytes r) defined
  defines_it h l =
      sym
      (defined_kind words bytes r defined
      ∙ rw (← e)
      (by_test (eqb k node_kind) (λ t. rw t refl)
      (λ t. let n = eqb-false k node_kind t in rw (t, eq-eqb k property_kind (omega arith)) refl)))

  -- a deletion
  pub undefines_it : property_kind < k → k ≤ deleted_property_kind → false ≡ defined_by (def_at words bytes r) defined
  undefines_it h l =
      sym
      (defined_kind words bytes r defined
      ∙ rw (← e, ne_eqb k node_kind (λ z. omega arith), ne_eqb k property_kind (λ z. omega arith))
      (by_test (eqb k deleted_node_kind) (λ t. rw t refl)
      (λ t. let n = eqb-false k deleted_node_kind t in rw (t, eq-eqb k deleted_property_kind (omega arith)) refl)))

  -- any other
  pub leaves_it : (node_kind ≤ k → k ≤ deleted_property_kind → ⊥) → defined ≡ defined_by (def_at words bytes r) defined
  leaves_it h =
      sym
      (defined_kind words bytes r defined
      ∙ rw (
        ← e,
        ne_eqb k node_kind (λ z. h (omega arith) (omega arith)),
        ne_eqb k property_kind (λ z. h (omega arith) (omega arith)),
        ne_eqb
            k deleted_node_kind (λ z. h (omega arith) (omega arith)),
        ne_eqb k deleted_property_kind (λ z. h (omega arith) (omega arith)),
      )
      refl)
