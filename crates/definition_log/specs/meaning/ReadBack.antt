-- What a log says, read back from its words and bytes by following links. Every log reads as something, also one that breaks row 8's rules:
-- a chain ends at a link that is 0 or leads out of the log, and after as many records as the log can have. A kind that has no place in its
-- chain reads as a version directive among definitions, as a string among values, as a number among cells; a reference whose N is none of
-- 01's, and one that is missing, as an unreadable one. No log that keeps the rules for writing has any of these.
use Rattle.std.specs.Prelude.{ℕ, zero, suc, ◌+◌, ◌*◌, ◌^◌, not, cond, List, [], ◌∷◌, map, eqb}
use Rattle.paths_numbers.specs.meaning.Reference.{Target, label, label_path, path, unreadable}
use Rattle.definition_log.specs.meaning.Contents.{Span, Cell, number, reference, Value, string, cell_list, bytestring, phandle, DefValue}
use Rattle.definition_log.specs.meaning.Contents.{node}
use Rattle.definition_log.specs.meaning.Contents.{property, deleted_node, deleted_property, version, plugin, Def, Ext, Binding, Diag}
use Rattle.definition_log.specs.meaning.Record.{kind_of, next_of, child_of, n_of, m_of, span_start, span_end, name_start, name_end}
use Rattle.definition_log.specs.meaning.Record.{first_def, first_ext}
use Rattle.definition_log.specs.meaning.Record.{first_bind, first_diag, first_post, node_kind, property_kind, deleted_node_kind}
use Rattle.definition_log.specs.meaning.Record.{deleted_property_kind}
use Rattle.definition_log.specs.meaning.Record.{plugin_kind, cell_list_kind, bytestring_kind, reference_kind, first_text, second_text}
use Rattle.definition_log.specs.meaning.Record.{log_count, leads}

-- the record numbers of the chain that starts at r
unfoldable pub chain_from : ℕ → List ℕ → ℕ → List ℕ
chain_from zero words r = []
chain_from (suc left) words r = cond (leads words r) (r ∷ chain_from left words (next_of words r)) []

unfoldable pub chain_of : List ℕ → ℕ → List ℕ
chain_of words r = chain_from (log_count words) words r

abbrev pub span_at : List ℕ → ℕ → Span
span_at words r = record { from = span_start words r; to = span_end words r }

abbrev pub name_span_at : List ℕ → ℕ → Span
name_span_at words r = record { from = name_start words r; to = name_end words r }

-- "12 reference (N 1 label, 2 label and path, 3 path; label in the first text, path in the second)"
unfoldable pub target_at : List ℕ → List ℕ → ℕ → Target
target_at words bytes r =
    cond (eqb (n_of words r) 1) (label (first_text words bytes r))
    (cond (eqb (n_of words r) 2) (label_path (first_text words bytes r) (second_text words bytes r))
    (cond (eqb (n_of words r) 3) (path (second_text words bytes r))
    unreadable))

-- labels: "7 label"
unfoldable pub read_labels : List ℕ → List ℕ → ℕ → List (List ℕ)
read_labels words bytes first = map (first_text words bytes) (chain_of words first)

-- cells: "11 number (N low, M high word)" and references
unfoldable pub cell_at : List ℕ → List ℕ → ℕ → Cell
cell_at words bytes r =
    cond (eqb (kind_of words r) reference_kind) (reference (target_at words bytes r)) (number (n_of words r + m_of words r * 2 ^ 32))

unfoldable pub read_cells : List ℕ → List ℕ → ℕ → List Cell
read_cells words bytes first = map (cell_at words bytes) (chain_of words first)

-- values: "8 string, 9 cell list (N width, child cells), 10 bytestring" and references
unfoldable pub value_at : List ℕ → List ℕ → ℕ → Value
value_at words bytes r =
    cond (eqb (kind_of words r) cell_list_kind) (cell_list (n_of words r) (read_cells words bytes (child_of words r)))
    (cond (eqb (kind_of words r) bytestring_kind) (bytestring (first_text words bytes r))
    (cond (eqb (kind_of words r) reference_kind) (phandle (target_at words bytes r))
    (string (first_text words bytes r))))

unfoldable pub read_values : List ℕ → List ℕ → ℕ → List Value
read_values words bytes first = map (value_at words bytes) (chain_of words first)

-- definitions: "1 node (child labels, N omit), 2 property (child values), 3 deleted node, 4 deleted property, 5 version, 6 plugin"
unfoldable pub def_value_at : List ℕ → List ℕ → ℕ → DefValue
def_value_at words bytes r =
    cond (eqb (kind_of words r) node_kind) (node (read_labels words bytes (child_of words r)) (not (eqb (n_of words r) 0)))
    (cond (eqb (kind_of words r) property_kind) (property (read_values words bytes (child_of words r)))
    (cond (eqb (kind_of words r) deleted_node_kind) deleted_node
    (cond (eqb (kind_of words r) deleted_property_kind) deleted_property
    (cond (eqb (kind_of words r) plugin_kind) plugin
    version))))

-- "A definition's path is its first text"
unfoldable pub def_at : List ℕ → List ℕ → ℕ → Def
def_at words bytes r =
    record {
      path = first_text words bytes r;
      value = def_value_at words bytes r;
      span = span_at words r;
      name_span = name_span_at words r;
    }

unfoldable pub read_defs : List ℕ → List ℕ → ℕ → List Def
read_defs words bytes first = map (def_at words bytes) (chain_of words first)

-- extensions: "13 extension (child reference, M body …)"
abbrev pub ext_target : List ℕ → List ℕ → ℕ → Target
ext_target words bytes r = cond (leads words r) (target_at words bytes r) unreadable

unfoldable pub ext_at : List ℕ → List ℕ → ℕ → Ext
ext_at words bytes r =
    record {
      target = ext_target words bytes (child_of words r);
      body = read_defs words bytes (m_of words r);
      span = span_at words r;
      name_span = name_span_at words r;
    }

unfoldable pub read_exts : List ℕ → List ℕ → ℕ → List Ext
read_exts words bytes first = map (ext_at words bytes) (chain_of words first)

-- bindings: "14 binding (label, path)"
unfoldable pub binding_at : List ℕ → List ℕ → ℕ → Binding
binding_at words bytes r =
    record { label = first_text words bytes r; path = second_text words bytes r; span = span_at words r }

unfoldable pub read_bindings : List ℕ → List ℕ → ℕ → List Binding
read_bindings words bytes first = map (binding_at words bytes) (chain_of words first)

-- diagnostics: "15 diagnostic (N code; text …; name span …)"
unfoldable pub diag_at : List ℕ → List ℕ → ℕ → Diag
diag_at words bytes r =
    record { code = n_of words r; text = first_text words bytes r; span = span_at words r; name_span = name_span_at words r }

unfoldable pub read_diags : List ℕ → List ℕ → ℕ → List Diag
read_diags words bytes first = map (diag_at words bytes) (chain_of words first)

-- a whole log: record 0's five chains
pub record Log : Type 0 where
  pub defs : List Def
  pub exts : List Ext
  pub binds : List Binding
  pub diags : List Diag
  pub post : List Diag

unfoldable pub read_log : List ℕ → List ℕ → Log
read_log words bytes =
    record {
      defs = read_defs words bytes (first_def words);
      exts = read_exts words bytes (first_ext words);
      binds = read_bindings words bytes (first_bind words);
      diags = read_diags words bytes (first_diag words);
      post = read_diags words bytes (first_post words);
    }
