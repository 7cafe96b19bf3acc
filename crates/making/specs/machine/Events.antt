-- The log in the making, as the list of the records made so far, in order: record number k is the k-th, from 1. This is how the code's
-- words are told apart, and not what a reader must believe: contracts above cite what is read back (Contents of log).
use Rattle.std.specs.Prelude.{ℕ, ◌+◌, ◌*◌, ◌^◌, ◌<◌, ◌≡◌, Bool, false, not, cond, List, [], ◌∷◌, ◌++◌, map, eqb, length, replicate}
use Rattle.paths_numbers.specs.meaning.Text.{is_empty}
use Rattle.paths_numbers.specs.meaning.Reference.{Target, label, label_path, path, unreadable}
use Rattle.definition_log.specs.meaning.Contents.{Span, Cell, number, reference, Value, string, cell_list, bytestring, phandle, DefValue}
use Rattle.definition_log.specs.meaning.Contents.{node}
use Rattle.definition_log.specs.meaning.Contents.{property, deleted_node, deleted_property, version, plugin, Def, Ext, Binding, Diag}
use Rattle.definition_log.specs.meaning.Record.{node_kind, property_kind, deleted_node_kind, deleted_property_kind, plugin_kind}
use Rattle.definition_log.specs.meaning.Record.{cell_list_kind, bytestring_kind}
use Rattle.definition_log.specs.meaning.Record.{reference_kind}

-- a record made: the chain that it stands in, its words, its texts, and whether it is still there
pub record Event : Type 0 where
  pub chain : ℕ
  pub kind : ℕ
  pub text : List ℕ
  pub second : List ℕ
  pub n : ℕ
  pub m : ℕ
  pub from : ℕ
  pub to : ℕ
  pub name_from : ℕ
  pub name_to : ℕ
  -- of an extension: the log of its own whose definitions are its body
  pub log : ℕ
  pub alive : Bool

-- chains by number: the definitions and the extensions of a log, the bindings, the diagnostics of lowering and of the post checks, and the
-- children of a record
abbrev pub defs_of : ℕ → ℕ
defs_of log = 8 * log

abbrev pub exts_of : ℕ → ℕ
exts_of log = 8 * log + 1

abbrev pub bindings : ℕ
bindings = 2

abbrev pub diagnostics : ℕ
diagnostics = 3

abbrev pub post_diagnostics : ℕ
post_diagnostics = 4

abbrev pub children_of : ℕ → ℕ
children_of r = 8 * r + 5

-- whether a record is still there and in a chain
abbrev pub in_chain : ℕ → Event → Bool
in_chain c e = cond e.alive (eqb e.chain c) false

-- the first record of a chain, in a list whose records are numbered from k on; 0 where there is none
unfoldable pub first : ℕ → ℕ → List Event → ℕ
first c k [] = 0
first c k (e ∷ es) = cond (in_chain c e) k (first c (k + 1) es)

-- the last
unfoldable pub last : ℕ → ℕ → List Event → ℕ
last c k [] = 0
last c k (e ∷ es) = cond (eqb (last c (k + 1) es) 0) (cond (in_chain c e) k 0) (last c (k + 1) es)

-- where a text starts: an empty one at 0
abbrev pub start_of : ℕ → List ℕ → ℕ
start_of at text = cond (is_empty text) 0 at

-- the sixteen words of record k, whose texts start at `at`, with what comes after it
abbrev pub alive16 : ℕ → ℕ → Event → List Event → List ℕ
alive16 k at e es =
    e.kind
    ∷ first e.chain (k + 1) es
    ∷ start_of at e.text
    ∷ length e.text
    ∷ start_of (at + length e.text) e.second
    ∷ length e.second
    ∷ first (children_of k) (k + 1) es
    ∷ e.n
    ∷ e.m
    ∷ e.from
    ∷ e.to
    ∷ e.name_from
    ∷ e.name_to
    ∷ 0
    ∷ 0
    ∷ 0
    ∷ []

unfoldable pub words16 : ℕ → ℕ → Event → List Event → List ℕ
words16 k at e es = cond e.alive (alive16 k at e es) (replicate 16 0)

-- how many bytes a record's texts take
abbrev pub bytes_in : Event → ℕ
bytes_in e = length e.text + length e.second

-- the words of all records
unfoldable pub words_from : ℕ → ℕ → List Event → List ℕ
words_from k at [] = []
words_from k at (e ∷ es) = words16 k at e es ++ words_from (k + 1) (at + bytes_in e) es

-- the bytes of all texts
unfoldable pub texts : List Event → List ℕ
texts [] = []
texts (e ∷ es) = cond e.alive (e.text ++ e.second) (replicate (bytes_in e) 0) ++ texts es

-- where the records' texts end
unfoldable pub end_of : ℕ → List Event → ℕ
end_of at [] = at
end_of at (e ∷ es) = end_of (at + bytes_in e) es

-- records stand behind the record whose children they are
pub data Ordered : ℕ → List Event → Type 0 where
  ordered_none : {k : ℕ} → Ordered k []
  ordered_next : {k : ℕ} {e : Event} {es : List Event} → ((r : ℕ) → e.chain ≡ children_of r → r < k) → Ordered (k + 1) es
      → Ordered k (e ∷ es)

-- a record with its number
pub record Numbered : Type 0 where
  pub number : ℕ
  pub event : Event

-- the records of a chain, in order
unfoldable pub members : ℕ → ℕ → List Event → List Numbered
members c k [] = []
members c k (e ∷ es) = cond (in_chain c e) (record { number = k; event = e } ∷ members c (k + 1) es) (members c (k + 1) es)

-- all words: record 0, the records made, and zeros behind them
unfoldable pub all_words : List ℕ → List Event → ℕ → List ℕ
all_words head es room = head ++ (words_from 1 0 es ++ replicate room 0)

-- all bytes: the texts, and zeros behind them
unfoldable pub all_bytes : List Event → ℕ → List ℕ
all_bytes es room = texts es ++ replicate room 0

-- what the records say: a reference
unfoldable pub target_of : Event → Target
target_of e =
    cond (eqb e.n 1) (label e.text)
    (cond (eqb e.n 2) (label_path e.text e.second)
    (cond (eqb e.n 3) (path e.second)
    unreadable))

abbrev pub span_of : Event → Span
span_of e = record { from = e.from; to = e.to }

abbrev pub name_span_of : Event → Span
name_span_of e = record { from = e.name_from; to = e.name_to }

-- the children of a record
abbrev pub below : List Event → ℕ → List Numbered
below es r = members (children_of r) 1 es

-- a label, a cell, a value, a definition
abbrev pub label_of : Numbered → List ℕ
label_of x = x.event.text

unfoldable pub cell_of : Numbered → Cell
cell_of x =
    cond (eqb x.event.kind reference_kind) (reference (target_of x.event)) (number (x.event.n + x.event.m * 2 ^ 32))

unfoldable pub value_of : List Event → Numbered → Value
value_of es x =
    cond (eqb x.event.kind cell_list_kind) (cell_list x.event.n (map cell_of (below es x.number)))
    (cond (eqb x.event.kind bytestring_kind) (bytestring x.event.text)
    (cond (eqb x.event.kind reference_kind) (phandle (target_of x.event))
    (string x.event.text)))

unfoldable pub def_value_of : List Event → Numbered → DefValue
def_value_of es x =
    cond (eqb x.event.kind node_kind) (node (map label_of (below es x.number)) (not (eqb x.event.n 0)))
    (cond (eqb x.event.kind property_kind) (property (map (value_of es) (below es x.number)))
    (cond (eqb x.event.kind deleted_node_kind) deleted_node
    (cond (eqb x.event.kind deleted_property_kind) deleted_property
    (cond (eqb x.event.kind plugin_kind) plugin
    version))))

unfoldable pub def_of : List Event → Numbered → Def
def_of es x =
    record { path = x.event.text; value = def_value_of es x; span = span_of x.event; name_span = name_span_of x.event }

-- the definitions of a log, the bindings and the diagnostics
unfoldable pub defs_in : ℕ → List Event → List Def
defs_in log es = map (def_of es) (members (defs_of log) 1 es)

abbrev pub binding_of : Numbered → Binding
binding_of x = record { label = x.event.text; path = x.event.second; span = span_of x.event }

abbrev pub diag_of : Numbered → Diag
diag_of x = record { code = x.event.n; text = x.event.text; span = span_of x.event; name_span = name_span_of x.event }

-- an extension: the reference below it, and the definitions of its own log
abbrev pub target_below : List Numbered → Target
target_below [] = unreadable
target_below (x ∷ xs) = target_of x.event

unfoldable pub ext_of : List Event → Numbered → Ext
ext_of es x =
    record {
      target = target_below (below es x.number);
      body = defs_in x.event.log es;
      span = span_of x.event;
      name_span = name_span_of x.event;
    }
