-- The state of lowering: the log in hand (its definitions and extensions, in the order made), the bindings and the diagnostics, which are
-- one list for all logs, and row 7's counts of records and bytes made.
use Rattle.std.specs.Prelude.{ℕ, ◌+◌, List, [], ◌∷◌, ◌++◌, length}
use Rattle.paths_numbers.specs.meaning.Reference.{Target, label, label_path, path, unreadable}
use Rattle.definition_log.specs.meaning.Contents.{Cell, number, reference, Value, string, cell_list, bytestring, phandle, DefValue, node}
use Rattle.definition_log.specs.meaning.Contents.{property}
use Rattle.definition_log.specs.meaning.Contents.{deleted_node, deleted_property, version, plugin, Def, Ext, Binding, Diag}

pub record State : Type 0 where
  pub defs : List Def
  pub exts : List Ext
  pub binds : List Binding
  pub diags : List Diag
  pub records : ℕ
  pub bytes : ℕ

-- the empty log; record 0 counts
abbrev pub start : State
start = record { defs = []; exts = []; binds = []; diags = []; records = 1; bytes = 0 }

-- row 7: the bytes of a reference's texts
abbrev pub target_bytes : Target → ℕ
target_bytes (label l) = length l
target_bytes (label_path l p) = length l + length p
target_bytes (path p) = length p
target_bytes unreadable = 0

-- a cell is one record
abbrev pub cell_bytes : Cell → ℕ
cell_bytes (number n) = 0
cell_bytes (reference t) = target_bytes t

unfoldable pub cells_bytes : List Cell → ℕ
cells_bytes [] = 0
cells_bytes (c ∷ cs) = cell_bytes c + cells_bytes cs

-- a value is one record, and one more for each cell
abbrev pub value_records : Value → ℕ
value_records (string s) = 1
value_records (cell_list w cs) = 1 + length cs
value_records (bytestring b) = 1
value_records (phandle t) = 1

abbrev pub value_bytes : Value → ℕ
value_bytes (string s) = length s
value_bytes (cell_list w cs) = cells_bytes cs
value_bytes (bytestring b) = length b
value_bytes (phandle t) = target_bytes t

unfoldable pub values_records : List Value → ℕ
values_records [] = 0
values_records (v ∷ vs) = value_records v + values_records vs

unfoldable pub values_bytes : List Value → ℕ
values_bytes [] = 0
values_bytes (v ∷ vs) = value_bytes v + values_bytes vs

-- labels are records with a text each
unfoldable pub texts_bytes : List (List ℕ) → ℕ
texts_bytes [] = 0
texts_bytes (t ∷ ts) = length t + texts_bytes ts

abbrev pub part_records : DefValue → ℕ
part_records (node ls o) = length ls
part_records (property vs) = values_records vs
part_records deleted_node = 0
part_records deleted_property = 0
part_records version = 0
part_records plugin = 0

abbrev pub part_bytes : DefValue → ℕ
part_bytes (node ls o) = texts_bytes ls
part_bytes (property vs) = values_bytes vs
part_bytes deleted_node = 0
part_bytes deleted_property = 0
part_bytes version = 0
part_bytes plugin = 0

-- a definition made: itself and its parts
unfoldable pub define : Def → State → State
define d s =
    record {
      defs = s.defs ++ d ∷ [];
      exts = s.exts;
      binds = s.binds;
      diags = s.diags;
      records = s.records + (1 + part_records d.value);
      bytes = s.bytes + (length d.path + part_bytes d.value);
    }

-- bindings made
unfoldable pub bindings_bytes : List Binding → ℕ
bindings_bytes [] = 0
bindings_bytes (b ∷ bs) = length b.label + length b.path + bindings_bytes bs

unfoldable pub bind : List Binding → State → State
bind bs s =
    record {
      defs = s.defs;
      exts = s.exts;
      binds = s.binds ++ bs;
      diags = s.diags;
      records = s.records + length bs;
      bytes = s.bytes + bindings_bytes bs;
    }

-- diagnostics made
unfoldable pub diags_bytes : List Diag → ℕ
diags_bytes [] = 0
diags_bytes (d ∷ ds) = length d.text + diags_bytes ds

unfoldable pub emit : List Diag → State → State
emit ds s =
    record {
      defs = s.defs;
      exts = s.exts;
      binds = s.binds;
      diags = s.diags ++ ds;
      records = s.records + length ds;
      bytes = s.bytes + diags_bytes ds;
    }

-- a log of its own for a body
unfoldable pub apart : State → State
apart s =
    record { defs = []; exts = []; binds = s.binds; diags = s.diags; records = s.records; bytes = s.bytes }

-- after the body: its log dropped
unfoldable pub dropped : State → State → State
dropped s t =
    record { defs = s.defs; exts = s.exts; binds = t.binds; diags = t.diags; records = t.records; bytes = t.bytes }

-- or kept: the extensions that it holds, then the extension itself, with its reference
unfoldable pub extended : Ext → State → State → State
extended e s t =
    record {
      defs = s.defs;
      exts = s.exts ++ t.exts ++ e ∷ [];
      binds = t.binds;
      diags = t.diags;
      records = t.records + 2;
      bytes = t.bytes + target_bytes e.target;
    }
