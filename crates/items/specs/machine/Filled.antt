-- What lowering adds to the newest definition: values to a property, and cells to the last value, after what is reported on the way.
use Rattle.std.specs.Prelude.{ℕ, ◌+◌, ◌≡◌, Bool, true, cond, List, ◌++◌, length}
use Rattle.making.specs.declared.ctx.LowerCtx.{LowerCtx}
use Rattle.definition_log.specs.meaning.Contents.{Cell, Value, string, cell_list, bytestring, phandle, DefValue}
use Rattle.making.specs.meaning.State.{State, emit, values_records, values_bytes, cells_bytes}
use Rattle.making.specs.machine.Adding.{on_last, changed, on_values, in_property, in_cell_list}
use Rattle.making.specs.machine.Represents.{Context, Represents}
use Rattle.input.specs.meaning.Report.{Made}

-- a cell list with more cells
abbrev pub with_cells : List Cell → Value → Value
with_cells cs (string s) = string s
with_cells cs (cell_list w xs) = cell_list w (xs ++ cs)
with_cells cs (bytestring b) = bytestring b
with_cells cs (phandle t) = phandle t

-- the newest definition's value changed by so many parts, whose texts have so many bytes
unfoldable pub add_parts : (DefValue → DefValue) → ℕ → ℕ → State → State
add_parts f count size s =
    record {
      defs = on_last (changed f) s.defs;
      exts = s.exts;
      binds = s.binds;
      diags = s.diags;
      records = s.records + count;
      bytes = s.bytes + size;
    }

-- values at the end of the newest definition, cells at the end of its last value
abbrev pub add_values : List Value → State → State
add_values vs s = add_parts (on_values (λ l. l ++ vs)) (values_records vs) (values_bytes vs) s

abbrev pub add_cells : List Cell → State → State
add_cells cs s = add_parts (on_values (on_last (with_cells cs))) (length cs) (cells_bytes cs) s

-- what is reported, and what is made where it is kept
unfoldable pub filled : {A : Type 0} → (List A → State → State) → Bool → Made A → State → State
filled add keep m s = cond keep (add m.made (emit m.reports s)) (emit m.reports s)

-- from state c to state d, and from words and bytes to w and b; what is kept goes to a definition that passes a test
pub record Fills {A : Type 0} (test : State → Bool) (add : List A → State → State) (keep : Bool) (c d : LowerCtx) (words bytes w b : List ℕ)
    (m : Made A)
    : Type 0 where
  pub fills : (k : Context) (s : State) → Represents k c words bytes s → (keep ≡ true → test s ≡ true)
      → Represents k d w b (filled add keep m s)

abbrev pub FillsProperty : Bool → LowerCtx → LowerCtx → List ℕ → List ℕ → List ℕ → List ℕ → Made Value → Type 0
FillsProperty keep c d words bytes w b m = Fills in_property add_values keep c d words bytes w b m

abbrev pub FillsCells : Bool → LowerCtx → LowerCtx → List ℕ → List ℕ → List ℕ → List ℕ → Made Cell → Type 0
FillsCells keep c d words bytes w b m = Fills in_cell_list add_cells keep c d words bytes w b m
