-- What the reading of names answers, as the names and reports that it stands for.
use Rattle.std.specs.Prelude.{ℕ, ◌≡◌, Bool, true, false, List, [], ◌++◌, Result, Ok, Err, Some, None}
use Rattle.std.specs.Prelude.{Option as Maybe}
use Rattle.std.proofs.Math.Option.{Option, some, none}
use Rattle.paths_numbers.specs.meaning.Text.{is_empty}
use Rattle.input.specs.meaning.Report.{Got, found, failed}
use Rattle.input.specs.meaning.Name.{with_address, full_name}
use Rattle.input.specs.meaning.Input.{text_at, chain_at}
use Rattle.input.specs.meaning.GoodName.{good_names_in}
use Rattle.input.specs.machine.Reported.{reports_of}
use Rattle.input.specs.declared.report.Report.{Report}
use Rattle.input.specs.declared.name.FullName.{FullName}

-- a name's text, or what is reported in its place
abbrev pub name_read : List ℕ → List ℕ → Result ℕ Report → Got (List ℕ)
name_read words text (Ok r) = found (text_at words text r)
name_read words text (Err d) = failed (reports_of words text d)

-- the text alone, empty where there is none
abbrev pub name_text : List ℕ → List ℕ → Result ℕ Report → List ℕ
name_text words text (Ok r) = text_at words text r
name_text words text (Err d) = []

-- and that of the name in a unit address
abbrev pub unit_text : List ℕ → List ℕ → Maybe (Result ℕ Report) → List ℕ
unit_text words text (Some n) = name_text words text n
unit_text words text None = []

abbrev pub is_there : Option (List ℕ) → Bool
is_there none = false
is_there (some n) = true

-- a name that was read, with the name of its unit address, where it has one
abbrev pub with_unit_read : List ℕ → List ℕ → Got (List ℕ) → Maybe (Result ℕ Report) → Got (List ℕ)
with_unit_read words text n (Some u) =
    record {
      result = with_address n.result (name_read words text u).result;
      reports = n.reports ++ (name_read words text u).reports;
    }
with_unit_read words text n None = n

unfoldable pub full_read : List ℕ → List ℕ → FullName → Got (List ℕ)
full_read words text f = with_unit_read words text (name_read words text f.name) f.unit

-- the full name of a chain of parts. By row 5 the name of a unit address is not empty, so that an empty text stands for no unit address.
pub record FullNameRead (words : List ℕ) (first : ℕ) (f : FullName) : Type 0 where
  pub read : (text : List ℕ) → full_read words text f ≡ full_name (chain_at words text first)
  pub unit_good : (text : List ℕ) (r : ℕ) → good_names_in (chain_at words text first) ≡ true → f.unit ≡ Some (Ok r)
      → is_empty (text_at words text r) ≡ false
