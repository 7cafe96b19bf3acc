-- References by their macro, their W and their text.
use Prim.Native.Nat.{ℕ}
use mathlib.Core.Path.{◌≡◌, refl, ◌∙◌}
use mathlib.Core.Bool.{true, false}
use mathlib.Core.List.{List, [], ◌∷◌}
use native.Mathlib.Omega.{arith}
use borrow.Author.Tests.{ne_eqb}
use mathlib.Core.Option.{some, none}
use lib.ListN.{length}
use Rattle.std.specs.Prelude.{Option, Some, None, Ok, Err}
use Rattle.std.specs.Option.{ok_or}
use Rattle.paths_numbers.specs.meaning.Text.{is_empty}
use Rattle.paths_numbers.specs.meaning.Reference.{Target, label, label_path, path, unreadable, target, number_of, target_number, label_of}
use Rattle.paths_numbers.specs.meaning.Reference.{path_of}
use Rattle.input.specs.meaning.Tree.{macro_kind, first_of}
use Rattle.input.specs.meaning.Phandle.{readable, plain_target, lower_phandle}
use Rattle.input.specs.meaning.Input.{number_at, text_at, parts_at}
use Rattle.input.specs.machine.At.{record_at}
use Rattle.input.specs.machine.PhandleRead.{label_at, path_at, phandle_read, read_as}
use Rattle.input.specs.declared.report.Report.TheVariants.{Macro, Nothing}
use Rattle.paths_numbers.specs.declared.phandle.MirPhandleTarget.{MirPhandleTarget}
use Rattle.paths_numbers.specs.declared.phandle.MirPhandleTarget.TheVariants.{Label, LabelPath, Path}

-- a text is empty where its length is 0
empty_length : (s : List ℕ) → length s ≡ 0 → is_empty s ≡ true
unfolding is_empty
empty_length [] e = refl
empty_length (b ∷ s) e = absurd (omega arith)

filled_length : (s : List ℕ) → (length s ≡ 0 → ⊥) → is_empty s ≡ false
unfolding is_empty
filled_length [] n = absurd (n refl)
filled_length (b ∷ s) n = refl

module _ (words text : List ℕ) (r : ℕ) where
  -- a raw reference by its kind, its label and its path
  raw_target : (t : Target) → label_at words text r ≡ label_of t → path_at words text r ≡ path_of t
      → phandle_read words text r (read_as (number_of t)) ≡ readable t
  raw_target (label l) e f = rw e refl
  raw_target (label_path l p) e f = rw (e, f) refl
  raw_target (path p) e f = rw f refl
  raw_target unreadable e f = refl

  -- a reference without a macro
  pub raw_is : number_at words r ≡ 1 → phandle_read words text r (read_as (number_of (target (text_at words text r)))) ≡ plain_target
      (record_at words text r)
  unfolding label_at path_at record_at
  raw_is e = raw_target (target (text_at words text r)) (rw e refl) (rw e refl) ∙ rw e refl

  module _ (n : number_at words r ≡ 1 → ⊥) where
    pub empty_is : length (text_at words text r) ≡ 0 → phandle_read words text r (Err Nothing) ≡ plain_target (record_at words text r)
    unfolding record_at
    empty_is e = simp (ne_eqb (number_at words r) 1 n, empty_length (text_at words text r) e)

    pub name_is : (length (text_at words text r) ≡ 0 → ⊥) → phandle_read words text r (Ok Label) ≡ plain_target (record_at words text r)
    unfolding label_at record_at
    name_is e = simp (ne_eqb (number_at words r) 1 n, filled_length (text_at words text r) e)

  -- a macro comes first
  pub macro_is : (m : ℕ) → first_of macro_kind (parts_at words text r) ≡ some (record_at words text m)
      → phandle_read words text r (Err (Macro m)) ≡ lower_phandle (record_at words text r)
  unfolding lower_phandle record_at
  macro_is m e = rw e refl

  pub no_macro : first_of macro_kind (parts_at words text r) ≡ none
      → plain_target (record_at words text r) ≡ lower_phandle (record_at words text r)
  unfolding lower_phandle record_at
  no_macro e = rw e refl

  -- the label and the path
  pub raw_label : number_at words r ≡ 1 → label_of (target (text_at words text r)) ≡ label_at words text r
  unfolding label_at
  raw_label e = rw e refl

  pub name_label : (number_at words r ≡ 1 → ⊥) → text_at words text r ≡ label_at words text r
  unfolding label_at
  name_label n = simp (ne_eqb (number_at words r) 1 n)

  pub raw_path : number_at words r ≡ 1 → path_of (target (text_at words text r)) ≡ path_at words text r
  unfolding path_at
  raw_path e = rw e refl

  pub no_path : (number_at words r ≡ 1 → ⊥) → [] ≡ path_at words text r
  unfolding path_at
  no_path n = simp (ne_eqb (number_at words r) 1 n)

-- a reading of a raw reference, by its number
pub read_of : (o : Option MirPhandleTarget) → ok_or o Nothing ≡ read_as (target_number o)
read_of None = refl
read_of (Some Label) = refl
read_of (Some LabelPath) = refl
read_of (Some Path) = refl
