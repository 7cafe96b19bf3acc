-- A property made before its values.
use Rattle.std.specs.Prelude.{ℕ, ◌≡◌, Bool, true, false, List, [], eqb, Option as Maybe, Some, None}
use Rattle.paths_numbers.specs.meaning.Path.{joined}
use Rattle.making.specs.declared.place.PathAt.{PathAt}
use Rattle.making.specs.declared.place.PathAt.TheVariants as P
use Rattle.definition_log.specs.meaning.Contents.{property, Def}
use Rattle.input.specs.meaning.Name.{property_name_span}
use Rattle.input.specs.machine.OfRecord.{parts_of, span_in}
use Rattle.input.specs.machine.NameRead.{name_text, unit_text, is_there, full_read}
use Rattle.input.specs.declared.name.FullName.{FullName}
use Rattle.items.specs.declared.unbind.Below.{Below}
use Rattle.making.specs.meaning.State.{State, define}
use Rattle.input.specs.declared.linked.Record.{Record}

-- whether a place is that of the empty path
abbrev pub is_top : PathAt → Bool
is_top P.Root = false
is_top (P.Bytes start size) = eqb size 0

-- the property of a record with a name under a path, without values
unfoldable pub property_at : Record → Below → List ℕ → Def
property_at r b p =
    record {
      path = joined p b.name.now b.unit.now;
      value = property [];
      span = span_in r;
      name_span = property_name_span (parts_of r) (span_in r);
    }

-- made where there is a name
abbrev pub property_begun : Record → Maybe Below → List ℕ → State → State
property_begun r (Some b) p s = define (property_at r b p) s
property_begun r None p s = s

-- a name that was read, with its unit address, where both are there
abbrev pub NamesBelow : List ℕ → List ℕ → FullName → Maybe Below → Type 0
NamesBelow words text f (Some b) =
    (is_there (full_read words text f).result ≡ true) × (b.name.now ≡ name_text words text f.name)
    × (b.unit.now ≡ unit_text words text f.unit)
NamesBelow words text f None = is_there (full_read words text f).result ≡ false
