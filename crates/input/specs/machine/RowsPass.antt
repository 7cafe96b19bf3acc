-- What each step of the check of an input does with its numbers. These are no rules of 01: the contract of the whole check cites specs/Rows
-- alone, and proofs/RowsFound shows that the search in rising order finds what rows 3 to 6 say.
use Rattle.std.specs.Prelude.{ℕ, zero, suc, ◌+◌, ◌*◌, ◌/◌, ◌%◌, ◌≤◌, ◌<◌, ◌≡◌, Bool, true, false, not, cond, List, eqb, length, get_or, set}
use Rattle.std.specs.Prelude.{Option as Maybe, Some, None}
use Rattle.std.proofs.Math.Option.{Option, some, none}
use Rattle.input.specs.meaning.Input.{record_count, kind_at, next_at, child_at, second_at}
use Rattle.input.specs.meaning.Place.{InputPlace, items, node_parts, property_parts, directive_parts, values, cells, expressions, names}
use Rattle.input.specs.meaning.Place.{macros, no_place, child_place, second_place}
use Rattle.input.specs.meaning.Rows.{Verdict, accepted, linked_below, bad_text, row_three, Visit, unfit, bad_head, row_four, bad_name}
use Rattle.input.specs.meaning.Rows.{row_five, too_deep, row_six, or_else, lowest}
use Rattle.input.specs.machine.Rising.{visit, known}
use Rattle.input.specs.declared.place.Place.{Place}
use Rattle.input.specs.declared.place.Place.TheVariants as P

-- what a search for a record found
abbrev pub found_in : Maybe ℕ → Option ℕ
found_in None = none
found_in (Some r) = some r

-- where a record stands, as the code holds it
abbrev pub meant_place : Place → InputPlace
meant_place P.Items = items
meant_place P.NodeParts = node_parts
meant_place P.PropertyParts = property_parts
meant_place P.DirectiveParts = directive_parts
meant_place P.Values = values
meant_place P.Cells = cells
meant_place P.Expressions = expressions
meant_place P.Names = names
meant_place P.Macros = macros
meant_place P.NoPlace = no_place

-- where a record stands, by number
abbrev pub number_of : InputPlace → ℕ
number_of items = 1
number_of node_parts = 2
number_of property_parts = 3
number_of directive_parts = 4
number_of values = 5
number_of cells = 6
number_of expressions = 7
number_of names = 8
number_of macros = 9
number_of no_place = 10

-- and back
abbrev pub value_place_of : ℕ → InputPlace
value_place_of p = cond (eqb p 5) values (cond (eqb p 6) cells (cond (eqb p 7) expressions no_place))

unfoldable pub place_of : ℕ → InputPlace
place_of p =
    cond (eqb p 1) items
    (cond (eqb p 2) node_parts
    (cond (eqb p 3) property_parts
    (cond (eqb p 4) directive_parts
    (cond (eqb p 8) names
    (cond (eqb p 9) macros
    (value_place_of p))))))

-- a list with a value put at an index
unfoldable pub stored : {A : Type 0} → List A → ℕ → A → List A
stored l i v = set l i v

-- Row 2: the marks say which records a record below r has led to
pub record Marks (words : List ℕ) (r : ℕ) (marks : List Bool) : Type 0 where
  pub room : record_count words ≤ length marks
  pub tell : (l : ℕ) → l < length marks → get_or marks l false ≡ linked_below words r l

-- the marks with those of record r's links
unfoldable pub mark_links : List ℕ → ℕ → List Bool → List Bool
mark_links words r marks = stored (stored (stored marks (next_at words r) true) (child_at words r) true) (second_at words r) true

-- Rows 4 to 6: how a record stands in one number, 16 times its depth and its place's number; 0 where no link has led to it

unfoldable pub stand_of : Option Visit → ℕ
stand_of none = 0
stand_of (some v) = v.depth * 16 + number_of v.place

-- a record with this number
abbrev pub visit_at : ℕ → ℕ → Visit
visit_at r stand = visit r (place_of (stand % 16)) (stand / 16)

-- how a record stands at a place below one that stands so
unfoldable pub below : ℕ → InputPlace → ℕ
below stand place = (stand / 16 + 1) * 16 + number_of place

-- what record r, which stands so, tells of those that it leads to
unfoldable pub led_on : List ℕ → ℕ → ℕ → List ℕ → List ℕ
led_on words r stand stands =
    cond (eqb stand 0) stands
    (stored
    (stored
    (stored stands (second_at words r) (below stand (second_place (kind_at words r))))
    (child_at words r)
    (below stand (child_place (kind_at words r))))
    (next_at words r)
    stand)

-- how all records stand once those below r are looked at
pub record Stands (words : List ℕ) (r : ℕ) (stands : List ℕ) : Type 0 where
  pub room : record_count words ≤ length stands
  pub tell : (k : ℕ) → k < length stands → get_or stands k 0 ≡ stand_of (known words r k)

-- whether a record but record 0 is reached
abbrev pub is_reached : List ℕ → ℕ → Bool
is_reached stands r = cond (eqb r 0) false (not (eqb (get_or stands r 0) 0))

-- whether a reached record breaks a row, of rows 4 to 6
unfoldable pub breaks : ℕ → List ℕ → List ℕ → Visit → Bool
breaks row words text v = cond (eqb row 4) (unfit words v) (cond (eqb row 5) (bad_name words text v) (too_deep v))

-- whether record r is at fault by a row, of rows 3 to 6
unfoldable pub fault_by : ℕ → List ℕ → List ℕ → List ℕ → ℕ → Bool
fault_by row words text stands r =
    cond (eqb row 3) (bad_text words text r)
    (cond (eqb r 0) (cond (eqb row 4) (bad_head words) false)
    (cond (eqb (get_or stands r 0) 0) false
    (breaks row words text (visit_at r (get_or stands r 0)))))

-- the lowest record at fault by a row
unfoldable pub first_fault : ℕ → List ℕ → List ℕ → List ℕ → Option ℕ
first_fault row words text stands = lowest (fault_by row words text stands) (record_count words) 0

-- what so many rows from one on say, by this search
unfoldable pub rows_from : ℕ → ℕ → List ℕ → List ℕ → List ℕ → Verdict
rows_from zero row words text stands = accepted
rows_from (suc left) row words text stands = or_else row (first_fault row words text stands) (rows_from left (suc row) words text stands)

-- what rows 3 to 6 say
unfoldable pub later_rows : List ℕ → List ℕ → Verdict
later_rows words text =
    or_else 3 (row_three words text)
    (or_else 4 (row_four words)
    (or_else 5 (row_five words text)
    (or_else 6 (row_six words)
    accepted)))
