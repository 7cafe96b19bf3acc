-- 01, "Records", input: which kinds stand where, what W may be, and row 4's rule of one record.
use Rattle.std.specs.Prelude.{ℕ, Bool, false, not, cond, List, [], ◌∷◌, eqb, leb}
use Rattle.paths_numbers.specs.meaning.Expression.{conditional_op}
use Rattle.paths_numbers.specs.meaning.Text.{is_empty}
use Rattle.definition_log.specs.meaning.Contents.{Span}
use Rattle.paths_numbers.specs.meaning.Lists.{any}
use Rattle.input.specs.meaning.Tree.{node_kind, property_kind, directive_kind, preprocessor_kind}
use Rattle.input.specs.meaning.Tree.{name_kind, unit_address_kind, label_kind, reference_kind, macro_kind, slash_kind, omit_kind}
use Rattle.input.specs.meaning.Tree.{string_kind}
use Rattle.input.specs.meaning.Tree.{cell_list_kind, bytestring_kind, number_kind, character_kind, expression_kind, prefix_kind}
use Rattle.input.specs.meaning.Tree.{parenthesis_kind, infix_kind}

-- where a record stands: in a chain of items, of a node's parts, ..; no record may stand at `no_place`
pub data InputPlace : Type 0 where
  items : InputPlace
  node_parts : InputPlace
  property_parts : InputPlace
  directive_parts : InputPlace
  values : InputPlace
  cells : InputPlace
  expressions : InputPlace
  names : InputPlace
  macros : InputPlace
  no_place : InputPlace

-- "Items: 1 to 4. Node parts: 5 to 11. Property parts: 5, 6, 9. Directive parts: 5, 6, 8, 9. Values: 3, 4, 8, 9, 12, 13, 14. Cells: 3, 4,
-- 8, 9, 15, 16, 17. Expressions: 9, 15, 16, 18, 19, 20."; and "6 and 7: child 5 or 9", 8 "child 9 or none"
abbrev pub kinds_in : InputPlace → List ℕ
kinds_in items = node_kind ∷ property_kind ∷ directive_kind ∷ preprocessor_kind ∷ []
kinds_in node_parts = name_kind ∷ unit_address_kind ∷ label_kind ∷ reference_kind ∷ macro_kind ∷ slash_kind ∷ omit_kind ∷ []
kinds_in property_parts = name_kind ∷ unit_address_kind ∷ macro_kind ∷ []
kinds_in directive_parts = name_kind ∷ unit_address_kind ∷ reference_kind ∷ macro_kind ∷ []
kinds_in values = directive_kind ∷ preprocessor_kind ∷ reference_kind ∷ macro_kind ∷ string_kind ∷ cell_list_kind ∷ bytestring_kind ∷ []
kinds_in cells = directive_kind ∷ preprocessor_kind ∷ reference_kind ∷ macro_kind ∷ number_kind ∷ character_kind ∷ expression_kind ∷ []
kinds_in expressions = macro_kind ∷ number_kind ∷ character_kind ∷ prefix_kind ∷ parenthesis_kind ∷ infix_kind ∷ []
kinds_in names = name_kind ∷ macro_kind ∷ []
kinds_in macros = macro_kind ∷ []
kinds_in no_place = []

-- "kind unfit for its place" is one that is not among these
unfoldable pub fits : InputPlace → ℕ → Bool
fits place k = any (eqb k) (kinds_in place)

-- where the children of a kind stand; `no_place` of "a kind with no children"
unfoldable pub child_place : ℕ → InputPlace
child_place k =
    cond (eqb k node_kind) node_parts
    (cond (eqb k property_kind) property_parts
    (cond (eqb k directive_kind) directive_parts
    (cond (eqb k unit_address_kind) names
    (cond (eqb k label_kind) names
    (cond (eqb k reference_kind) macros
    (cond (eqb k cell_list_kind) cells
    (cond (eqb k expression_kind) expressions
    (cond (eqb k prefix_kind) expressions
    (cond (eqb k parenthesis_kind) expressions
    (cond (eqb k infix_kind) expressions
    no_place))))))))))

-- and where the records stand that W leads to: "1 node (child parts, W first item), 2 property (child parts, W first value)"
unfoldable pub second_place : ℕ → InputPlace
second_place k = cond (eqb k node_kind) items (cond (eqb k property_kind) values no_place)

-- a kind with children
unfoldable pub has_children : ℕ → Bool
has_children k = not (is_empty (kinds_in (child_place k)))

-- "surrogate or above 0x10FFFF"
abbrev pub largest_code_point : ℕ
largest_code_point = 1114111

abbrev pub first_surrogate : ℕ
first_surrogate = 55296

abbrev pub last_surrogate : ℕ
last_surrogate = 57343

abbrev pub is_character : ℕ → Bool
is_character w = cond (leb w largest_code_point) (not (cond (leb first_surrogate w) (leb w last_surrogate) false)) false

-- the last of a directive's, a reference's and a prefix's W
abbrev pub last_directive : ℕ
last_directive = 6

abbrev pub raw_reference : ℕ
raw_reference = 1

abbrev pub last_prefix : ℕ
last_prefix = 4

-- W not "outside its list", where it is a number: a directive's is 1 to 6, a reference's 0 or 1, a character's a code point, a prefix's 0
-- to 4, an infix's 0 to that of ?:, and 0 of a kind with "no W named"
unfoldable pub w_fits : ℕ → ℕ → Bool
w_fits k w =
    cond (eqb k directive_kind) (cond (leb 1 w) (leb w last_directive) false)
    (cond (eqb k reference_kind) (leb w raw_reference)
    (cond (eqb k character_kind) (is_character w)
    (cond (eqb k prefix_kind) (leb w last_prefix)
    (cond (eqb k infix_kind) (leb w conditional_op)
    (eqb w 0)))))

-- row 4's rule of what a record says by itself: its kind in its place, its W, and no "span end before start"
unfoldable pub fits_alone : InputPlace → ℕ → ℕ → Span → Bool
fits_alone place k w span = cond (fits place k) (cond (w_fits k w) (leb span.from span.to) false) false
