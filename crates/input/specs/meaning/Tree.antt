-- 01, "Records", input: a description as the tree that its records make from record 0, without record numbers and text starts.
use Rattle.std.specs.Prelude.{ℕ, Bool, true, false, cond, List, eqb}
use Rattle.std.proofs.Math.Option.{Option, some, none}
use Rattle.definition_log.specs.meaning.Contents.{Span}

-- a record: its kind, its text, its W where that is a number, its span, the chain of its children, and the chain that W leads to of kinds 1
-- and 2
mutual
  pub data Tree : Type 0 where
    tree : ℕ → List ℕ → ℕ → Span → Trees → Trees → Tree

  -- a chain of records by their next links
  pub data Trees : Type 0 where
    empty : Trees
    more : Tree → Trees → Trees

abbrev pub kind_of : Tree → ℕ
kind_of (tree k t w s c v) = k

abbrev pub text_of : Tree → List ℕ
text_of (tree k t w s c v) = t

abbrev pub w_of : Tree → ℕ
w_of (tree k t w s c v) = w

abbrev pub span_of : Tree → Span
span_of (tree k t w s c v) = s

abbrev pub children_of : Tree → Trees
children_of (tree k t w s c v) = c

-- "The first part of a kind counts"
unfoldable pub first_of : ℕ → Trees → Option Tree
first_of k empty = none
first_of k (more t ts) = cond (eqb (kind_of t) k) (some t) (first_of k ts)

-- whether a chain has a record of a kind
unfoldable pub has : ℕ → Trees → Bool
has k empty = false
has k (more t ts) = cond (eqb (kind_of t) k) true (has k ts)

-- the input kinds by 01's numbers
abbrev pub node_kind : ℕ
node_kind = 1

abbrev pub property_kind : ℕ
property_kind = 2

abbrev pub directive_kind : ℕ
directive_kind = 3

abbrev pub preprocessor_kind : ℕ
preprocessor_kind = 4

abbrev pub name_kind : ℕ
name_kind = 5

abbrev pub unit_address_kind : ℕ
unit_address_kind = 6

abbrev pub label_kind : ℕ
label_kind = 7

abbrev pub reference_kind : ℕ
reference_kind = 8

abbrev pub macro_kind : ℕ
macro_kind = 9

abbrev pub slash_kind : ℕ
slash_kind = 10

abbrev pub omit_kind : ℕ
omit_kind = 11

abbrev pub string_kind : ℕ
string_kind = 12

abbrev pub cell_list_kind : ℕ
cell_list_kind = 13

abbrev pub bytestring_kind : ℕ
bytestring_kind = 14

abbrev pub number_kind : ℕ
number_kind = 15

abbrev pub character_kind : ℕ
character_kind = 16

abbrev pub expression_kind : ℕ
expression_kind = 17

abbrev pub prefix_kind : ℕ
prefix_kind = 18

abbrev pub parenthesis_kind : ℕ
parenthesis_kind = 19

abbrev pub infix_kind : ℕ
infix_kind = 20
