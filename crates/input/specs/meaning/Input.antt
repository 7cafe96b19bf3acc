-- 01, "Records", input: how words and text are a description. A record is read out of the words, and the tree from a record on by its
-- links.
use Rattle.std.specs.Prelude.{ℕ, zero, suc, ◌+◌, ◌*◌, ◌/◌, Bool, true, cond, List, eqb, length, get_or, take, drop}
use Rattle.definition_log.specs.meaning.Contents.{Span}
use Rattle.input.specs.meaning.Tree.{Trees, tree, empty, more, node_kind, property_kind}

-- "8 words each"
abbrev pub record_words : ℕ
record_words = 8

-- the records that the words hold
abbrev pub record_count : List ℕ → ℕ
record_count words = length words / record_words

-- "kind, next, child, text start, text length, W, span start, span end": a word of record r by its place in this list
abbrev pub field : List ℕ → ℕ → ℕ → ℕ
field words r i = get_or words (r * record_words + i) 0

abbrev pub kind_at : List ℕ → ℕ → ℕ
kind_at words r = field words r 0

abbrev pub next_at : List ℕ → ℕ → ℕ
next_at words r = field words r 1

abbrev pub child_at : List ℕ → ℕ → ℕ
child_at words r = field words r 2

abbrev pub text_start_at : List ℕ → ℕ → ℕ
text_start_at words r = field words r 3

abbrev pub text_length_at : List ℕ → ℕ → ℕ
text_length_at words r = field words r 4

abbrev pub w_at : List ℕ → ℕ → ℕ
w_at words r = field words r 5

abbrev pub span_start_at : List ℕ → ℕ → ℕ
span_start_at words r = field words r 6

abbrev pub span_end_at : List ℕ → ℕ → ℕ
span_end_at words r = field words r 7

-- a record's text and span
unfoldable pub text_at : List ℕ → List ℕ → ℕ → List ℕ
text_at words text r = take (text_length_at words r) (drop (text_start_at words r) text)

abbrev pub span_at : List ℕ → ℕ → Span
span_at words r = record { from = span_start_at words r; to = span_end_at words r }

-- "Links (next, child, W of input kinds 1 and 2 …)": W is a link of these two kinds, and a number of the others
abbrev pub links_by_w : ℕ → Bool
links_by_w k = cond (eqb k node_kind) true (eqb k property_kind)

-- the record that W leads to, 0 where W is a number
unfoldable pub second_at : List ℕ → ℕ → ℕ
second_at words r = cond (links_by_w (kind_at words r)) (w_at words r) 0

-- the number that W is, 0 where W is a link
unfoldable pub number_at : List ℕ → ℕ → ℕ
number_at words r = cond (links_by_w (kind_at words r)) 0 (w_at words r)

-- the chain of trees from record r on: "zero ends it". The first number bounds how many links are followed in a row.
unfoldable pub trees_at : ℕ → List ℕ → List ℕ → ℕ → Trees
trees_at zero words text r = empty
trees_at (suc f) words text zero = empty
trees_at (suc f) words text (suc r) =
    more
    (tree (kind_at words (suc r)) (text_at words text (suc r)) (number_at words (suc r)) (span_at words (suc r))
    (trees_at f words text (child_at words (suc r)))
    (trees_at f words text (second_at words (suc r))))
    (trees_at f words text (next_at words (suc r)))

-- by row 2 links go up, so that no more are followed in a row than there are records
unfoldable pub chain_at : List ℕ → List ℕ → ℕ → Trees
chain_at words text r = trees_at (record_count words) words text r

-- the chains that record r leads to: its parts, which are a cell list's cells and an expression's operands, and what its W leads to, the
-- items of a node or the values of a property
abbrev pub parts_at : List ℕ → List ℕ → ℕ → Trees
parts_at words text r = chain_at words text (child_at words r)

-- "Record 0 holds only the first top item as child": the top items
unfoldable pub description : List ℕ → List ℕ → Trees
description words text = parts_at words text 0
