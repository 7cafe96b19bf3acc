-- The tree of a record, as it stands in the words.
use Rattle.std.specs.Prelude.{ℕ, List}
use Rattle.input.specs.meaning.Tree.{Tree, Trees, tree}
use Rattle.input.specs.meaning.Input.{kind_at, text_at, number_at, span_at, second_at, chain_at, parts_at}

-- what record r's W leads to: the items of a node or the values of a property
abbrev pub contents_at : List ℕ → List ℕ → ℕ → Trees
contents_at words text r = chain_at words text (second_at words r)

-- the tree of record r alone
unfoldable pub record_at : List ℕ → List ℕ → ℕ → Tree
record_at words text r =
    tree (kind_at words r) (text_at words text r) (number_at words r) (span_at words r)
    (parts_at words text r)
    (contents_at words text r)
