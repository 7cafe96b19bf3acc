-- The records of a chain by their numbers, as an iterator gives them.
use Rattle.std.specs.Prelude.{ℕ, zero, suc, ◌≡◌, ◌<◌, List, [], ◌∷◌}
use Rattle.input.specs.meaning.Tree.{Trees, empty, more}
use Rattle.input.specs.meaning.Input.{record_count, next_at, chain_at}
use Rattle.input.specs.machine.At.{record_at}
use Rattle.input.specs.declared.linked.Chain.{Chain}

-- the records of a chain from record r on, with a bound on how many links are followed in a row
unfoldable pub numbers_at : ℕ → List ℕ → ℕ → List ℕ
numbers_at zero words r = []
numbers_at (suc f) words zero = []
numbers_at (suc f) words (suc r) = suc r ∷ numbers_at f words (next_at words (suc r))

-- no more are followed than there are records
unfoldable pub numbers_from : List ℕ → ℕ → List ℕ
numbers_from words r = numbers_at (record_count words) words r

-- the trees of records
abbrev pub trees_of : List ℕ → List ℕ → List ℕ → Trees
trees_of words text [] = empty
trees_of words text (r ∷ l) = more (record_at words text r) (trees_of words text l)

-- the numbers are of records that there are
abbrev pub AreRecords : List ℕ → List ℕ → Type 0
AreRecords words [] = Unit {0}
AreRecords words (r ∷ l) = ((r ≡ 0 → ⊥) × (r < record_count words)) × AreRecords words l

-- what an iterator over a chain is still to give
abbrev pub chain_left : Chain → List ℕ
chain_left c = numbers_from c.input.words.now c.next

-- the trees of what is left of a chain, over a text and over its own
abbrev pub trees_over : List ℕ → Chain → Trees
trees_over text c = chain_at c.input.words.now text c.next

abbrev pub trees_left : Chain → Trees
trees_left c = trees_over c.input.text.now c
