-- Walks along a chain: what is still to come, and one step.
use Rattle.std.specs.Prelude.{ℕ, ◌-◌, ◌≡◌, Bool, true, false, cond, List, eqb}
use Rattle.definition_log.specs.meaning.Record.{leads, next_of}
use Rattle.definition_log.specs.meaning.ReadBack.{chain_from}
use Rattle.definition_log.specs.declared.chain.Walk.{Walk}
use Rattle.definition_log.specs.declared.chain.ChainIter.{ChainIter}

-- whether a chain of which so many records may be left has one at r
unfoldable pub goes_on : List ℕ → ℕ → ℕ → Bool
goes_on words r left = cond (eqb left 0) false (leads words r)

-- the records that are still to come
abbrev pub walk_left : List ℕ → Walk → List ℕ
walk_left words w = chain_from w.left words w.next

abbrev pub chain_left : ChainIter → List ℕ
chain_left c = walk_left c.words.now c.walk

-- at s the walk was at its end, and stays there
pub record Stopped (words : List ℕ) (s t : Walk) : Type 0 where
  pub stops : goes_on words s.next s.left ≡ false
  pub same : t ≡ s

-- from s to t the walk passed record r
pub record Stepped (words : List ℕ) (s t : Walk) (r : ℕ) : Type 0 where
  pub going : goes_on words r s.left ≡ true
  pub here : s.next ≡ r
  pub next : t.next ≡ next_of words r
  pub left : t.left ≡ s.left - 1
