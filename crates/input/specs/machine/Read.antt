-- What the reading functions answer, as the trees and texts that it stands for.
use Rattle.std.specs.Prelude.{ℕ, ◌≡◌, ◌<◌, cond, List, Some, None, eqb}
use Rattle.std.specs.Prelude.{Option as Maybe}
use Rattle.std.specs.Option.{ForSome}
use Rattle.std.proofs.Math.Option.{Option, some, none}
use Rattle.input.specs.meaning.Tree.{Tree, first_of}
use Rattle.input.specs.meaning.Input.{record_count, kind_at, next_at}
use Rattle.input.specs.machine.At.{record_at}
use Rattle.input.specs.machine.ChainLeft.{trees_over}
use Rattle.input.specs.declared.linked.Chain.{Chain}

-- the record behind r in its chain, 0 behind none
abbrev pub after_at : List ℕ → ℕ → ℕ
after_at words r = cond (eqb r 0) 0 (next_at words r)

-- the tree of a record, none of none
abbrev pub optional : List ℕ → List ℕ → Maybe ℕ → Option Tree
optional words text None = none
optional words text (Some r) = some (record_at words text r)

-- r is the first record of a kind in a chain, none where there is none; record 0 is in no chain
pub record FirstOf (c : Chain) (kind : ℕ) (r : Maybe ℕ) : Type 0 where
  pub numbered : ForSome r (λ n. n ≡ 0 → ⊥)
  pub there : ForSome r (λ n. n < record_count c.input.words.now)
  pub kinded : ForSome r (λ n. kind_at c.input.words.now n ≡ kind)
  pub tree : (text : List ℕ) → first_of kind (trees_over text c) ≡ optional c.input.words.now text r
