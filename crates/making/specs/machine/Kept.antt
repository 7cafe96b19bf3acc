-- What a diagnostic made leaves as it was: the records that are no diagnostics, with their texts, and so every other chain. By this a
-- caller walks on through a chain while it reports.
use Rattle.std.specs.Prelude.{ℕ, ◌≤◌, ◌<◌, ◌≡◌, List, [], ◌∷◌}
use Rattle.making.specs.declared.ctx.LowerCtx.{LowerCtx}
use Rattle.making.specs.meaning.State.{State}
use Rattle.definition_log.specs.meaning.Record.{out_field, kind_of, first_text, second_text, log_count, diagnostic_kind}
use Rattle.making.specs.machine.Represents.{Context, Represents}

-- a record of the n that are made, and no diagnostic
pub record Still (words : List ℕ) (n r : ℕ) : Type 0 where
  pub number : 0 < r
  pub made : r < n
  pub other : kind_of words r ≡ diagnostic_kind → ⊥

-- something is so of each number
pub data All (P : ℕ → Type 0) : List ℕ → Type 0 where
  all_none : All P []
  all_more : {r : ℕ} {l : List ℕ} → P r → All P l → All P (r ∷ l)

-- from state c to state d, and from words and bytes to w and b, these records stay
pub record Kept (c d : LowerCtx) (words bytes w b : List ℕ) : Type 0 where
  pub records : c.records ≤ d.records
  pub count : log_count w ≡ log_count words
  pub defs : d.defs ≡ c.defs
  pub binds : d.binds ≡ c.binds
  pub field : (r i : ℕ) → Still words c.records r → i < 16 → out_field w r i ≡ out_field words r i
  pub first : (r : ℕ) → Still words c.records r → first_text w b r ≡ first_text words bytes r
  pub second : (r : ℕ) → Still words c.records r → second_text w b r ≡ second_text words bytes r

-- an operation that keeps them
pub record Keeps (c d : LowerCtx) (words bytes w b : List ℕ) : Type 0 where
  pub keeps : (k : Context) (s : State) → Represents k c words bytes s → Kept c d words bytes w b
