-- What dropping a body leaves: of the records from `mark` on only bindings and diagnostics are there.
use Rattle.std.specs.Prelude.{ℕ, ◌+◌, ◌-◌, ◌≤◌, ◌≡◌, Bool, true, false, cond, List, [], ◌∷◌, ◌++◌, eqb, leb, length, take, drop}
use Rattle.making.specs.declared.ctx.LowerCtx.{LowerCtx}
use Rattle.definition_log.specs.meaning.Record.{binding_kind, diagnostic_kind, kind_of}
use Rattle.making.specs.machine.Events.{Event, children_of}
use Rattle.making.specs.machine.Buffers.{Layout}
use Rattle.making.specs.machine.Removed.{dead, cleared_texts, cleared_words}

-- whether a record stays where a body is dropped; one that is not there has kind 0
abbrev pub stays_kind : ℕ → Bool
stays_kind kind = cond (eqb kind 0) true (cond (eqb kind binding_kind) true (eqb kind diagnostic_kind))

-- record k after the drop
unfoldable pub after_drop : ℕ → ℕ → Event → Event
after_drop mark k e = cond (leb mark k) (cond (stays_kind e.kind) e (dead e)) e

-- the records, numbered from k on, after the drop
unfoldable pub dropped : ℕ → ℕ → List Event → List Event
dropped mark k [] = []
dropped mark k (e ∷ es) = after_drop mark k e ∷ dropped mark (k + 1) es

-- no record of a list, numbered from k on, leads to the next record of a chain
pub data Quiet (chain : ℕ) : ℕ → List Event → Type 0 where
  quiet_none : {k : ℕ} → Quiet chain k []
  quiet_next : {k : ℕ} {x : Event} {xs : List Event} → (x.alive ≡ true → (x.chain ≡ chain → ⊥) × (chain ≡ children_of k → ⊥))
      → Quiet chain (k + 1) xs
      → Quiet chain k (x ∷ xs)

-- the records from `mark` on are a body: none that stays, and none before it, leads to one that is dropped
pub record Body (mark : ℕ) (es : List Event) : Type 0 where
  pub quiet : (xs : List Event) (e : Event) (ys : List Event) → es ≡ xs ++ e ∷ ys → mark ≤ 1 + length xs → stays_kind e.kind ≡ false
      → Quiet e.chain 1 (dropped mark 1 xs)

-- a record's words and bytes after the drop
unfoldable pub dropped_words : List ℕ → ℕ → List ℕ
dropped_words words r = cond (stays_kind (kind_of words r)) words (cleared_words words r)

unfoldable pub dropped_bytes : List ℕ → List ℕ → ℕ → List ℕ
dropped_bytes words bytes r = cond (stays_kind (kind_of words r)) bytes (cleared_texts words bytes r)

-- a list whose records below number r are dropped already
abbrev pub dropped_to : ℕ → ℕ → List Event → List Event
dropped_to mark r es = dropped mark 1 (take (r - 1) es) ++ drop (r - 1) es

-- an operation that drops the body from `mark` on; record 0 is in none
pub record Drops (words bytes w b : List ℕ) (mark records : ℕ) : Type 0 where
  pub layout : (used : ℕ) (es : List Event) → 1 ≤ mark → Layout words bytes records used es → Body mark es
      → Layout w b records used (dropped mark 1 es)

-- the same in a state that may have run short
pub record DropsFrom (c : LowerCtx) (words bytes w b : List ℕ) (mark : ℕ) : Type 0 where
  pub going : c.short ≡ false → Drops words bytes w b mark c.records
  pub over : c.short ≡ true → (w ≡ words) × (b ≡ bytes)
