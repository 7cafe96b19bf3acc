-- Record 0, which is written last: "records used (counted as in row 7, bytes too), then first definition, extension, binding, lowering
-- diagnostic, then bytes used, first post-check diagnostic".
use Rattle.std.specs.Prelude.{ℕ, cond, List, [], ◌∷◌, ltb, length}
use Rattle.paths_numbers.specs.meaning.Text.{written}
use Rattle.making.specs.declared.ctx.LowerCtx.{LowerCtx}
use Rattle.definition_log.specs.meaning.Record.{record_words}
use Rattle.making.specs.machine.Events.{Event, defs_of, exts_of, bindings, diagnostics, post_diagnostics, first}

-- its sixteen words
unfoldable pub head16 : ℕ → ℕ → ℕ → ℕ → ℕ → ℕ → ℕ → List ℕ
head16 records defs exts binds diags bytes post =
    records ∷ defs ∷ exts ∷ binds ∷ diags ∷ bytes ∷ post ∷ 0 ∷ 0 ∷ 0 ∷ 0 ∷ 0 ∷ 0 ∷ 0 ∷ 0 ∷ 0 ∷ []

-- by the state after the post checks, whose diagnostics it has, and lowering's first diagnostic
abbrev pub head_of : LowerCtx → ℕ → List ℕ
head_of c diags =
    head16 c.records c.defs.first c.exts.first c.binds.first diags c.bytes c.diags.first

-- by the records made
abbrev pub head_in : ℕ → ℕ → List Event → List ℕ
head_in records used es =
    head16 records (first (defs_of 0) 1 es) (first (exts_of 0) 1 es) (first bindings 1 es) (first diagnostics 1 es) used
    (first post_diagnostics 1 es)

-- the words with it, where they have a record and the state did not run short
unfoldable pub finished : LowerCtx → ℕ → List ℕ → List ℕ
finished c diags words = cond c.short words (cond (ltb (length words) record_words) words (written words 0 (head_of c diags)))
