-- Walks through a chain of parts, values or cells: the steps of check_parts.
use Prim.Native.Nat.{ℕ, ◌-◌}
use mathlib.Core.Path.{◌≡◌, refl, ◌∙◌}
use mathlib.Core.List.{List, [], ◌∷◌}
use lib.ListN.{length}
use Rattle.making.specs.declared.ctx.LowerCtx.{LowerCtx}
use Rattle.definition_log.specs.meaning.Contents.{Span}
use Rattle.definition_log.specs.meaning.Record.{next_of, log_count}
use Rattle.definition_log.specs.meaning.ReadBack.{chain_from, chain_of}
use Rattle.making.specs.machine.Kept.{all_none, all_more}
use Rattle.making.proofs.Keeping.{still_kept}
use Rattle.definition_log.specs.declared.chain.Walk.{Walk}
use Rattle.definition_log.specs.machine.ChainLeft.{Stopped, Stepped}
use Rattle.post_checks.specs.machine.Checks.{Reports, Parts, ReportsParts, said}
use Rattle.post_checks.proofs.Checks.{Walks, walks_start, walks_stepped, walks_stopped}

-- where a walk is: what is still to come, of a whole chain
abbrev pub PartsWalk : Parts → Span → LowerCtx → LowerCtx → List ℕ → List ℕ → List ℕ → List ℕ → ℕ → Walk → Type 0
PartsWalk parts span c d words bytes w b first i = (length w ≡ length words) × (length b ≡ length bytes)
    × Walks c d words bytes w b (chain_of words first) first (log_count words) i.next i.left
    (parts.all (said c words bytes) span words bytes (chain_of words first))
    (λ (passed later : List ℕ). parts.all (said c words bytes) span words bytes later)

module _ (parts : Parts) (span : Span) where
  pub parts_start : (c : LowerCtx) (words bytes : List ℕ) (first : ℕ) (i : Walk) → i.next ≡ first → i.left ≡ log_count words
      → PartsWalk parts span c c words bytes words bytes first i
  unfolding chain_of
  parts_start c words bytes first i n e = (
    refl,
    refl,
    rw (n, e) (walks_start c words bytes _ first (log_count words) _
        (λ (passed later : List ℕ). parts.all (said c words bytes) span words bytes later) refl),
  )

  module _ {c d : LowerCtx} {words bytes w b : List ℕ} {first : ℕ} {i j : Walk}
      (walk : PartsWalk parts span c d words bytes w b first i) where
    -- one record on, whose reports are the first of what is left
    pub parts_step : {f : LowerCtx} {v u : List ℕ} {r : ℕ} → Stepped w i j r → length v ≡ length w → length u ≡ length b
        → Reports d f w b v u (r ∷ []) (parts.one (said d w b) span w b r)
        → PartsWalk parts span c f words bytes v u first j
    unfolding chain_of
    parts_step {r = r} p m n h = (
      m ∙ walk.0,
      n ∙ walk.1,
      walks_stepped walk.2 (λ (passed later : List ℕ). parts.all (said c words bytes) span words bytes later) p h (λ x. x)
          (λ k s rep z kept all st passed ch len. (
            all_more (still_kept kept st) all_none,
            parts.next rep z kept span r (chain_from (i.left - 1) words (next_of words r)) st,
          )),
    )

    -- at the end all is reported
    pub parts_end : Stopped w i j → ReportsParts parts span first c d words bytes w b
    parts_end p = walks_stopped walk.2 p (λ passed. parts.none (said c words bytes) span words bytes)
