-- 02, request 10: "A description without expression cells lowers alike at both levels". One claim about two whole runs, at level 1 and at
-- level 2, and what both write.
use Rattle.std.specs.Prelude.{ℕ, Bool, true, false, cond, ◌≡◌, List, eqb}
use Rattle.levels.specs.meaning.Rules.{signed_level, unsigned_level}
use Rattle.definition_log.specs.meaning.Alike.{Words32}
use Rattle.definition_log.specs.meaning.Pinned.{Pinned}
use Rattle.input.specs.meaning.Tree.{Tree, Trees, tree, empty, more, expression_kind}
use Rattle.input.specs.meaning.Input.{description}
use Rattle.lowering.specs.meaning.Lowered.{Lowered}
use Rattle.two_runs.specs.meaning.WholeRuns.{Run}

-- "without expression cells" (kind 17), anywhere in the tree
unfoldable mutual
  pub no_expression : Tree → Bool
  no_expression (tree k text w span children second) =
      cond (eqb k expression_kind) false (cond (no_expressions children) (no_expressions second) false)

  pub no_expressions : Trees → Bool
  no_expressions empty = true
  no_expressions (more t ts) = cond (no_expression t) (no_expressions ts) false

-- a run of lowering, accepted or not
pub record LoweringRun (r : Run) : Type 0 where
  pub lowered : Lowered r.level r.starts r.words r.text r.out_before r.bytes_before r.answer r.out r.bytes
  pub words32 : Words32 r.out

-- two runs that are told the same but for the level
pub record SameLent (a b : Run) : Type 0 where
  pub starts : a.starts ≡ b.starts
  pub words : a.words ≡ b.words
  pub text : a.text ≡ b.text
  pub out : a.out_before ≡ b.out_before
  pub bytes : a.bytes_before ≡ b.bytes_before

-- what they leave: the same, where lowering was refused, and else two logs alike in every word and byte but record numbers and text starts
pub data AlikeLeft (out bytes out' bytes' : List ℕ) : Type 0 where
  same_left : out ≡ out' → bytes ≡ bytes' → AlikeLeft out bytes out' bytes'
  same_log : Pinned out bytes out' bytes' → AlikeLeft out bytes out' bytes'

pub record AlikeLevels (a b : Run) : Type 0 where
  pub answers : a.answer ≡ b.answer
  pub left : AlikeLeft a.out a.bytes b.out b.bytes

unfoldable pub TwoLevels : Type 0
TwoLevels =
    (a b : Run) → LoweringRun a → LoweringRun b → a.level ≡ signed_level → b.level ≡ unsigned_level → SameLent a b
    → no_expressions (description a.words a.text) ≡ true → AlikeLevels a b
