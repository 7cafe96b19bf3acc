-- 02, request 10: "Code 24 never arises at level 2", nor does 19 (NeverGiven). A claim about a whole run at level 2 and what it writes.
use Rattle.std.specs.Prelude.{false, ◌≡◌}
use Rattle.paths_numbers.specs.meaning.Lists.{any}
use Rattle.levels.specs.meaning.Rules.{unsigned_level}
use Rattle.definition_log.specs.meaning.ReadBack.{read_log}
use Rattle.input.specs.meaning.NeverGiven.{is_never_given}
use Rattle.two_runs.specs.meaning.WholeRuns.{Run, AcceptedRun}

-- no diagnostic of lowering that a run left, nor one of the post checks, has one of the two codes
pub record NeitherCode (r : Run) : Type 0 where
  pub lowering : any is_never_given (read_log r.out r.bytes).diags ≡ false
  pub checks : any is_never_given (read_log r.out r.bytes).post ≡ false

unfoldable pub NeverArises : Type 0
NeverArises = (r : Run) → AcceptedRun r → r.level ≡ unsigned_level → NeitherCode r
