-- DEMAND 3: the two-run theorem, about two whole runs and what both write.
--
-- Run A lowers a description, run B, accepted too, lowers it with two adjacent items more, anywhere in any node body that enters the main
-- log: a new subnode, then its deletion by name. The premises are those of `Inserted` and `Pair` (TwoRuns); the conclusion is about the
-- words and bytes that both runs leave. Read in this order: Lowered, TwoRuns from `plain_name` on, this file.
use Rattle.std.specs.Prelude.{ℕ, false, ◌≡◌, List, []}
use Rattle.paths_numbers.specs.meaning.Path.{at_or_under}
use Rattle.definition_log.specs.meaning.Record.{first_ext, first_bind, first_diag, first_post}
use Rattle.definition_log.specs.meaning.ReadBack.{chain_of}
use Rattle.definition_log.specs.meaning.Alike.{Words32, AlikeWords, AlikeAll, AlikeDef, AlikeExt}
use Rattle.queries.specs.meaning.Query.{live_answers, history_answers}
use Rattle.definition_log.specs.meaning.Answer.{Answered}
use Rattle.making.specs.meaning.State.{start}
use Rattle.input.specs.meaning.Input.{description}
use Rattle.lowering.specs.meaning.Lowered.{Lowered}
use Rattle.two_runs.specs.meaning.TwoRuns.{Inserted}

-- one run: what was lent, what was answered, and what was left
pub record Run : Type 0 where
  pub level : ℕ
  pub starts : List ℕ
  pub words : List ℕ
  pub text : List ℕ
  pub out_before : List ℕ
  pub bytes_before : List ℕ
  pub answer : Answered
  pub out : List ℕ
  pub bytes : List ℕ

-- it is a run of lowering, "All words are u32", and "Accepted: number 0"
pub record AcceptedRun (r : Run) : Type 0 where
  pub lowered : Lowered r.level r.starts r.words r.text r.out_before r.bytes_before r.answer r.out r.bytes
  pub words32 : Words32 r.out
  pub accepted : r.answer.number ≡ 0

-- two runs alike, "in 01's sense": record by record and word by word, as Alike of the crate log has it. "A list is compared by the records
-- it names": what the queries answer on what both runs wrote.
pub record AlikeRuns (new : List ℕ) (a b : Run) : Type 0 where
  -- "the live list under every base"
  pub lives : (base : List ℕ)
      → AlikeAll (AlikeDef a.out a.bytes b.out b.bytes) (live_answers a.out a.bytes base)
      (live_answers b.out b.bytes base)
  -- "all bindings, all extensions, all diagnostics of lowering and of the post checks"
  pub bindings :
      AlikeAll (AlikeWords a.out a.bytes b.out b.bytes) (chain_of a.out (first_bind a.out))
      (chain_of b.out (first_bind b.out))
  pub extensions :
      AlikeAll (AlikeExt a.out a.bytes b.out b.bytes) (chain_of a.out (first_ext a.out))
      (chain_of b.out (first_ext b.out))
  pub diagnostics :
      AlikeAll (AlikeWords a.out a.bytes b.out b.bytes) (chain_of a.out (first_diag a.out))
      (chain_of b.out (first_diag b.out))
  pub checks :
      AlikeAll (AlikeWords a.out a.bytes b.out b.bytes) (chain_of a.out (first_post a.out))
      (chain_of b.out (first_post b.out))
  -- "the history of every path not at or under the new one"
  pub histories : (path : List ℕ) → at_or_under path new ≡ false
      → AlikeAll (AlikeDef a.out a.bytes b.out b.bytes) (history_answers a.out a.bytes path)
      (history_answers b.out b.bytes path)

-- the claim; both runs are told the same level and, 02, request 3, "with the same list in both runs", the same starts of files. "Demand 3
-- covers both words too": words 13 and 14 are among those that Alike compares.
unfoldable pub WholeRuns : Type 0
WholeRuns =
    (new : List ℕ) (a b : Run) → AcceptedRun a → AcceptedRun b → a.level ≡ b.level → a.starts ≡ b.starts
    → Inserted b.level new [] start (description a.words a.text) (description b.words b.text)
    → AlikeRuns new a b
