-- DEMAND 3, of the code: every two runs of the exported `dl_lower` (src/lib.rt). Its contract is all that is used of it, and it has no
-- `requires`, so that this speaks of every run. Read specs/WholeRuns of two_runs for what is claimed, its specs/TwoRuns for the two items,
-- and the contract for what a run is.
--
-- `Learnt` is made from the clauses that `dl_lower` has in its source: what whoever calls it learns of the call. `code_keeps` is the
-- theorem that the code of `dl_lower` keeps them.
use Prim.Native.Nat.{ℕ}
use mathlib.Core.Path.{◌≡◌}
use mathlib.Core.List.{List, []}
use contract.Lifetimes.{Lfts}
use denote.Triple.Clauses.{AtExit}
use borrow.Fn.Kinds.{Dens, res_t, ended_of}
use Rattle.making.specs.meaning.State.{start}
use Rattle.input.specs.meaning.Input.{description}
use Rattle.two_runs.specs.meaning.TwoRuns.{Inserted}
use Rattle.two_runs.specs.meaning.WholeRuns.{Run, AcceptedRun, AlikeRuns, WholeRuns}
use Rattle.two_runs.proofs.WholeRuns.{whole_runs}
use Rattle.definition_log_c.specs.meaning.Told.{told}
use Rattle.definition_log_c.proofs.dl_lower.Kinds.{ps, r}
use Rattle.definition_log_c.proofs.dl_lower.Reads.{Learnt}
use Rattle.definition_log_c.proofs.dl_lower.Statement.{statement}
use Rattle.definition_log_c.proofs.dl_lower.Met.{met}

pub code_keeps : {M : Type 1} → statement M
code_keeps = met

-- a run: what was lent, what was answered and what was left, which keep the contract
pub record LowerRun : Type 0 where
  pub lifetimes : Lfts 5
  pub lent : Dens lifetimes ps
  pub answer : (res_t r lifetimes).Denot
  pub left : AtExit (ended_of 5 ps r) lifetimes
  pub keeps : Learnt lifetimes lent answer left

-- its words, level, starts and bytes, in the order of the parameters: words, text, level, starts, out, bytes
abbrev pub run_of : LowerRun → Run
run_of x =
    record {
      level = x.lent.1.1.0;
      starts = x.lent.1.1.1.0.now;
      words = x.lent.0.now;
      text = x.lent.1.0.now;
      out_before = x.lent.1.1.1.1.0.now;
      bytes_before = x.lent.1.1.1.1.1.0.now;
      answer = told x.answer;
      out = x.left.1.1.1.1.0.now;
      bytes = x.left.1.1.1.1.1.0.now;
    }

-- one that answers 0
accepted_run : (x : LowerRun) → (run_of x).answer.number ≡ 0 → AcceptedRun (run_of x)
accepted_run x z = record { lowered = x.keeps.0; words32 = x.keeps.1; accepted = z }

-- run B, at the same level and of the same files, has a description that is run A's with the two items more: a new subnode, then its
-- deletion by name
pub every_two_runs : (new : List ℕ) (a b : LowerRun) → (run_of a).answer.number ≡ 0 → (run_of b).answer.number ≡ 0
    → (run_of a).level ≡ (run_of b).level → (run_of a).starts ≡ (run_of b).starts
    → Inserted (run_of b).level new [] start (description (run_of a).words (run_of a).text) (description (run_of b).words (run_of b).text)
    → AlikeRuns new (run_of a) (run_of b)
unfolding WholeRuns
every_two_runs new a b za zb l s i = whole_runs new (run_of a) (run_of b) (accepted_run a za) (accepted_run b zb) l s i
