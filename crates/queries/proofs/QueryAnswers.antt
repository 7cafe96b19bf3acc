-- The answers of the queries, by what rows 8 and 9 say first.
use Prim.Native.Nat.{ℕ}
use mathlib.Core.Path.{◌≡◌, refl, ap, ◌∙◌}
use mathlib.Core.Bool.{Bool, true, false, cond}
use mathlib.Core.List.{List}
use native.Mathlib.Omega.{arith}
use lib.Dec.{leb}
use lib.ListN.{length}
use Rattle.paths_numbers.specs.meaning.Text.{written}
use Rattle.paths_numbers.specs.meaning.Path.{good_path}
use Rattle.definition_log.specs.meaning.Record.{first_def}
use Rattle.definition_log.specs.meaning.ReadBack.{chain_of, def_at, read_defs}
use Rattle.definition_log.specs.meaning.Sound.{Soundness, sound, broken, soundness}
use Rattle.queries.specs.meaning.Live.{contains_node}
use Rattle.queries.specs.meaning.Query.{live_numbers, history_numbers, good_answer, count_answer, list_answer, sound_out, query_answer}
use Rattle.queries.specs.meaning.Query.{query_out, live_answers, history_answers, contains_answer, refusal}
use Rattle.definition_log.specs.meaning.Answer.{Answered, passed, sound_answer}
use Rattle.definition_log.proofs.Answers.{log_refused, log_passed}
use Rattle.queries.specs.machine.Table.{fitted}

-- a number of a refusal is not 0
pub refused_by : (s : Soundness) (g : Bool) (x r : Answered) → r ≡ sound_answer s (good_answer g passed)
    → (r.number ≡ 0 → ⊥) → r ≡ sound_answer s (good_answer g x)
refused_by sound true x r e n = absurd (n (ap (λ a. a.number) e))
refused_by sound false x r e n = e
refused_by (broken k) g x r e n = e

-- and where it is 0, what comes after rows 8 and 9 is answered
pub answered_by : (s : Soundness) (g : Bool) (x r : Answered) → r ≡ sound_answer s (good_answer g passed)
    → r.number ≡ 0 → x ≡ sound_answer s (good_answer g x)
answered_by sound true x r e n = refl
answered_by sound false x r e n = absurd (omega (arith, n, ap (λ a. a.number) e))
answered_by (broken k) g x r e n = absurd (omega (arith, n, ap (λ a. a.number) e))

-- the same of the list: a refusal leaves it
out_refused_by : (s : Soundness) (g : Bool) (r : Answered) (out list : List ℕ) → r ≡ sound_answer s (good_answer g passed)
    → (r.number ≡ 0 → ⊥) → list ≡ sound_out s (cond g out list) list
out_refused_by sound true r out list e n = absurd (n (ap (λ a. a.number) e))
out_refused_by sound false r out list e n = refl
out_refused_by (broken k) g r out list e n = refl

out_answered_by : (s : Soundness) (g : Bool) (r : Answered) (out list : List ℕ) → r ≡ sound_answer s (good_answer g passed)
    → r.number ≡ 0 → out ≡ sound_out s (cond g out list) list
out_answered_by sound true r out list e n = refl
out_answered_by sound false r out list e n = absurd (omega (arith, n, ap (λ a. a.number) e))
out_answered_by (broken k) g r out list e n = absurd (omega (arith, n, ap (λ a. a.number) e))

-- r is what rows 8 and 9 say
module _ (w b p list answers : List ℕ) (r : Answered) (e : r ≡ refusal w b p) where
  -- they refuse
  pub refused_answer : (r.number ≡ 0 → ⊥) → r ≡ query_answer w b p (length list) answers
  unfolding refusal query_answer
  refused_answer n = refused_by (soundness w b) (good_path p) (list_answer (length list) answers) r e n

  pub refused_out : (r.number ≡ 0 → ⊥) → list ≡ query_out w b p list answers
  unfolding refusal query_out
  refused_out n = out_refused_by (soundness w b) (good_path p) r _ list e n

  -- row 10, of a list that has as much room as the one that was lent
  pub listed_answer : (a : Answered) (room count : ℕ) → r.number ≡ 0 → count ≡ length answers → room ≡ length list
      → a ≡ count_answer room count
      → a ≡ query_answer w b p (length list) answers
  unfolding refusal query_answer
  listed_answer a room count n c k h =
      h ∙ rw (c, k) (answered_by (soundness w b) (good_path p) (list_answer (length list) answers) r e n)

  -- a list that holds the answers if they fit
  pub fitted_out : (out : List ℕ) → r.number ≡ 0 → out ≡ fitted list answers → out ≡ query_out w b p list answers
  unfolding refusal query_out fitted
  fitted_out out n d =
      d ∙ out_answered_by (soundness w b) (good_path p) r (cond (leb (length answers) (length list)) (written list 0 answers) list) list e n

-- the answers, of a chain that starts at record 0's first definition
pub live_of : (w b base : List ℕ) (first : ℕ) → first ≡ first_def w → live_numbers (def_at w b) base (chain_of w first) ≡ live_answers w b base
unfolding live_answers
live_of w b base first e = rw e refl

pub history_of : (w b path : List ℕ) (first : ℕ) → first ≡ first_def w
    → history_numbers (def_at w b) false path (chain_of w first) ≡ history_answers w b path
unfolding history_answers
history_of w b path first e = rw e refl

-- contains_node
pub contains_refused : (w b p : List ℕ) (r : Answered) → r ≡ refusal w b p → (r.number ≡ 0 → ⊥) → r ≡ contains_answer w b p
unfolding refusal contains_answer
contains_refused w b p r e n = refused_by (soundness w b) (good_path p) _ r e n

pub contains_answered : (w b p : List ℕ) (r : Answered) (first : ℕ) (t : Bool) → r ≡ refusal w b p → r.number ≡ 0
    → first ≡ first_def w
    → t ≡ contains_node p (read_defs w b first) → record { number = 0; returned = cond t 1 0 } ≡ contains_answer w b p
unfolding refusal contains_answer
contains_answered w b p r first t e z f h =
    ap (λ s. record { number = 0; returned = cond s 1 0 }) (h ∙ ap (λ d. contains_node p (read_defs w b d)) f)
    ∙ answered_by (soundness w b) (good_path p) _ r e z

-- rows 8 and 9 as they are tried
module _ (w b p : List ℕ) (r : Answered) (e : r ≡ sound_answer (soundness w b) passed) where
  pub refused_log_lem : (r.number ≡ 0 → ⊥) → r ≡ refusal w b p
  unfolding refusal
  refused_log_lem n = log_refused (soundness w b) _ r e n

  pub refused_path_lem : (x : Answered) → r.number ≡ 0 → x ≡ good_answer (good_path p) passed → x ≡ refusal w b p
  unfolding refusal
  refused_path_lem x n h = h ∙ log_passed (soundness w b) _ r e n
