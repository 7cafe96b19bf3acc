-- The whole test: row 8's answer from the marks.
use Prim.Native.Nat.{ℕ, suc, ◌-◌, ◌%◌, ◌≤◌, ◌<◌}
use mathlib.Core.Path.{◌≡◌, refl, ◌∙◌}
use mathlib.Core.Bool.{true, false, cond}
use mathlib.Core.List.{List}
use native.Mathlib.Omega.{arith}
use borrow.Author.Tests.{eqb-true, eqb-false}
use lib.Dec.{eqb, leb}
use lib.ListN.{length, get_or, replicate, length-replicate, get_or-replicate}
use Rattle.paths_numbers.proofs.Texts.{by_test, not_both}
use Rattle.definition_log.specs.meaning.Record.{record_words, most_records, out_count, log_count}
use Rattle.definition_log.specs.meaning.Sound.{Soundness, broken, soundness, lowest_fault, first_fault, followed, heads_out, wrong_count}
use Rattle.definition_log.specs.declared.links.Mark.{Mark}
use Rattle.definition_log.specs.declared.links.Mark.TheVariants.{Unmet}
use Rattle.definition_log.specs.machine.Walk.{all_marks, fault_by, first_by}
use Rattle.definition_log.proofs.Marks.{marked, first_by_marks}
use Rattle.definition_log.proofs.Walked.{marks_say}

-- words that row 8 looks into have a record 0
count_some : (w : List ℕ) → wrong_count w ≡ false → 1 ≤ log_count w
unfolding log_count
count_some w t =
    by_test (eqb (length w) 0)
    (λ z. absurd (not_both {t = true} refl (rw z at t)))
    (λ z.
    by_test (eqb (length w % record_words) 0)
    (λ m.
    by_test (leb (out_count w) most_records)
    (λ c. rw c (omega (arith, eqb-false (length w) 0 z, eqb-true (length w % record_words) 0 m)))
    (λ c. rw c (omega arith)))
    (λ m. absurd (not_both {t = true} refl (rw (z, m) at t))))

-- the lowest record at fault by marks that are those of the links: record 0 by its own links, the others by the marks
lowest_by_marks : (w b : List ℕ) (x : List Mark) → 1 ≤ log_count w
    → ((k : ℕ) → k < log_count w → get_or x k Unmet ≡ marked w (followed w) k Unmet)
    → first_by (log_count w) w b x 0 ≡ lowest_fault w b
unfolding lowest_fault first_by fault_by
lowest_by_marks w b x s h =
    let e : log_count w ≡ suc (log_count w - 1) = omega arith in
    let rest : first_by (log_count w - 1) w b x 1 ≡ first_fault (log_count w - 1) w b (followed w) 1
    = first_by_marks (log_count w - 1) w b x (followed w) 1 (omega arith) (λ k l. h k (omega arith)) in
    go (log_count w) (log_count w - 1) e rest
  where
    go : (n k : ℕ) → n ≡ suc k → first_by k w b x 1 ≡ first_fault k w b (followed w) 1
        → first_by n w b x 0 ≡ cond (heads_out w) (broken 0) (first_fault k w b (followed w) 1)
    go n k e rest = rw (e, rest) refl

-- the lowest record at fault, of marks that start as zeros
pub checked : (n : ℕ) (w b : List ℕ) (m : List Mark) (q : List ℕ) (x : List Mark) (f : Soundness) → x ≡ all_marks w m q
    → f ≡ first_by (log_count w) w b x 0 → m ≡ replicate n Unmet
    → q ≡ replicate n 0 → log_count w ≤ n
    → wrong_count w ≡ false → f ≡ soundness w b
unfolding soundness
checked n w b m q x f e g a d h t =
    rw t
    (g
    ∙ lowest_by_marks w b x (count_some w t)
    (λ k i.
    rw e
    (marks_say w m q
    (λ r j. rw a (get_or-replicate n r Unmet Unmet (omega arith)))
    (rw (a, length-replicate) h)
    (rw (d, length-replicate) h)
    k i)))
