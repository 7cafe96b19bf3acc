-- What row 8 says first, and what is answered after it.
use mathlib.Core.Path.{◌≡◌, refl, ap}
use native.Mathlib.Omega.{arith}
use Rattle.definition_log.specs.meaning.Sound.{Soundness, sound, broken}
use Rattle.std.specs.Prelude.{ℕ, Result, Ok, Err}
use Rattle.definition_log.specs.declared.answer.Refusal.{Refusal}
use Rattle.definition_log.specs.declared.answer.Refusal.TheVariants as R
use Rattle.definition_log.specs.meaning.Answer.{Answered, success, refused, told, passed, sound_answer}

-- a number of a refusal is not 0
pub log_refused : (s : Soundness) (a r : Answered) → r ≡ sound_answer s passed → (r.number ≡ 0 → ⊥) → r ≡ sound_answer s a
log_refused sound a r e n = absurd (n (ap (λ x. x.number) e))
log_refused (broken k) a r e n = e

-- and where it is 0, what comes after row 8 is answered
pub log_passed : (s : Soundness) (a r : Answered) → r ≡ sound_answer s passed → r.number ≡ 0 → a ≡ sound_answer s a
log_passed sound a r e n = refl
log_passed (broken k) a r e n = absurd (omega (arith, n, ap (λ x. x.number) e))

-- no refusal has the number of success
pub refused_number : (e : Refusal) → (refused e).number ≡ 0 → ⊥
refused_number R.Size h = omega arith
refused_number (R.Link r) h = omega arith
refused_number (R.Text r) h = omega arith
refused_number (R.Kind r) h = omega arith
refused_number (R.Name r) h = omega arith
refused_number (R.Depth r) h = omega arith
refused_number R.Room h = omega arith
refused_number (R.Log r) h = omega arith
refused_number R.Path h = omega arith
refused_number (R.List r) h = omega arith
refused_number R.Digit h = omega arith
refused_number R.Length h = omega arith
refused_number R.Number h = omega arith
refused_number R.Files h = omega arith
refused_number R.Level h = omega arith

-- so a refusal of row 8 comes before what is answered after it, and where row 8 passes that is answered
pub refused_first : (s : Soundness) (a : Answered) (e : Refusal) → refused e ≡ sound_answer s passed → refused e ≡ sound_answer s a
refused_first s a e h = log_refused s a (refused e) h (refused_number e)

pub passed_first : (s : Soundness) (a : Answered) → passed ≡ sound_answer s passed → a ≡ sound_answer s a
passed_first s a h = log_passed s a passed h refl

-- an answer whose number is success is one
pub told_ok : (r : Result ℕ Refusal) (n : ℕ) → told r ≡ record { number = success; returned = n } → r ≡ Ok n
told_ok (Ok m) n h = ap Ok (ap (λ x. x.returned) h)
told_ok (Err e) n h = absurd (refused_number e (ap (λ x. x.number) h))
