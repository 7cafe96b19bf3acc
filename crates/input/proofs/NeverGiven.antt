-- Reports of neither of the codes that level 2 never gives.
use Prim.Native.Nat.{ℕ}
use mathlib.Core.Path.{◌≡◌, refl, ◌∙◌}
use mathlib.Core.Bool.{true, false}
use mathlib.Core.List.{List, [], ◌∷◌, ◌++◌}
use borrow.Author.Tests.{eqb-true}
use lib.Dec.{eqb}
use Rattle.paths_numbers.specs.meaning.Code.{number_empty, not_a_digit, number_too_large, zero_divisor, shift_amount}
use Rattle.paths_numbers.specs.meaning.Lists.{any}
use Rattle.paths_numbers.specs.meaning.Reading.{no_code}
use Rattle.paths_numbers.proofs.Lists.{any_append}
use Rattle.paths_numbers.proofs.Texts.{by_test}
use Rattle.levels.proofs.Below.{given}
use Rattle.definition_log.specs.meaning.Contents.{Span, Diag}
use Rattle.input.specs.meaning.Report.{report}
use Rattle.input.specs.meaning.NeverGiven.{never_given, is_never_given}

abbrev pub Quiet : List Diag → Type 0
Quiet ds = any is_never_given ds ≡ false

pub quiet_none : Quiet []
unfolding any
quiet_none = refl

pub quiet_report : (code : ℕ) (text : List ℕ) (span : Span) → never_given code ≡ false → Quiet (report code text span ∷ [])
unfolding any
quiet_report code text span e = rw e refl

pub quiet_append : (x y : List Diag) → Quiet x → Quiet y → Quiet (x ++ y)
quiet_append x y h k = any_append is_never_given x y ∙ rw (h, k) refl

-- the codes that level 2 gives are neither
pub given_quiet : (code : ℕ) → given code ≡ true → never_given code ≡ false
given_quiet code h =
    by_test (eqb code no_code) (λ t. rw (eqb-true code no_code t) refl)
    (λ a. by_test (eqb code number_empty) (λ t. rw (eqb-true code number_empty t) refl)
    (λ b. by_test (eqb code not_a_digit) (λ t. rw (eqb-true code not_a_digit t) refl)
    (λ c. by_test (eqb code number_too_large) (λ t. rw (eqb-true code number_too_large t) refl)
    (λ d. by_test (eqb code zero_divisor) (λ t. rw (eqb-true code zero_divisor t) refl)
    (λ e. let t : eqb code shift_amount ≡ true = rw (a, b, c, d, e) at h in
    rw (eqb-true code shift_amount t) refl)))))
