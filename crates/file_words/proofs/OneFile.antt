-- Of one file every number is 0.
use Prim.Native.Nat.{ℕ, zero, suc, ◌+◌, ◌*◌, ◌/◌, ◌≤◌, ◌<◌}
use mathlib.Core.Path.{◌≡◌, ◌∙◌}
use mathlib.Core.List.{List, [], ◌∷◌}
use native.Mathlib.Omega.{arith}
use borrow.Author.Tests.{eqb-true, eqb-false}
use lib.Dec.{eqb}
use Rattle.paths_numbers.proofs.Texts.{by_test}
use Rattle.files.proofs.Starts.{one_file_lem}
use Rattle.definition_log.specs.meaning.Record.{record_words, out_field, kind_of, n_of, span_start, name_start}
use Rattle.definition_log.specs.meaning.Sound.{is_reached}
use Rattle.definition_log.specs.meaning.Written.{named, Kept}
use Rattle.definition_log.proofs.Pinned.{named_last}
use Rattle.file_words.specs.meaning.OneFile.{ThreeZeros}

-- in a record that is reached
kept_zero : (words : List ℕ) (r : ℕ) → Kept (0 ∷ []) words r → (i : ℕ) → 13 ≤ i → i < record_words → out_field words r i ≡ 0
unfolding named
kept_zero words r k i h l =
    by_test (named (kind_of words r) (n_of words r) i)
    (λ t. by_test (eqb i 13)
    (λ u. let e = eqb-true i 13 u in
    rw e (k.file_of_span (rw e at t) ∙ one_file_lem (span_start words r)))
    (λ u. by_test (eqb i 14)
    (λ v. let e = eqb-true i 14 v in
    rw e (k.file_of_name (rw e at t) ∙ one_file_lem (name_start words r)))
    (λ v. k.unnamed i l (named_last (kind_of words r) (n_of words r) i (omega (arith, eqb-false i 13 u, eqb-false i 14 v))))))
    (λ t. k.unnamed i l t)

pub three_zeros : ThreeZeros
unfolding ThreeZeros out_field
three_zeros words bytes n m log x zero i h l = x.rest_of_head i (omega arith) l
three_zeros words bytes n m log x (suc r) i h l =
    by_test (is_reached words (suc r))
    (λ t. kept_zero words (suc r) (x.kept (suc r) t) i h l)
    (λ t. let q : (suc r * record_words + i) / record_words ≡ suc r = omega arith in
    x.clear_words (suc r * record_words + i) (omega arith) (rw q t))
