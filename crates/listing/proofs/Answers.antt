-- What is printed for the answer of lowering is what is listed of its input.
use Prim.Native.Nat.{ℕ}
use mathlib.Core.Path.{◌≡◌, refl, sym, ◌∙◌}
use mathlib.Core.List.{List, [], ◌∷◌}
use mathlib.Core.Bool.{true}
use native.Mathlib.Omega.{arith}
use borrow.Author.Tests.{ne_eqb}
use lib.ListN.{length, replicate, length-replicate}
use Rattle.levels.specs.meaning.Rules.{signed_level, is_level}
use Rattle.files.specs.meaning.Files.{rises, good_files}
use Rattle.paths_numbers.proofs.Texts.{not_both}
use Rattle.definition_log.specs.meaning.ReadBack.{read_log}
use Rattle.making.specs.meaning.State.{State}
use Rattle.definition_log.specs.meaning.Answer.{Answered}
use Rattle.lowering.specs.meaning.Lowered.{fits_in, meaning, Lowered, no_level, turned_down, no_files, short, done}
use Rattle.input.proofs.Refusals.{refusal_number}
use Rattle.listing.specs.meaning.Program.{out_length, bytes_length, listed}
use Rattle.listing.specs.machine.Page.{answer_text}

-- whether a log fits goes by the lengths of its buffers
fits_by_lengths : (s : State) (o p b d : List ℕ) → length o ≡ length p → length b ≡ length d → fits_in s o b ≡ fits_in s p d
unfolding fits_in
fits_by_lengths s o p b d e f = rw (e, f) refl

fits_empty : (s : State) (o b : List ℕ) → length o ≡ out_length → length b ≡ bytes_length
    → fits_in s o b ≡ fits_in s (replicate out_length 0) (replicate bytes_length 0)
fits_empty s o b e f = fits_by_lengths s o _ b _ (e ∙ sym (length-replicate {A = ℕ} out_length 0))
    (f ∙ sym (length-replicate {A = ℕ} bytes_length 0))

pub answer_listed : {w t o b p d : List ℕ} {a : Answered} → Lowered signed_level (0 ∷ []) w t o b a p d → length o ≡ out_length → length b
    ≡ bytes_length
    → answer_text a.number a.returned (read_log p d) ≡ listed w t
unfolding listed is_level good_files rises
answer_listed {w} {t} {o} {b} (no_level n e x y) l m = let z : ◌≡◌ {A = ℕ} 0 1 = cc in absurd (omega arith)
answer_listed {w} {t} {o} {b} (turned_down {number = n} k v e x y) l m = rw (e, v, ne_eqb n 0 (refusal_number w t v)) refl
answer_listed {w} {t} {o} {b} (no_files k v g e x y) l m = absurd (not_both {t = true} refl g)
answer_listed {w} {t} {o} {b} (short k v g f e x y) l m = rw (e, v, ← fits_empty (meaning signed_level w t) o b l m, f) refl
answer_listed {w} {t} {o} {b} (done k v g f e x y r) l m = rw (e, v, ← fits_empty (meaning signed_level w t) o b l m, f, r.reads) refl
