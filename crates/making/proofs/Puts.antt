-- What the library's writes into a part of a buffer come to.
use Rattle.std.proofs.Common.{◌≡◌, ℕ, ◌+◌, ◌≤◌, List, ◌++◌, length, take, drop, replicate, refl, sym, ◌∙◌, arith}
use borrow.Rule.Slice.PartMut.{put_mid}
use lib.ListN.{length-replicate}
use Rattle.paths_numbers.specs.meaning.Text.{written}
use Rattle.paths_numbers.proofs.Written.{put_written}
use Rattle.definition_log.proofs.Texts.{part, part_length}

-- a part set to zeros
pub filled : (d : List ℕ) (at size k : ℕ) (ys : List ℕ) → ys ≡ replicate (length (take k (drop at d))) 0 → k ≡ size → at + size ≤ length d
    → put_mid at k d ys ≡ written d at (replicate size 0)
filled d at size k ys e n h =
    let m : length (take k (drop at d)) ≡ size = rw n (part_length d at size h) in
    put_written d at k ys (replicate size 0) (e ∙ rw m refl) (n ∙ sym (length-replicate {A = ℕ} size 0))

-- the front
pub front_written : (d : List ℕ) (k : ℕ) (ys s : List ℕ) → ys ≡ s → k ≡ length s → ys ++ drop k d ≡ written d 0 s
unfolding written
front_written d k ys s e n =
    let z : 0 + length s ≡ length s = omega arith in
    rw (e, n, z) refl
