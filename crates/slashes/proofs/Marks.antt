-- The marks of a word are those of its bytes: in the code's formula no sum carries into the next byte.
use Prim.Native.Nat.{ℕ, zero, suc, ◌+◌, ◌-◌, ◌*◌, ◌^◌, ◌<◌}
use mathlib.Core.Path.{◌≡◌, refl, ap, ◌∙◌}
use mathlib.Core.Bool.{Bool}
use mathlib.Core.List.{List, map}
use native.Mathlib.Omega.{arith}
use lib.Bits.{bit_and, bit_or, bit_xor, and_block, or_block, xor_block, and_le_r, or_lt, xor_lt}
use lib.Dec.{lit<, eqb, eqb→eq}
use lib.ListN.{length}
use Rattle.slashes.specs.meaning.Slash.{slash}
use Rattle.slashes.specs.machine.Word.{Bytes, none, more, word, mark_of}
use Rattle.slashes.proofs.Bytes.{below}

-- n times the byte c as one word, and the first number that n bytes do not hold
unfoldable pub repeated : ℕ → ℕ → ℕ
repeated c zero = 0
repeated c (suc n) = repeated c n * 256 + c

unfoldable pub limit : ℕ → ℕ
limit zero = 1
limit (suc n) = limit n * 256

-- what the code inverts, where c has the slashes and m the low bits
abbrev pub merged : ℕ → ℕ → ℕ → ℕ
merged c m w = bit_or (bit_or (bit_and (bit_xor w c) m + m) (bit_xor w c)) m

-- that of n bytes, and of one
abbrev pub kept : ℕ → ℕ → ℕ
kept n w = merged (repeated slash n) (repeated 127 n) w

unfoldable kept_of : ℕ → ℕ
kept_of b = merged slash 127 b

kept_of_lt : (b : ℕ) → b < 256 → kept_of b < 256
unfolding kept_of
kept_of_lt b h =
    let x : bit_xor b slash < 2 ^ 8 = xor_lt 8 b slash h (lit< tt) in
    let a : bit_and (bit_xor b slash) 127 + 127 < 2 ^ 8 = omega (arith, and_le_r (bit_xor b slash) 127) in
    or_lt 8 _ 127 (or_lt 8 _ _ a x) (lit< tt)

kept_step : (n w b : ℕ) → b < 256 → kept (suc n) (w * 256 + b) ≡ kept n w * 256 + kept_of b
unfolding kept_of repeated
kept_step n w b hb =
    let m : ℕ = repeated 127 n in
    let x : ℕ = bit_xor w (repeated slash n) in
    let y : ℕ = bit_xor b slash in
    let hy : y < 2 ^ 8 = xor_lt 8 b slash hb (lit< tt) in
    let ha : bit_and y 127 + 127 < 2 ^ 8 = omega (arith, and_le_r y 127) in
    let l : ℕ = m * 256 + 127 in
    ap (λ (v : ℕ). bit_or (bit_or (bit_and v l + l) v) l) (xor_block 8 w (repeated slash n) b slash hb (lit< tt))
    ∙ ap (λ (v : ℕ). bit_or (bit_or (v + l) (x * 256 + y)) l) (and_block 8 x m y 127 hy (lit< tt))
    ∙ ap (λ (v : ℕ). bit_or (bit_or v (x * 256 + y)) l) (sums (bit_and x m) (bit_and y 127) m)
    ∙ ap (λ (v : ℕ). bit_or v l) (or_block 8 (bit_and x m + m) x (bit_and y 127 + 127) y ha hy)
    ∙ or_block 8 (bit_or (bit_and x m + m) x) m (bit_or (bit_and y 127 + 127) y) 127 (or_lt 8 (bit_and y 127 + 127) y ha hy) (lit< tt)
  where
    sums : (a b m : ℕ) → a * 256 + b + (m * 256 + 127) ≡ (a + m) * 256 + (b + 127)
    sums a b m = omega arith

kept_word : {t : List ℕ} → Bytes t → kept (length t) (word t) ≡ word (map kept_of t)
unfolding word repeated
kept_word none = refl
kept_word (more {b} {s} h r) = kept_step (length s) (word s) b h ∙ ap (λ (v : ℕ). v * 256 + kept_of b) (kept_word r)

kept_lt : {t : List ℕ} → Bytes t → word (map kept_of t) < limit (length t)
unfolding word limit
kept_lt none = omega arith
kept_lt (more {b} {s} h r) = omega (arith, kept_lt r, kept_of_lt b h)

-- one byte inverted is its mark, by a test of each
right : ℕ → Bool
right b = eqb (255 - kept_of b) (mark_of b)

inverted : (b : ℕ) → b < 256 → 255 - kept_of b ≡ mark_of b
unfolding right kept_of mark_of
inverted b h = eqb→eq (255 - kept_of b) (mark_of b) (below right 256 tt b h)

inverted_word : {t : List ℕ} → Bytes t → limit (length t) - 1 - word (map kept_of t) ≡ word (map mark_of t)
unfolding word limit
inverted_word none = refl
inverted_word (more {b} {s} h r) =
    omega (arith, inverted_word r, inverted b h, kept_of_lt b h, kept_lt r)

-- the code's formula, on eight bytes
at_eight : (w n : ℕ) → n ≡ 8 → 18446744073709551615 - merged 0x2f2f_2f2f_2f2f_2f2f 0x7f7f_7f7f_7f7f_7f7f w ≡ limit n - 1 - kept n w
unfolding repeated limit
at_eight w n e = rw e refl

pub marks_word : (w : ℕ) (t : List ℕ) → Bytes t → length t ≡ 8 → w ≡ word t
    → 18446744073709551615 - merged 0x2f2f_2f2f_2f2f_2f2f 0x7f7f_7f7f_7f7f_7f7f w ≡ word (map mark_of t)
marks_word w t b e h =
    at_eight w (length t) e
    ∙ ap (λ (v : ℕ). limit (length t) - 1 - kept (length t) v) h
    ∙ ap (λ (v : ℕ). limit (length t) - 1 - v) (kept_word b)
    ∙ inverted_word b

-- a sum of two words fits where that of their masks does
pub sum_fits : (x m n : ℕ) → m + n < 2 ^ 64 → bit_and x m + n < 2 ^ 64
sum_fits x m n h = omega (arith, and_le_r x m)
