-- Eight bytes read with the low one first are their word, and the words of two runs of bytes, joined by a shift, are the word of both.
use Rattle.std.proofs.Common.{◌<◌, ◌≡◌, ℕ, zero, suc, ◌+◌, ◌*◌, ◌≤◌, List, [], ◌∷◌, length, drop, get_or, refl, ◌∙◌, arith}
use Rattle.std.proofs.Common.{drop_of_length-le, w64}
use Prim.Native.Nat.{◌%◌, ◌^◌}
use mathlib.Core.Path.{sym, ap, ap₂, subst}
use mathlib.Core.List.{◌++◌}
use native.Mathlib.Nat.{mod-eq_of_lt, mul_assoc}
use lib.Bits.{bit_or, or_shifted_r}
use lib.ListN.{take, length-append, length-drop}
use lib.Pow.{pow-add, pow_mono}
use lib.Seq.{drop-cons, drop-drop, take-add, length-take-le}
use Rattle.std.specs.Int.{from_le_bytes}
use Rattle.slashes.specs.machine.Word.{Bytes, none, more, word, Loaded}
use Rattle.slashes.proofs.Marks.{limit}

bytes_of : (s : List ℕ) → ((k : ℕ) → get_or s k 0 < 256) → Bytes s
bytes_of [] h = none
bytes_of (b ∷ s) h = more (h 0) (bytes_of s (λ k. h (suc k)))

-- the word of the bytes from i on, by the byte at i
from_byte : (s : List ℕ) (i : ℕ) → word (drop i s) ≡ word (drop (suc i) s) * 256 + get_or s i 0
unfolding word
from_byte [] zero = refl
from_byte [] (suc i) = refl
from_byte (b ∷ s) zero = refl
from_byte (b ∷ s) (suc i) = from_byte s i

past_end : (s : List ℕ) (n : ℕ) → length s ≤ n → word (drop n s) ≡ 0
unfolding word
past_end s n h = rw drop_of_length-le refl

le_word : (t : List ℕ) → length t ≡ 8 → from_le_bytes w64 t ≡ word t
le_word t e =
    let z = past_end t 8 (omega arith) in
    omega (
      arith,
      z,
      from_byte t 0,
      from_byte t 1,
      from_byte t 2,
      from_byte t 3,
      from_byte t 4,
      from_byte t 5,
      from_byte t 6,
      from_byte t 7,
    )

-- the word read of eight bytes
pub loaded : (t : List ℕ) (w : ℕ) → length t ≡ 8 → ((k : ℕ) → get_or t k 0 < 256) → w ≡ from_le_bytes w64 t → Loaded t w
loaded t w e h f = record { bytes = bytes_of t h; same = f ∙ le_word t e }

-- two runs of bytes
limit_pow : (n : ℕ) → limit n ≡ 2 ^ (n * 8)
unfolding limit
limit_pow zero = refl
limit_pow (suc n) =
    let e : suc n * 8 ≡ n * 8 + 8 = omega arith in
    ap (λ (k : ℕ). k * 256) (limit_pow n) ∙ sym (ap (λ (k : ℕ). 2 ^ k) e ∙ pow-add 2 (n * 8) 8)

limit_mono : (n m : ℕ) → n ≤ m → limit n ≤ limit m
limit_mono n m h = rw (limit_pow n, limit_pow m) (pow_mono (omega arith))

word_cat : (x y : List ℕ) → word (x ++ y) ≡ word y * limit (length x) + word x
unfolding word limit
word_cat [] y = omega arith
word_cat (b ∷ x) y = ap (λ (n : ℕ). n * 256 + b) (word_cat x y) ∙ regroup (word y) (limit (length x)) (word x) b
  where
    regroup : (u l v b : ℕ) → (u * l + v) * 256 + b ≡ u * (l * 256) + (v * 256 + b)
    regroup u l v b = omega (arith, sym (mul_assoc u l 256))

word_lt : {x : List ℕ} → Bytes x → word x < limit (length x)
unfolding word limit
word_lt none = omega arith
word_lt (more {b} {s} h r) = omega (arith, word_lt r)

bytes_cat : {x y : List ℕ} → Bytes x → Bytes y → Bytes (x ++ y)
bytes_cat none q = q
bytes_cat (more h r) q = more h (bytes_cat r q)

-- the second run stands behind the first
cat : (x y : List ℕ) (a b n : ℕ) → length x ≡ n → length (x ++ y) ≤ 8 → Loaded x a → Loaded y b
    → Loaded (x ++ y) (bit_or a (b * limit n % limit 8))
cat x y a b n e h p q = record {
  bytes = bytes_cat p.bytes q.bytes;
  same =
      ap₂ (λ (u v : ℕ). bit_or u (v * limit n % limit 8)) p.same q.same
      ∙ ap (λ (k : ℕ). bit_or (word x) (word y * limit k % limit 8)) (sym e)
      ∙ ap (bit_or (word x)) (mod-eq_of_lt fits)
      ∙ ap (λ (k : ℕ). bit_or (word x) (word y * k)) (limit_pow (length x))
      ∙ or_shifted_r (word y) (length x * 8) (word x) (subst (λ (k : ℕ). word x < k) (limit_pow (length x)) (word_lt p.bytes))
      ∙ ap (λ (k : ℕ). word y * k + word x) (sym (limit_pow (length x)))
      ∙ sym (word_cat x y);
}
  where
    fits : word y * limit (length x) < limit 8
    fits = omega (arith, word_cat x y, word_lt (bytes_cat p.bytes q.bytes), limit_mono (length (x ++ y)) 8 h)

pub joined : (s : List ℕ) (at n m a b : ℕ) → at + (n + m) ≤ length s → n + m ≤ 8
    → Loaded (take n (drop at s)) a → Loaded (take m (drop (at + n) s)) b
    → Loaded (take (n + m) (drop at s)) (bit_or a (b * limit n % limit 8))
joined s at n m a b h k p q =
    let x : List ℕ = take n (drop at s) in
    let y : List ℕ = take m (drop (at + n) s) in
    let lx : length x ≡ n = length-take-le n (drop at s) (omega (arith, length-drop at s)) in
    let ly : length y ≡ m = length-take-le m (drop (at + n) s) (omega (arith, length-drop (at + n) s)) in
    let e : take (n + m) (drop at s) ≡ x ++ y = take-add n m (drop at s) ∙ ap (λ (r : List ℕ). x ++ take m r) (drop-drop n at s) in
    subst (λ (l : List ℕ). Loaded l (bit_or a (b * limit n % limit 8))) (sym e)
    (cat x y a b n lx (omega (arith, length-append x y)) p q)

-- one byte
pub single : (s : List ℕ) (at b : ℕ) → at < length s → b ≡ get_or s at 0 → get_or s at 0 < 256 → Loaded (take 1 (drop at s)) b
unfolding word
single s at b h e k = rw (drop-cons s at 0 h) record { bytes = more k none; same = e ∙ omega arith }
