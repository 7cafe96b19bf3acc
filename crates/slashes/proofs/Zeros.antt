-- Trailing zeros over eight: the bytes before the first that is marked, all of them where none is.
use Prim.Native.Nat.{ℕ, zero, suc, ◌+◌, ◌*◌, ◌/◌}
use mathlib.Core.Path.{◌≡◌, refl, ap, ap₂, ◌∙◌}
use mathlib.Core.Bool.{Bool, true, false, cond}
use mathlib.Core.List.{List, [], ◌∷◌, map}
use native.Mathlib.Nat.{mul-mod_left, mul-div_cancel, zero-lt-suc}
use native.Mathlib.Omega.{arith}
use lib.Arith.{digits_mod}
use lib.Count.{count_trailing_zeros, under}
use lib.Dec.{eqb, lit<}
use lib.ListN.{length}
use Rattle.slashes.specs.meaning.Slash.{slash}
use Rattle.slashes.specs.machine.Word.{word, mark_of}

-- how many bytes stand before the first "/", all of them where there is none
unfoldable pub before : List ℕ → ℕ
before [] = 0
before (b ∷ s) = cond (eqb b slash) 0 (suc (before s))

-- the binary digits of n bytes
unfoldable pub digits_of : ℕ → ℕ
digits_of zero = 0
digits_of (suc n) = 8 + digits_of n

-- the lowest digit
even : (k n : ℕ) → count_trailing_zeros (suc k) (n * 2) ≡ suc (count_trailing_zeros k n)
unfolding count_trailing_zeros
even k n = ap₂ (λ (d h : ℕ). under d (count_trailing_zeros k h)) (mul-mod_left n 2) (mul-div_cancel n (zero-lt-suc 1))

odd : (k n : ℕ) → count_trailing_zeros (suc k) (n * 2 + 1) ≡ 0
unfolding count_trailing_zeros
odd k n = ap (λ (d : ℕ). under d (count_trailing_zeros k ((n * 2 + 1) / 2))) (digits_mod n {m = 2} {r = 1} (lit< tt))

-- the j lowest digits, if they are zeros
unfoldable doubled : ℕ → ℕ → ℕ
doubled zero n = n
doubled (suc j) n = doubled j n * 2

zeros_doubled : (j k n : ℕ) → count_trailing_zeros (j + k) (doubled j n) ≡ j + count_trailing_zeros k n
unfolding doubled
zeros_doubled zero k n = let e : 0 + k ≡ k = omega arith in ap (λ (m : ℕ). count_trailing_zeros m n) e ∙ omega arith
zeros_doubled (suc j) k n =
    let e : suc j + k ≡ suc (j + k) = omega arith in
    ap (λ (m : ℕ). count_trailing_zeros m (doubled j n * 2)) e
    ∙ even (j + k) (doubled j n)
    ∙ ap suc (zeros_doubled j k n)
    ∙ omega arith

-- a byte without a mark is eight zeros; one with a mark has seven below it
eight_times : (n : ℕ) → n * 256 ≡ doubled 8 n
unfolding doubled
eight_times n = omega arith

seven_times : (n : ℕ) → n * 256 + 128 ≡ doubled 7 (n * 2 + 1)
unfolding doubled
seven_times n = omega arith

unmarked : (k n : ℕ) → count_trailing_zeros (8 + k) (n * 256) ≡ 8 + count_trailing_zeros k n
unmarked k n = ap (count_trailing_zeros (8 + k)) (eight_times n) ∙ zeros_doubled 8 k n

marked : (k n : ℕ) → count_trailing_zeros (8 + k) (n * 256 + 128) ≡ 7
marked k n =
    let e : 8 + k ≡ 7 + suc k = omega arith in
    ap₂ count_trailing_zeros e (seven_times n) ∙ zeros_doubled 7 (suc k) (n * 2 + 1) ∙ ap (λ (z : ℕ). 7 + z) (odd k n)

-- one byte more, with a mark or without
one_more_lem : (k n b : ℕ) (x : Bool) → eqb b slash ≡ x
    → count_trailing_zeros (8 + k) (n * 256 + mark_of b) / 8 ≡ cond (eqb b slash) 0 (suc (count_trailing_zeros k n / 8))
unfolding mark_of
one_more_lem k n b true e = simp e (ap (λ (m : ℕ). m / 8) (marked k n))
one_more_lem k n b false e =
    let z : n * 256 + 0 ≡ n * 256 = omega arith in
    simp e (ap (λ (m : ℕ). count_trailing_zeros (8 + k) m / 8) z ∙ ap (λ (m : ℕ). m / 8) (unmarked k n) ∙ omega arith)

no_digits : count_trailing_zeros (digits_of 0) 0 / 8 ≡ 0
unfolding count_trailing_zeros digits_of
no_digits = refl

pub zeros_before : (t : List ℕ) → count_trailing_zeros (digits_of (length t)) (word (map mark_of t)) / 8 ≡ before t
unfolding word before digits_of
zeros_before [] = no_digits
zeros_before (b ∷ s) =
    one_more_lem (digits_of (length s)) (word (map mark_of s)) b (eqb b slash) refl
    ∙ ap (λ (n : ℕ). cond (eqb b slash) 0 (suc n)) (zeros_before s)
