-- Powers of 100, and the two digits of a byte.
use Prim.Native.Nat.{ℕ, zero, suc, ◌+◌, ◌-◌, ◌*◌, ◌/◌, ◌%◌, ◌^◌, ◌≤◌, ◌<◌}
use mathlib.Core.Path.{◌≡◌, refl, sym, ap, ap₂, ◌∙◌}
use mathlib.Core.Bool.{Bool, true, false, not, cond}
use native.Mathlib.Nat.{mod-lt, div-add-mod', add-zero, add-suc, pow-suc}
use native.Mathlib.Numerals.{add-one}
use native.Mathlib.Omega.{arith}
use borrow.Author.Tests.{leb-true, le-leb, ltb-true, ltb-false, lt-ltb, le-ltb, ne_eqb}
use lib.Arith.{digits_div, digits_mod}
use lib.Dec.{eqb, leb, ltb, lit<}
use Rattle.paths_numbers.proofs.Texts.{both, by_test}
use Rattle.boxes.specs.meaning.Box.{is_packed, is_length, two_digits, pack, hundreds}

pub hundreds_pos : (k : ℕ) → 0 < hundreds k
unfolding hundreds
hundreds_pos zero = omega arith
hundreds_pos (suc k) = omega (arith, hundreds_pos k)

one_more_lem : (n : ℕ) → hundreds n ≤ hundreds (suc n)
unfolding hundreds
one_more_lem n = omega arith

pub grows : (n : ℕ) → hundreds (n + 1) ≡ hundreds n * 100
unfolding hundreds
grows n = ap hundreds (add-one n)

-- up to 8 bytes fit
rises : (k d : ℕ) → hundreds k ≤ hundreds (k + d)
rises k zero = omega (arith, ap hundreds (add-zero k))
rises k (suc d) = omega (arith, rises k d, ap hundreds (add-suc k d), one_more_lem (k + d))

pub at_most : (k m : ℕ) → k ≤ m → hundreds k ≤ hundreds m
at_most k m h = let e : k + (m - k) ≡ m = omega arith in omega (arith, rises k (m - k), ap hundreds e)

pub eight : hundreds 8 ≡ 10000000000000000
unfolding hundreds
eight = refl

pub seven : hundreds 7 ≡ 100000000000000
unfolding hundreds
seven = refl

-- as the power that code computes
pub hundreds_pow : (k : ℕ) → hundreds k ≡ 100 ^ k
unfolding hundreds
hundreds_pow zero = refl
hundreds_pow (suc k) = omega (arith, hundreds_pow k, pow-suc 100 k)

-- a packed byte and its two digits
both_small : (b : ℕ) → is_packed b ≡ true → (b / 16 ≤ 9) × (b % 16 ≤ 9)
unfolding is_packed
both_small b e = let h = both (leb (b / 16) 9) (leb (b % 16) 9) e in (leb-true (b / 16) 9 h.0, leb-true (b % 16) 9 h.1)

pub two_lt : (b : ℕ) → is_packed b ≡ true → two_digits b < 100
unfolding two_digits
two_lt b e = let s = both_small b e in omega (arith, s.0, s.1)

pub pack_two : (b : ℕ) → is_packed b ≡ true → pack (two_digits b) ≡ b
unfolding pack two_digits
pack_two b e =
    let s = both_small b e in
    let l : b % 16 < 10 = omega (arith, s.1) in
    ap₂ (λ (x y : ℕ). x * 16 + y) (digits_div (b / 16) {m = 10} {r = b % 16} l) (digits_mod (b / 16) {m = 10} {r = b % 16} l)
    ∙ div-add-mod' b 16

pub two_pack : (d : ℕ) → d < 100 → two_digits (pack d) ≡ d
unfolding pack two_digits
two_pack d h =
    let l : d % 10 < 16 = omega (arith, mod-lt d {m = 10} (lit< tt)) in
    ap₂ (λ (x y : ℕ). x * 10 + y) (digits_div (d / 10) {m = 16} {r = d % 10} l) (digits_mod (d / 10) {m = 16} {r = d % 10} l)
    ∙ div-add-mod' d 10

pub packs : (d : ℕ) → d < 100 → is_packed (pack d) ≡ true
unfolding is_packed pack
packs d h =
    let l : d % 10 < 10 = mod-lt d {m = 10} (lit< tt) in
    let k : d % 10 < 16 = omega arith in
    let q : (d / 10 * 16 + d % 10) / 16 ≡ d / 10 = digits_div (d / 10) {m = 16} {r = d % 10} k in
    let r : (d / 10 * 16 + d % 10) % 16 ≡ d % 10 = digits_mod (d / 10) {m = 16} {r = d % 10} k in
    let t : d / 10 ≤ 9 = omega arith in
    let u : (d / 10 * 16 + d % 10) / 16 ≤ 9 = omega (arith, q) in
    let v : (d / 10 * 16 + d % 10) % 16 ≤ 9 = omega (arith, r) in
    simp (le-leb _ _ u, le-leb _ _ v)

-- a length that is one is at most 8
pub length_most : (k : ℕ) → is_length k ≡ true → k ≤ 8
unfolding is_length
length_most k e = leb-true k 8 (both (not (eqb k 0)) (leb k 8) (turned (eqb k 0) e)).1
  where
    turned : (t : Bool) → cond t false (leb k 8) ≡ true → cond (not t) (leb k 8) false ≡ true
    turned true h = h
    turned false h = h

-- a number fits so many bytes if it fits them without its last two digits and without the last byte
pub fits_less : (n k : ℕ) → 0 < k → ltb n (hundreds k) ≡ ltb (n / 100) (hundreds (k - 1))
fits_less n k p = by_test (ltb (n / 100) (hundreds (k - 1))) good bad
  where
    more : hundreds k ≡ hundreds (k - 1) * 100
    more = let e : k - 1 + 1 ≡ k = omega arith in sym (ap hundreds e) ∙ grows (k - 1)

    good : ltb (n / 100) (hundreds (k - 1)) ≡ true → ltb n (hundreds k) ≡ ltb (n / 100) (hundreds (k - 1))
    good t = lt-ltb n (hundreds k) (omega (arith, ltb-true (n / 100) (hundreds (k - 1)) t, more)) ∙ sym t

    bad : ltb (n / 100) (hundreds (k - 1)) ≡ false → ltb n (hundreds k) ≡ ltb (n / 100) (hundreds (k - 1))
    bad t = le-ltb n (hundreds k) (omega (arith, ltb-false (n / 100) (hundreds (k - 1)) t, more)) ∙ sym t

-- 0 fits any bytes, and nothing else fits none
pub zero_fits : (n k : ℕ) → n ≡ 0 → ltb n (hundreds k) ≡ true
zero_fits n k e = lt-ltb n (hundreds k) (omega (arith, hundreds_pos k))

pub fits_none : (n k : ℕ) → k ≤ 0 → ltb n (hundreds k) ≡ eqb n 0
unfolding hundreds
fits_none n k h = let z : k ≡ 0 = omega arith in ap (λ (j : ℕ). ltb n (hundreds j)) z ∙ below_one n
  where
    below_one : (m : ℕ) → ltb m 1 ≡ eqb m 0
    below_one zero = refl
    below_one (suc m) = le-ltb (suc m) 1 (omega arith) ∙ sym (ne_eqb (suc m) 0 (λ (e : suc m ≡ 0). omega arith))
