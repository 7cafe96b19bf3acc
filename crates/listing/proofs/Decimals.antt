-- The digits that std prints of a number are the decimal ones of a listing.
use Rattle.std.proofs.Common.{◌≡◌, ℕ, zero, suc, ◌+◌, ◌/◌, ◌%◌, ◌^◌, ◌<◌, ◌∷◌, [], ◌++◌, ap, ◌∙◌, arith}
use native.Mathlib.Nat.{pow-suc, div-lt_iff_lt-mul}
use borrow.Author.Tests.{lt-ltb, ltb-true, ltb-false}
use lib.Dec.{ltb}
use Rattle.std.specs.Fmt.{decimal as printed_decimal}
use Rattle.std.proofs.lemmas.Fmt.{decimal_digit, decimal_step}
use Rattle.paths_numbers.proofs.Texts.{by_test}
use Rattle.listing.specs.meaning.Listing.{decimal_of, decimal}

-- a number of at most so many digits and one more
digits_of_lem : (k n : ℕ) → n < 10 ^ suc k → n < 2 ^ 64 → printed_decimal n ≡ decimal_of (suc k) n
unfolding decimal_of
digits_of_lem zero n h l =
    let small : n < 10 = omega (arith, h) in
    rw (lt-ltb n 10 small) (decimal_digit n small)
digits_of_lem (suc k) n h l =
    by_test (ltb n 10)
    (λ t. rw t (decimal_digit n (ltb-true n 10 t)))
    (λ t.
    let less : n / 10 < 10 ^ suc k = (div-lt_iff_lt-mul {k = 10} (omega arith)).1 (rw (pow-suc 10 (suc k)) at h) in
    rw t (decimal_step n (ltb-false n 10 t) l ∙ ap (λ s. s ++ (48 + n % 10) ∷ []) (digits_of_lem k (n / 10) less (omega (arith, l)))))

pub decimal_digits : (n : ℕ) → n < 2 ^ 32 → printed_decimal n ≡ decimal n
unfolding decimal
decimal_digits n l = digits_of_lem 9 n (omega (arith, l)) (omega (arith, l))
