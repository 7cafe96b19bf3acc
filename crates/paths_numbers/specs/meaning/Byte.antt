-- The bytes that 01's rules name, and the value of a digit.
use Rattle.std.specs.Prelude.{ℕ, ◌-◌, cond, nat_le}
use Rattle.slashes.specs.meaning.Slash as Slash

-- "/"
abbrev pub slash : ℕ
slash = Slash.slash

-- "@", between a name and its unit address
abbrev pub at_sign : ℕ
at_sign = 64

-- "+" and "-"
abbrev pub plus : ℕ
plus = 43

abbrev pub minus : ℕ
minus = 45

-- "]", which ends a bytestring
abbrev pub closing_bracket : ℕ
closing_bracket = 93

-- "&", "{" and "}", around a raw reference
abbrev pub ampersand : ℕ
ampersand = 38

abbrev pub opening_brace : ℕ
opening_brace = 123

abbrev pub closing_brace : ℕ
closing_brace = 125

-- what a byte that is no digit counts as: more than any base has
abbrev pub no_digit : ℕ
no_digit = 36

-- the value of a digit: 0 to 9, then the letters a to z of either case from 10 on
unfoldable pub digit_of : ℕ → ℕ
digit_of b =
    cond (nat_le 48 b)
    (cond (nat_le b 57) (b - 48)
    (cond (nat_le 65 b)
    (cond (nat_le b 90) (b - 55)
    (cond (nat_le 97 b) (cond (nat_le b 122) (b - 87) no_digit) no_digit))
    no_digit))
    no_digit
