-- 02, request 2: "C integers in cells". What it changes, by 01's rule before it: a text that starts with 0 and goes on with anything else
-- than the known prefixes reads as it did with 0o in front, and every other text reads as it did.
use Rattle.std.specs.Prelude.{◌≡◌, ℕ, Bool, false, cond, not, List, ◌∷◌, drop, ℤ, ◌==◌, slice_index}
use Rattle.paths_numbers.specs.meaning.Reading.{Reading}
use Rattle.paths_numbers.specs.meaning.Number.{trimmed, unsigned, signed, has_prefix, unsigned_number, signed_number}

-- 01: "After 0x/0X … base 16, after 0b/0B base 2, after 0o/0O base 8, else base 10, leading zeros included."
abbrev pub base_of_letter01 : ℕ → ℕ
base_of_letter01 c =
    cond (c == 120) 16
    (cond (c == 88) 16
    (cond (c == 98) 2
    (cond (c == 66) 2
    (cond (c == 111) 8
    (cond (c == 79) 8
    10)))))

unfoldable pub base_of01 : List ℕ → ℕ
base_of01 s = cond (slice_index s 0 == 48) (base_of_letter01 (slice_index s 1)) 10

-- the part behind the prefix
unfoldable pub behind_prefix01 : List ℕ → List ℕ
behind_prefix01 s = cond (base_of01 s == 10) s (drop 2 s)

-- a number's text by 01's rule, unsigned and signed
unfoldable pub unsigned_number01 : ℕ → List ℕ → Reading ℕ
unsigned_number01 most text = unsigned (base_of01 (trimmed text)) most (behind_prefix01 (trimmed text))

unfoldable pub signed_number01 : List ℕ → Reading ℤ
signed_number01 text = signed (base_of01 (trimmed text)) (behind_prefix01 (trimmed text))

-- a text that the request speaks of: without its suffixes it starts with 0, and with no known prefix
unfoldable pub is_octal : List ℕ → Bool
is_octal text = cond (slice_index (trimmed text) 0 == 48) (not (has_prefix (trimmed text))) false

-- the text whose reading by 01 is the text's reading now: with 0o in front where the request speaks of it
unfoldable pub as_before : List ℕ → List ℕ
as_before text = cond (is_octal text) (48 ∷ 111 ∷ text) text

-- the claim: every reading, at each unsigned limit and signed, is 01's of that text
pub record OctalAlone : Type 0 where
  pub unsigned_same : (most : ℕ) (text : List ℕ) → unsigned_number most text ≡ unsigned_number01 most (as_before text)
  pub signed_same : (text : List ℕ) → signed_number text ≡ signed_number01 (as_before text)
