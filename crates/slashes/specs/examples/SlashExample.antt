-- 02, request 8, in its smallest cases: the checker computes them.
use Rattle.std.specs.Prelude.{ℕ, ◌≡◌, refl, List, [], ◌∷◌, Some, None}
use Rattle.slashes.specs.meaning.Slash.{slash, first_from, next_slash}
use Rattle.slashes.specs.machine.Word.{word, mark_of}

-- "a/b/c" has a "/" at 1 and at 3; a place at or behind the end gives none, also the largest of 64 bits
abbrev three_components : List ℕ
three_components = 97 ∷ slash ∷ 98 ∷ slash ∷ 99 ∷ []

pub places : (next_slash three_components 0 ≡ Some 1) × (next_slash three_components 1 ≡ Some 1) × (next_slash three_components 2 ≡ Some 3)
    × (next_slash three_components 4 ≡ None) × (next_slash three_components 5 ≡ None) × (next_slash three_components 9 ≡ None)
    × (next_slash three_components 0xffff_ffff_ffff_ffff ≡ None)
unfolding next_slash first_from
places = (refl, refl, refl, refl, refl, refl, refl)

-- the bytes next to "/" and with its low bits, 0 and 255 are none
abbrev neighbours : List ℕ
neighbours = 0x2e ∷ 0x30 ∷ 0xaf ∷ 0x00 ∷ 0xff ∷ 0x2e ∷ 0x30 ∷ 0xaf ∷ slash ∷ slash ∷ []

pub none_of_these : (next_slash neighbours 0 ≡ Some 8) × (next_slash neighbours 9 ≡ Some 9)
unfolding next_slash first_from
none_of_these = (refl, refl)

-- a word has its low byte first, and each byte its own mark
pub low_first : word (1 ∷ 2 ∷ []) ≡ 513
unfolding word
low_first = refl

pub marks : (mark_of slash ≡ 128) × (mark_of 0x30 ≡ 0) × (mark_of 0xaf ≡ 0)
unfolding mark_of
marks = (refl, refl, refl)
