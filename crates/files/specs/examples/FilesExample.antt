-- 02, request 3, in its smallest cases: the checker computes them.
use Rattle.std.specs.Prelude.{ℕ, ◌≡◌, refl, true, false, List, [], ◌∷◌, ◌++◌}
use Rattle.files.specs.meaning.Files.{rises, good_files, last_from, file_of}

-- with starts 0 and 5, place 4 is in file 0, 5 and the last place in file 1
pub places : (file_of (0 ∷ 5 ∷ []) 4 ≡ 0) × (file_of (0 ∷ 5 ∷ []) 5 ≡ 1) × (file_of (0 ∷ 5 ∷ []) 4294967295 ≡ 1)
unfolding file_of last_from
places = (refl, refl, refl)

-- sixteen entries pass, and seventeen do not
abbrev from1_to15 : List ℕ
from1_to15 = 1 ∷ 2 ∷ 3 ∷ 4 ∷ 5 ∷ 6 ∷ 7 ∷ 8 ∷ 9 ∷ 10 ∷ 11 ∷ 12 ∷ 13 ∷ 14 ∷ 15 ∷ []

pub sixteen : (good_files (0 ∷ from1_to15) ≡ true) × (good_files (0 ∷ from1_to15 ++ 16 ∷ []) ≡ false)
unfolding good_files rises
sixteen = (refl, refl)

-- empty, not from 0 on, not rising; and good ones
pub lists : (good_files [] ≡ false) × (good_files (1 ∷ []) ≡ false) × (good_files (0 ∷ 5 ∷ 5 ∷ []) ≡ false)
    × (good_files (0 ∷ 7 ∷ 5 ∷ []) ≡ false)
    × (good_files (0 ∷ []) ≡ true) × (good_files (0 ∷ 5 ∷ 7 ∷ []) ≡ true)
unfolding good_files rises
lists = (refl, refl, refl, refl, refl, refl)
