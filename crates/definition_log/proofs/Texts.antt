-- Texts in the bytes of a log, and words outside it.
use Prim.Native.Nat.{ℕ, suc, ◌+◌, ◌-◌, ◌≤◌, ◌<◌}
use mathlib.Core.Path.{◌≡◌, refl, ◌∙◌}
use mathlib.Core.List.{List, [], ◌∷◌, ◌++◌}
use native.Mathlib.Omega.{arith}
use lib.ListN.{length, get_or, take, drop, set, length-drop, length-set}
use lib.Seq.{length-take-le, get_or-take, get_or-drop}
use Rattle.paths_numbers.specs.meaning.Text.{written}
use Rattle.paths_numbers.proofs.Written.{written_nil, written_cons}

-- a text that ends within the bytes
pub text_within : (bytes : List ℕ) (start size : ℕ) → take (start + size - start) (drop start bytes) ≡ take size (drop start bytes)
text_within bytes start size =
    let e : start + size - start ≡ size = omega arith in
    rw e refl

-- a part of a list
abbrev pub part : List ℕ → ℕ → ℕ → List ℕ
part l from size = take size (drop from l)

pub part_length : (l : List ℕ) (from size : ℕ) → from + size ≤ length l → length (part l from size) ≡ size
part_length l from size h = length-take-le size (drop from l) (rw length-drop (omega arith))

pub part_at : (l : List ℕ) (from size i : ℕ) → i < size → get_or (part l from size) i 0 ≡ get_or l (from + i) 0
part_at l from size i h = get_or-take size (drop from l) i 0 h ∙ get_or-drop from l i 0

-- a text written behind another
pub written_twice : (d : List ℕ) (at : ℕ) (x y : List ℕ) → at + (length x + length y) ≤ length d
    → written (written d at x) (at + length x) y ≡ written d at (x ++ y)
written_twice d at [] y h =
    let e : at + 0 ≡ at = omega arith in
    rw (written_nil d at, e) refl
written_twice d at (b ∷ x) y h =
    let e : at + suc (length x) ≡ at + 1 + length x = omega arith in
    rw (e, written_cons d at b x (omega arith), written_cons d at b (x ++ y) (omega arith))
    (written_twice (set d at b) (at + 1) x y (rw length-set (omega arith)))
