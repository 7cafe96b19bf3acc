-- The number of a refusal by rows 1 to 6.
use Prim.Native.Nat.{ℕ, ◌≤◌}
use mathlib.Core.Path.{◌≡◌}
use mathlib.Core.Bool.{Bool, true, false, cond}
use mathlib.Core.List.{List}
use mathlib.Core.Option.{Option, some, none}
use native.Mathlib.Omega.{arith}
use Rattle.input.specs.meaning.Rows.{Verdict, accepted, refused, or_else, verdict, wrong_size, row_two, row_three, row_four, row_five}
use Rattle.input.specs.meaning.Rows.{row_six}

-- no refusal has the number 0
data Told : Verdict → Type 0 where
  told_accepted : Told accepted
  told_refused : {n r : ℕ} → 1 ≤ n → Told (refused n r)

told_or : (n : ℕ) → 1 ≤ n → (o : Option ℕ) {v : Verdict} → Told v → Told (or_else n o v)
told_or n p (some r) t = told_refused p
told_or n p none t = t

told_cond : (q : Bool) {v u : Verdict} → Told v → Told u → Told (cond q v u)
told_cond true x y = x
told_cond false x y = y

told : (words text : List ℕ) → Told (verdict words text)
unfolding verdict
told words text =
    told_cond (wrong_size words text) (told_refused (omega arith))
    (told_or 2 (omega arith) (row_two words)
    (told_or 3 (omega arith) (row_three words text)
    (told_or 4 (omega arith) (row_four words)
    (told_or 5 (omega arith) (row_five words text)
    (told_or 6 (omega arith) (row_six words) told_accepted)))))

refused_number_lem : {v : Verdict} {n r : ℕ} → Told v → v ≡ refused n r → n ≡ 0 → ⊥
refused_number_lem told_accepted e z = let q : ◌≡◌ {A = ℕ} 0 1 = cc in omega arith
refused_number_lem {n = n} (told_refused {n = m} p) e z = let q : m ≡ n = cc in omega arith

pub refusal_number : (words text : List ℕ) {n r : ℕ} → verdict words text ≡ refused n r → n ≡ 0 → ⊥
refusal_number words text v z = refused_number_lem (told words text) v z
