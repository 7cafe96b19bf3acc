-- A byte read behind those before it, and a byte written in front of those behind it.
use Prim.Native.Nat.{ℕ, suc, ◌+◌, ◌-◌, ◌*◌, ◌/◌, ◌%◌, ◌≤◌, ◌<◌}
use mathlib.Core.Path.{◌≡◌, refl, sym, ap, ◌∙◌, subst}
use mathlib.Core.Bool.{true, false}
use Rattle.std.specs.Prelude.{Option, Some, None, ok_or}
use Rattle.definition_log.specs.declared.answer.Refusal.TheVariants.{Digit}
use mathlib.Core.List.{List, [], ◌∷◌, ◌++◌, append_assoc}
use native.Mathlib.Numerals.{add-one}
use native.Mathlib.Omega.{arith}
use lib.ListN.{length, get_or, drop, set, drop_of_length-le, length-set}
use lib.Seq.{drop-cons, drop-set-lt, get_or-set_same}
use Rattle.boxes.specs.meaning.Box.{is_packed, two_digits, pack, value_behind, packed_bytes, box_told, read_told}

module _ (s : List ℕ) (i n : ℕ) (w : Option ℕ) (inv : w ≡ value_behind n (drop i s)) where
  pub good_byte : i < length s → is_packed (get_or s i 0) ≡ true → w ≡ value_behind (n * 100 + two_digits (get_or s i 0)) (drop (i + 1) s)
  unfolding value_behind
  good_byte h e = inv ∙ rw (drop-cons s i 0 h, add-one) (simp e)

  pub bad_byte : i < length s → is_packed (get_or s i 0) ≡ false → w ≡ None
  unfolding value_behind
  bad_byte h e = inv ∙ rw (drop-cons s i 0 h) (simp e)

  pub all_read : length s ≤ i → w ≡ Some n
  unfolding value_behind
  all_read h = inv ∙ rw (drop_of_length-le s h) refl

-- the bytes still to be written, in front of those that are
pub put : (out all : List ℕ) (j rest : ℕ) → j < length out → all ≡ packed_bytes (suc j) rest ++ drop (suc j) out
    → all ≡ packed_bytes j (rest / 100) ++ drop j (set out j (pack (rest % 100)))
unfolding packed_bytes
put out all j rest h e =
    let p : ℕ = pack (rest % 100) in
    e ∙ append_assoc (packed_bytes j (rest / 100)) (p ∷ []) (drop (suc j) out)
    ∙ ap (λ (x : List ℕ). packed_bytes j (rest / 100) ++ x) (sym set_there)
  where
    set_there : drop j (set out j (pack (rest % 100))) ≡ pack (rest % 100) ∷ drop (suc j) out
    set_there =
        let p : ℕ = pack (rest % 100) in
        drop-cons (set out j p) j 0 (omega (arith, length-set out j p))
        ∙ ap (λ (x : ℕ). x ∷ drop (suc j) (set out j p)) (get_or-set_same out j p 0 h)
        ∙ ap (λ (x : List ℕ). p ∷ x) (drop-set-lt (suc j) out j p (omega arith))

pub put_at : (out all : List ℕ) (i rest : ℕ) → 0 < i → i ≤ length out → all ≡ packed_bytes i rest ++ drop i out
    → all ≡ packed_bytes (i - 1) (rest / 100) ++ drop (i - 1) (set out (i - 1) (pack (rest % 100)))
put_at out all i rest p h e =
    let j : i ≡ suc (i - 1) = omega arith in
    put out all (i - 1) rest (omega arith) (subst (λ (k : ℕ). all ≡ packed_bytes k rest ++ drop k out) j e)

pub ended : (out all : List ℕ) (i rest : ℕ) → i ≤ 0 → all ≡ packed_bytes i rest ++ drop i out → all ≡ out
unfolding packed_bytes
ended out all i rest h e = let z : i ≡ 0 = omega arith in subst (λ (k : ℕ). all ≡ packed_bytes k rest ++ drop k out) z e

-- what the reader tells of the number that it read
pub read_of : (o : Option ℕ) → box_told (ok_or o Digit) ≡ read_told o
read_of (Some n) = refl
read_of None = refl
