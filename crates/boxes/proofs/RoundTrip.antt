-- Reading then writing returns the bytes, and writing then reading the number.
use Prim.Native.Nat.{ℕ, zero, suc, ◌+◌, ◌*◌, ◌/◌, ◌%◌, ◌<◌}
use mathlib.Core.Path.{◌≡◌, refl, sym, ap, ap₂, ◌∙◌, subst}
use mathlib.Core.Bool.{true}
use Rattle.std.specs.Prelude.{Option, Some, None}
use mathlib.Core.List.{List, [], ◌∷◌, ◌++◌}
use native.Mathlib.Nat.{mod-lt, div-add-mod', div-lt_iff_lt-mul, div-div-eq-div-mul, mul_comm, div-one, add-mul, mul_assoc}
use native.Mathlib.Omega.{arith}
use borrow.Author.Tests.{ltb-true, lt-ltb}
use lib.Arith.{digits_div, digits_mod, digits_lt}
use lib.Dec.{ltb, lit<}
use lib.ListN.{length, length-append}
use Rattle.paths_numbers.proofs.Texts.{by_test}
use Rattle.definition_log.specs.meaning.Answer.{Answered, success, refused_length}
use Rattle.boxes.specs.meaning.Box.{is_packed, two_digits, pack, value_behind, packed_value, hundreds, packed_bytes, is_length}
use Rattle.boxes.specs.meaning.Box.{BoxRead, read_told, no_box, read_answer, returns0, write_number, write_answer, write_out}
use Rattle.boxes.specs.meaning.Box.{ReadThenWrite, WriteThenRead}
use Rattle.boxes.proofs.Limits.{two_lt, pack_two, two_pack, packs}

-- a byte that is read has two digits, and the rest is read behind it
abbrev behind : ℕ → ℕ → ℕ
behind n b = n * 100 + two_digits b

first_read : (b : ℕ) (s : List ℕ) (n m : ℕ) → value_behind n (b ∷ s) ≡ Some m
    → (is_packed b ≡ true) × (value_behind (behind n b) s ≡ Some m)
unfolding value_behind
first_read b s n m e =
    by_test (is_packed b) (λ t. (t, rw t at e)) (λ t. let h = rw t at e in absurd (cc))

read_first : (b : ℕ) (s : List ℕ) (n : ℕ) → is_packed b ≡ true → value_behind n (b ∷ s) ≡ value_behind (behind n b) s
unfolding value_behind
read_first b s n t = rw t refl

-- ---- writing then reading

-- one byte more at the end
read_last : (s : List ℕ) (n m b : ℕ) → value_behind n s ≡ Some m → is_packed b ≡ true → value_behind n (s ++ b ∷ []) ≡ Some (behind m b)
unfolding value_behind
read_last [] n m b e p =
    let q : n ≡ m = cc in
    read_first b [] n p ∙ ap (λ (k : ℕ). Some (behind k b)) q
read_last (a ∷ s) n m b e p =
    let f = first_read a s n m e in
    read_first a (s ++ b ∷ []) n f.0 ∙ read_last s (behind n a) m b f.1 p

written : (k n : ℕ) → n < hundreds k → value_behind 0 (packed_bytes k n) ≡ Some n
unfolding packed_bytes hundreds value_behind
written zero n h = ap Some (omega arith)
written (suc k) n h =
    let l : n % 100 < 100 = mod-lt n {m = 100} (lit< tt) in
    let high = written k (n / 100) ((div-lt_iff_lt-mul {k = 100} (lit< tt)).1 h) in
    read_last (packed_bytes k (n / 100)) 0 (n / 100) (pack (n % 100)) high (packs (n % 100) l)
    ∙ ap Some (ap (λ (d : ℕ). n / 100 * 100 + d) (two_pack (n % 100) l) ∙ div-add-mod' n 100)

bytes_length_lem : (k n : ℕ) → length (packed_bytes k n) ≡ k
unfolding packed_bytes
bytes_length_lem zero n = refl
bytes_length_lem (suc k) n = omega (arith, length-append (packed_bytes k (n / 100)) (pack (n % 100) ∷ []), bytes_length_lem k (n / 100))

-- ---- reading then writing

-- the first byte of k + 1
head : (k n : ℕ) → packed_bytes (suc k) n ≡ pack (n / hundreds k % 100) ∷ packed_bytes k n
unfolding packed_bytes hundreds
head zero n = ap (λ (m : ℕ). pack (m % 100) ∷ []) (sym (div-one n))
head (suc k) n =
    let q : n / 100 / hundreds k ≡ n / (hundreds k * 100) =
    div-div-eq-div-mul n 100 (hundreds k) ∙ ap (λ (m : ℕ). n / m) (mul_comm 100 (hundreds k)) in
    ap (λ (l : List ℕ). l ++ pack (n % 100) ∷ []) (head k (n / 100))
    ∙ ap (λ (m : ℕ). pack (m % 100) ∷ packed_bytes k (n / 100) ++ pack (n % 100) ∷ []) q

regroup : (n d h r : ℕ) → (n * 100 + d) * h + r ≡ n * (h * 100) + (d * h + r)
regroup n d h r =
    let a = add-mul (n * 100) d h in
    let b : n * 100 * h ≡ n * (h * 100) = mul_assoc n 100 h ∙ ap (λ (x : ℕ). n * x) (mul_comm 100 h) in
    omega (arith, a, b)

-- what is read is what stood before, and a rest that fits the bytes
high : (s : List ℕ) (n m : ℕ) → value_behind n s ≡ Some m → (r : ℕ) × (m ≡ n * hundreds (length s) + r) × (r < hundreds (length s))
unfolding value_behind hundreds
high [] n m e = let q : n ≡ m = cc in (0, omega arith, omega arith)
high (b ∷ s) n m e =
    let f = first_read b s n m e in
    let h = high s (behind n b) m f.1 in
    let p : ℕ = hundreds (length s) in
    let w = subst (λ (x : ℕ). two_digits b * p + h.0 < x) (mul_comm 100 p) (digits_lt (two_lt b f.0) h.2) in
    (two_digits b * p + h.0, h.1 ∙ regroup n (two_digits b) p h.0, w)

read_back : (s : List ℕ) (n m : ℕ) → value_behind n s ≡ Some m → packed_bytes (length s) m ≡ s
unfolding packed_bytes
read_back [] n m e = refl
read_back (b ∷ s) n m e =
    let f = first_read b s n m e in
    let h = high s (behind n b) m f.1 in
    let p : ℕ = hundreds (length s) in
    let q : m / p ≡ behind n b = ap (λ (x : ℕ). x / p) h.1 ∙ digits_div (behind n b) h.2 in
    head (length s) m
    ∙ ap₂ (λ (x : ℕ) (l : List ℕ). pack (x % 100) ∷ l) q (read_back s (behind n b) m f.1)
    ∙ ap (λ (x : ℕ). pack x ∷ s) (digits_mod n {m = 100} {r = two_digits b} (two_lt b f.0))
    ∙ ap (λ (x : ℕ). x ∷ s) (pack_two b f.0)

-- ---- the two theorems

of_told : (o : Option ℕ) (n : ℕ) → read_told o ≡ record { number = success; value = n } → o ≡ Some n
of_told (Some m) n e = let q : m ≡ n = ap (λ (a : BoxRead). a.value) e in ap Some q
of_told None n e = let q : ◌≡◌ {A = ℕ} 11 0 = ap (λ (a : BoxRead). a.number) e in absurd (omega arith)

not_read : (n : ℕ) → no_box refused_length ≡ record { number = success; value = n } → ⊥
not_read n e = let q : ◌≡◌ {A = ℕ} 12 0 = ap (λ (a : BoxRead). a.number) e in omega arith

not_success : (k : ℕ) → returns0 (suc k) ≡ returns0 success → ⊥
not_success k e = let q : suc k ≡ 0 = ap (λ (a : Answered). a.number) e in omega arith

-- what was read fits its length
within : (s : List ℕ) (n : ℕ) → value_behind 0 s ≡ Some n → n < hundreds (length s)
within s n e = let h = high s 0 n e in omega (arith, h.1, h.2)

pub read_then_write : ReadThenWrite
unfolding ReadThenWrite read_answer write_answer write_out write_number packed_value
read_then_write s out n e l = by_test (is_length (length s)) good (λ x. absurd (not_read n (simp x at e)))
  where
    good : is_length (length s) ≡ true → (write_answer (length out) n ≡ returns0 success) × (write_out out n ≡ s)
    good x =
        let r = of_told (value_behind 0 s) n (simp x at e) in
        let y = lt-ltb _ _ (within s n r) in
        rw (l, x, y) (refl, read_back s 0 n r)

pub write_then_read : WriteThenRead
unfolding WriteThenRead read_answer write_answer write_out write_number packed_value
write_then_read out n e = by_test (is_length (length out)) good (λ x. absurd (not_success 11 (simp x at e)))
  where
    good : is_length (length out) ≡ true → read_answer (write_out out n) ≡ record { number = success; value = n }
    good x = by_test (ltb n (hundreds (length out))) fits (λ y. absurd (not_success 12 (simp (x, y) at e)))
      where
        fits : ltb n (hundreds (length out)) ≡ true → read_answer (write_out out n) ≡ record { number = success; value = n }
        fits y =
            let l : is_length (length (packed_bytes (length out) n)) ≡ true = ap is_length (bytes_length_lem (length out) n) ∙ x in
            simp (x, y, l) (ap read_told (written (length out) n (ltb-true _ _ y)))
