-- The hex digits of a bytestring read byte by byte, paired to bytes, and written.
use Rattle.std.proofs.Common.{◌≡◌, ℕ, suc, Option, None, Some, ◌+◌, ◌*◌, ◌/◌, ◌%◌, ◌<◌, ◌≤◌, Bool, true, false, not, nat_lt, ◌==◌, List, []}
use Rattle.std.proofs.Common.{◌∷◌, length, get_or, drop, set, sym, refl, ap, ◌∙◌, add-one, arith, length-set, drop_of_length-le, drop-cons}
use Rattle.std.proofs.Common.{le-ltb, lt-ltb, eq-eqb, ne_eqb, le-leb}
use mathlib.Core.Option.{some, none}
use borrow.Author.Tests.{lt-leb}
use Rattle.std.specs.Char.{digit_value, is_digit}
use Rattle.std.specs.List.{count_by, filter, take_while}
use Rattle.std.proofs.lemmas.List.Sums.{length-filter, take_while-cons}
use Rattle.paths_numbers.proofs.Digits.{digit_same}
use Rattle.paths_numbers.proofs.Texts.{by_test}
use Rattle.paths_numbers.specs.meaning.Byte.{digit_of, closing_bracket}
use Rattle.paths_numbers.specs.meaning.Bytestring.{nibbles, pairs, bytes_of, is_odd, count_of, bytes_answer, bytes_out}
use Rattle.paths_numbers.specs.meaning.Code.{odd_digits}
use Rattle.paths_numbers.specs.meaning.Reading.{value, fails}
use Rattle.paths_numbers.specs.meaning.Text.{written}
use Rattle.paths_numbers.proofs.Written.{written_cons, written_nil}

-- what the byte at i adds to the digits: it ends them, is passed over, or is one
module _ (s : List ℕ) (i : ℕ) (h : i < length s) where
  pub nibbles_stop : get_or s i 0 ≡ closing_bracket → nibbles (drop i s) ≡ []
  unfolding nibbles
  nibbles_stop e = rw (drop-cons s i 0 h) (simp (eq-eqb _ _ e))

  module _ (no : get_or s i 0 ≡ closing_bracket → ⊥) where
    pub nibbles_skip : 16 ≤ digit_value (get_or s i 0) → nibbles (drop i s) ≡ nibbles (drop (i + 1) s)
    unfolding nibbles
    nibbles_skip k = rw (drop-cons s i 0 h, add-one, digit_same) (simp (ne_eqb _ _ no, le-ltb _ _ k))

    pub nibbles_digit : (d : ℕ) → d ≡ digit_value (get_or s i 0) → d < 16 → nibbles (drop i s) ≡ d ∷ nibbles (drop (i + 1) s)
    unfolding nibbles
    nibbles_digit d e k = rw (drop-cons s i 0 h, add-one, digit_same, ← e) (simp (ne_eqb _ _ no, lt-ltb _ _ k))

-- what the code counts
abbrev goes_on : ℕ → Bool
goes_on b = not (b == closing_bracket)

abbrev is_hex : ℕ → Bool
is_hex b = is_digit b 16

digits_before : (s : List ℕ) → length (filter is_hex (take_while goes_on s)) ≡ length (nibbles s)
unfolding nibbles
digits_before [] = refl
digits_before (b ∷ s) =
    ap (λ (l : List ℕ). length (filter is_hex l)) (take_while-cons goes_on b s)
    ∙ by_test (b == closing_bracket)
    (λ t. rw t refl)
    (λ t. by_test (nat_lt (digit_of b) 16)
    (λ d. let e : is_hex b ≡ true = rw digit_same at d in rw (t, d, e) (ap suc (digits_before s)))
    (λ d. let e : is_hex b ≡ false = rw digit_same at d in rw (t, d, e) (digits_before s)))

pub nibbles_counted : (s : List ℕ) → count_by (λ b. is_digit b 16) (take_while (λ b. not (b == closing_bracket)) s) ≡ length (nibbles s)
nibbles_counted s = sym (length-filter is_hex (take_while goes_on s)) ∙ digits_before s

-- past the last byte there are no digits
pub nibbles_done : (s : List ℕ) (i : ℕ) → length s ≤ i → nibbles (drop i s) ≡ []
unfolding nibbles
nibbles_done s i h = rw (drop_of_length-le s h)

-- two digits make a byte
pub length_pairs : (l : List ℕ) → length (pairs l) ≡ length l / 2
unfolding pairs
length_pairs [] = refl
length_pairs (h ∷ []) = refl
length_pairs (h ∷ l ∷ s) = omega (arith, length_pairs s)

-- the count of a text whose digits are counted
module _ (s : List ℕ) (n : ℕ) (e : n ≡ count_by (λ b. is_digit b 16) (take_while (λ b. not (b == closing_bracket)) s)) where
  pub count_odd : n % 2 ≡ 1 → fails odd_digits ≡ count_of s
  unfolding count_of
  count_odd h = simp (eq-eqb (length (nibbles s) % 2) 1 (rw (e, nibbles_counted s) at h))

  pub count_even : (n % 2 ≡ 1 → ⊥) → value (n / 2) ≡ count_of s
  unfolding count_of
  count_even h = rw (e, nibbles_counted s) (simp (ne_eqb (length (nibbles s) % 2) 1 (rw (e, nibbles_counted s) at h), length_pairs))

-- what a count tells of the text
pub count_missing : (s : List ℕ) → count_of s ≡ fails odd_digits → is_odd s ≡ true
unfolding count_of
count_missing s e = go (is_odd s) refl
  where
    go : (t : Bool) → is_odd s ≡ t → is_odd s ≡ true
    go true o = o
    go false o = let f : value (length (bytes_of s)) ≡ fails odd_digits = rw o at e in let z : ◌≡◌ {A = ℕ} 0 1 = cc in absurd (omega arith)

pub count_bytes : (s : List ℕ) (n : ℕ) → count_of s ≡ value n → (is_odd s ≡ false) × (length (bytes_of s) ≡ n)
unfolding count_of
count_bytes s n e = go (is_odd s) refl
  where
    go : (t : Bool) → is_odd s ≡ t → (is_odd s ≡ false) × (length (bytes_of s) ≡ n)
    go true o = let f : fails odd_digits ≡ value n = rw o at e in let z : ◌≡◌ {A = ℕ} 0 1 = cc in absurd (omega arith)
    go false o = let f : value (length (bytes_of s)) ≡ value n = rw o at e in (o, cc)

-- the digits from byte i on, behind a first one that waits for its second, if one waits
unfoldable pub digits_left : List ℕ → ℕ → Option ℕ → List ℕ
digits_left s i None = nibbles (drop i s)
digits_left s i (Some h) = h ∷ nibbles (drop i s)

-- at the start all digits are left
pub left_start : (s : List ℕ) → digits_left s 0 None ≡ nibbles s
unfolding digits_left
left_start s = refl

-- with no more digits in the text there is no more byte
pub left_end : (s : List ℕ) (i : ℕ) (first : Option ℕ) → nibbles (drop i s) ≡ [] → pairs (digits_left s i first) ≡ []
unfolding digits_left pairs
left_end s i None e = rw e refl
left_end s i (Some h) e = rw e refl

-- a byte that is no digit
pub left_skip : (s : List ℕ) (i : ℕ) (first : Option ℕ) → nibbles (drop i s) ≡ nibbles (drop (i + 1) s)
    → digits_left s i first ≡ digits_left s (i + 1) first
unfolding digits_left
left_skip s i None e = e
left_skip s i (Some h) e = rw e refl

-- a digit that has to wait, and one that makes a pair
module _ (s : List ℕ) (i d : ℕ) (e : nibbles (drop i s) ≡ d ∷ nibbles (drop (i + 1) s)) where
  pub left_wait : digits_left s i None ≡ digits_left s (i + 1) (Some d)
  unfolding digits_left
  left_wait = e

  pub left_pair : (h : ℕ) → digits_left s i (Some h) ≡ h ∷ d ∷ digits_left s (i + 1) None
  unfolding digits_left
  left_pair h = rw e refl

-- the bytes of the digits l are still to be written from `to` on to make w, and there is room for them
pub record ToWrite (w l out : List ℕ) (to : ℕ) : Type 0 where
  pub whole : w ≡ written out to (pairs l)
  pub room : to + length (pairs l) ≤ length out

-- a pair is written, and the rest is left
pub write_room : {w l out : List ℕ} {to h d : ℕ} → ToWrite w (h ∷ d ∷ l) out to → to < length out
unfolding pairs
write_room t = omega arith

pub write_pair : {w l out : List ℕ} {to h d : ℕ} → ToWrite w (h ∷ d ∷ l) out to → ToWrite w l (set out to (h * 16 + d)) (to + 1)
unfolding pairs
write_pair {w} {l} {out} {to} {h} {d} t =
    record {
      whole = t.whole ∙ written_cons out to (h * 16 + d) (pairs l) (omega arith);
      room = simp length-set (omega arith);
    }

-- nothing is left
pub write_end : {w l out : List ℕ} {to : ℕ} → ToWrite w l out to → pairs l ≡ [] → out ≡ w
write_end {w} {l} {out} {to} t e = sym (t.whole ∙ rw e (written_nil out to))

-- the answer and the buffer where a digit is missing, where the bytes fit, and where they do not
pub lowered_missing : (s out : List ℕ) (at : ℕ) → count_of s ≡ fails odd_digits
    → (some (fails odd_digits) ≡ bytes_answer s (length out) at) × (out ≡ bytes_out s out at)
unfolding bytes_answer bytes_out
lowered_missing s out at e = let o = count_missing s e in (simp o, simp o)

module _ (s out : List ℕ) (at n : ℕ) (e : count_of s ≡ value n) where
  pub lowered_room : at + n ≤ length out → (some (value n) ≡ bytes_answer s (length out) at) × (written out at
      (bytes_of s) ≡ bytes_out s out at)
  unfolding bytes_answer bytes_out
  lowered_room h = let o = count_bytes s n e in (simp (o.0, o.1, le-leb _ _ h), simp (o.0, o.1, le-leb _ _ h))

  pub lowered_none : length out < at + n → (none ≡ bytes_answer s (length out) at) × (out ≡ bytes_out s out at)
  unfolding bytes_answer bytes_out
  lowered_none h = let o = count_bytes s n e in (simp (o.0, o.1, lt-leb _ _ h), simp (o.0, o.1, lt-leb _ _ h))
