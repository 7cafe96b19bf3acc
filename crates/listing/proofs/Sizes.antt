-- Inputs that are refused by their size (cause 1), and those that are cut short.
use Prim.Native.Nat.{ℕ, ◌+◌, ◌-◌, ◌*◌, ◌≤◌, ◌<◌}
use mathlib.Core.Path.{◌≡◌, refl, sym, ap, subst, ◌∙◌}
use mathlib.Core.Bool.{true}
use mathlib.Core.List.{List}
use Rattle.std.specs.Prelude.{Option as Maybe, Some, None, Result, Ok, Err, IfSome, OnOk}
use Rattle.std.specs.Io.KnownBytes.{Appends, Consumes, IsAtEnd}
use native.Mathlib.Nat.{mul-div_cancel}
use native.Mathlib.Omega.{arith}
use borrow.Author.Tests.{lt-ltb, le-ltb, lt-leb, ltb-true, ltb-false}
use lib.Dec.{eqb, leb, ltb}
use lib.ListN.{length, take, drop, length-take, length-drop, length-append}
use lib.Seq.{take_all, take_at, length-take-le}
use Rattle.paths_numbers.proofs.Texts.{by_test, rest}
use Rattle.input.specs.meaning.Input.{record_count}
use Rattle.input.specs.meaning.Rows.{most_records, most_text, wrong_size}
use Rattle.input.proofs.RowsFound.{verdict_one}
use Rattle.listing.specs.meaning.Listing.{refusal_line}
use Rattle.listing.specs.meaning.Program.{word_bytes, words_of, count_in, text_from, words_in, text_in, listed, printed, most_read, ReadOf}
use Rattle.listing.proofs.InputWords.{words_length}

-- too many records, and too much text
many_records : (words text : List ℕ) → most_records < record_count words → wrong_size words text ≡ true
unfolding wrong_size
many_records words text h =
    by_test (eqb (length words) (record_count words * 8))
    (λ t. rw (t, lt-leb (record_count words) most_records h) (by_test (leb 1 (record_count words)) (λ u. rw u refl) (λ u. rw u refl)))
    (λ t. rw t refl)

long_text : (words text : List ℕ) → most_text < length text → wrong_size words text ≡ true
unfolding wrong_size
long_text words text h =
    by_test (eqb (length words) (record_count words * 8))
    (λ t.
    rw (t, lt-ltb most_text (length text) h)
    (by_test (leb 1 (record_count words))
    (λ u. rw u (by_test (leb (record_count words) most_records) (λ v. rw v refl) (λ v. rw v refl)))
    (λ u. rw u refl)))
    (λ t. rw t refl)

wrong_listed : (words text : List ℕ) → wrong_size words text ≡ true → refusal_line 1 0 ≡ listed words text
unfolding listed
wrong_listed words text e = rw (← verdict_one words text e) refl

-- an input that is cut short
pub printed_short : (input : List ℕ) → length input < text_from input → refusal_line 1 0 ≡ printed input
unfolding printed
printed_short input h = rw (lt-ltb (length input) (text_from input) h) refl

-- one that is not
pub printed_listed : (input : List ℕ) → text_from input ≤ length input → listed (words_in input) (text_in input) ≡ printed input
unfolding printed
printed_listed input h = rw (le-ltb (length input) (text_from input) h) refl

-- one of too many records
pub printed_many : (input : List ℕ) → text_from input ≤ length input → most_records < count_in input → refusal_line 1 0 ≡ printed input
printed_many input h k =
    let n : record_count (words_in input) ≡ count_in input = rw (words_length (count_in input * 8) (drop word_bytes input))
    (mul-div_cancel (count_in input) (omega arith)) in
    wrong_listed (words_in input) (text_in input) (many_records (words_in input) (text_in input) (omega arith)) ∙ printed_listed input h

-- as it is read: the words from index 4 on, the text from where it starts
pub printed_read : (input : List ℕ) (count from : ℕ) → count ≡ count_in input → from ≡ 4 + count * 32 → from ≤ length input
    → listed (words_of (count * 8) (take (length input - 4) (drop 4 input))) (take (length input - from) (drop from input)) ≡ printed input
printed_read input count from e f h =
    let g : from ≡ text_from input = omega (arith, e) in
    rw (rest input 4, rest input from, e, g) (printed_listed input (omega arith))

-- A longer input than the longest that is not refused is refused, so the program needs to read no more than one byte more

long_printed : (input : List ℕ) → most_read ≤ length input → refusal_line 1 0 ≡ printed input
long_printed input h =
    by_test (ltb (length input) (text_from input))
    (λ t. printed_short input (ltb-true _ _ t))
    (λ t.
    let k : text_from input ≤ length input = ltb-false _ _ t in
    by_test (ltb most_records (count_in input))
    (λ u. printed_many input k (ltb-true _ _ u))
    (λ u.
    let m : count_in input ≤ most_records = ltb-false _ _ u in
    wrong_listed (words_in input) (text_in input) (long_text (words_in input) (text_in input) (simp length-drop (omega arith)))
    ∙ printed_listed input k))

-- what was read gives what the whole input gives
pub first_read : (input buffer : List ℕ) (n : ℕ) → most_read ≤ length buffer → n ≤ length buffer → ReadOf input buffer n
    → printed (take n buffer) ≡ printed input
first_read input buffer n h k r =
    by_test (ltb n (length buffer))
    (λ t. ap printed (r.starts ∙ take_all n input (r.ends (ltb-true _ _ t))))
    (λ t.
    let f : length buffer ≤ n = ltb-false _ _ t in
    let e : length (take n buffer) ≡ n = length-take-le n buffer k in
    let l : n ≤ length input = omega (arith, sym e ∙ ap length r.starts, length-take n input) in
    sym (long_printed (take n buffer) (omega arith)) ∙ long_printed input (omega arith))

-- a text that is what is printed for every input of which the buffer's first n bytes were read, for the bytes that a reader had
pub whole_printed : (o p a b : Maybe (List ℕ)) (buffer text : List ℕ) (n : ℕ) → n ≤ length buffer → Consumes o p (take n buffer)
    → (n < length buffer → IsAtEnd p)
    → ((input : List ℕ) → ReadOf input buffer n → text ≡ printed input)
    → Appends a b text
    → IfSome o (λ whole. Appends a b (printed whole))
whole_printed None p a b buffer text n h c e k w = tt
whole_printed (Some xs) None a b buffer text n h c e k w = absurd c
whole_printed (Some xs) (Some ys) a b buffer text n h c e k w =
    let l : length (take n buffer) ≡ n = length-take-le n buffer h in
    let starts : take n buffer ≡ take n xs = rw c (sym (take_at (take n buffer) ys n l)) in
    let ends : n < length buffer → length xs ≤ n =
    (λ m. rw (c, e m) (simp length-append (omega (arith, l)))) in
    subst (λ t. Appends a b t) (k xs (record { starts = starts; ends = ends })) w

pub on_ok : {T E A B : Type 0} (r : Result T E) → (A → B) → OnOk r A → OnOk r B
on_ok (Ok v) f x = f x
on_ok (Err e) f x = tt
