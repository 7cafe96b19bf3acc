-- What is put on a page: texts one behind the other, and what the page then holds.
use Prim.Native.Nat.{ℕ, suc, ◌+◌, ◌≤◌, ◌<◌}
use mathlib.Core.Path.{◌≡◌, refl, sym, ap, ◌∙◌}
use mathlib.Core.List.{List, [], ◌∷◌, ◌++◌, append-nil}
use native.Mathlib.Nat.{add-zero, zero-add}
use native.Mathlib.Numerals.{add-one}
use native.Mathlib.Omega.{arith}
use borrow.Author.Tests.{lt-ltb, le-ltb}
use lib.ListN.{length, get_or, take, drop, set, length-append, drop_of_length-le}
use lib.Seq.{drop-cons, take_all, take_at, take-nil, drop-nil, set-append_seam, append_snoc}
use Rattle.listing.specs.declared.page.Page.{Page}
use Rattle.listing.specs.machine.Page.{page_at, put_byte, put, Puts, filled}

-- a text and one behind it
pub put_append : (s t : List ℕ) (p : Page) → put (s ++ t) p ≡ put t (put s p)
unfolding put
put_append [] t p = refl
put_append (b ∷ s) t p = put_append s t (put_byte b p)

pub then_puts : {s t : List ℕ} {a b c : Page} → Puts s a b → Puts t b c → Puts (s ++ t) a c
then_puts {s} {t} {a} p q = record { gives = q.gives ∙ ap (put t) p.gives ∙ sym (put_append s t a) }

-- no text
pub puts_none : {a : Page} → Puts [] a a
unfolding put
puts_none = record { gives = refl }

-- another text that is the same
pub puts_same : {s t : List ℕ} {a b : Page} → s ≡ t → Puts s a b → Puts t a b
puts_same e p = rw (← e) p

-- a byte where there is room, and where there is none
pub puts_byte : {a : Page} (b : ℕ) → a.at < length a.bytes → Puts (b ∷ []) a (page_at (set a.bytes a.at b) (a.at + 1))
unfolding put put_byte
puts_byte {a} b h = record { gives = simp (lt-ltb a.at (length a.bytes) h) }

pub puts_nothing : {a : Page} (b : ℕ) → length a.bytes ≤ a.at → Puts (b ∷ []) a a
unfolding put put_byte
puts_nothing {a} b h = record { gives = simp (le-ltb a.at (length a.bytes) h) }

-- a text put byte by byte: w is the page with all of it, and the invariant says that what is left gives it
module _ (s : List ℕ) (i : ℕ) (p w : Page) (inv : w ≡ put (drop i s) p) where
  pub put_left : i < length s → (q : Page) → Puts (get_or s i 0 ∷ []) p q → w ≡ put (drop (i + 1) s) q
  unfolding put
  put_left h q e = inv ∙ rw (add-one, drop-cons s i 0 h, e.gives) refl

  pub put_all : length s ≤ i → p ≡ w
  unfolding put
  put_all h = sym (inv ∙ rw (drop_of_length-le s h) refl)

-- a page of which a is written already, with b behind it
abbrev behind : List ℕ → List ℕ → List ℕ → Page
behind a b s = page_at (a ++ take (length b) s ++ drop (length s) b) (length a + length (take (length b) s))

put_behind : (s a b : List ℕ) → put s (page_at (a ++ b) (length a)) ≡ behind a b s
unfolding put put_byte
put_behind [] a b = rw (take-nil {A = ℕ} (length b), add-zero, append-nil) refl
put_behind (t ∷ s) a [] =
    let n : length (a ++ []) ≡ length a = ap length (append-nil a) in
    rw (le-ltb (length a) (length (a ++ [])) (omega arith)) (put_behind s a []
    ∙ rw (drop-nil {A = ℕ} (length s), drop-nil {A = ℕ} (suc (length s))) refl)
put_behind (t ∷ s) a (c ∷ b) =
    let n : length (a ++ t ∷ []) ≡ length a + 1 = length-append a (t ∷ []) in
    let h : length a < length (a ++ c ∷ b) = simp length-append (omega arith) in
    let k : length a + 1 + length (take (length b) s) ≡ length a + suc (length (take (length b) s)) = omega arith in
    rw (lt-ltb (length a) (length (a ++ c ∷ b)) h, set-append_seam a c b t, ← n, ← append_snoc a t b)
    (put_behind s (a ++ t ∷ []) b ∙ rw (n, k, append_snoc a t (take (length b) s)) refl)

-- a text put at the start of a page
put_filled : (bytes text : List ℕ) → put text (page_at bytes 0) ≡ filled bytes text
unfolding filled
put_filled bytes text = put_behind text [] bytes ∙ rw zero-add refl

pub puts_filled : {text bytes : List ℕ} {after : Page} → Puts text (page_at bytes 0) after → after ≡ filled bytes text
puts_filled {text} {bytes} p = p.gives ∙ put_filled bytes text

-- a text that fits is there as a whole
pub filled_whole : (before text : List ℕ) (after : Page) → after ≡ filled before text → length text ≤ length before
    → (after.at ≤ length before) × (after.at ≤ length after.bytes) × (take after.at after.bytes ≡ text)
unfolding filled
filled_whole before text after e h =
    let t : take (length before) text ≡ text = take_all (length before) text h in
    let a : after.bytes ≡ text ++ drop (length text) before = ap (λ (p : Page). p.bytes) e ∙ rw t refl in
    let k : after.at ≡ length text = ap (λ (p : Page). p.at) e ∙ rw t refl in
    rw (a, k) (h, simp length-append (omega arith), take_at text (drop (length text) before) (length text) refl)
