-- The words of an input, read one by one.
use Prim.Native.Nat.{ℕ, zero, suc, ◌+◌, ◌-◌, ◌*◌, ◌≤◌, ◌<◌}
use mathlib.Core.Path.{◌≡◌, refl, sym, ap, ◌∙◌}
use mathlib.Core.List.{List}
use native.Mathlib.Nat.{add-zero}
use native.Mathlib.Omega.{arith}
use lib.ListN.{length, get_or, take, drop, set}
use lib.Seq.{get_or-drop, drop-drop, take_at}
use Rattle.paths_numbers.specs.meaning.Text.{written}
use Rattle.paths_numbers.proofs.Written.{written_nil, written_cons}
use Rattle.listing.specs.meaning.Program.{word_bytes, word_of, words_of}

-- so many words
pub words_length : (n : ℕ) (s : List ℕ) → length (words_of n s) ≡ n
unfolding words_of
words_length zero s = refl
words_length (suc n) s = ap suc (words_length n (drop word_bytes s))

-- a word by its bytes
pub word_bytes_lem : (s : List ℕ) (at : ℕ)
    → get_or s at 0 + 256 * (get_or s (at + 1) 0 + 256 * (get_or s (at + 2) 0 + 256 * get_or s (at + 3) 0)) ≡ word_of (drop at s)
unfolding word_of
word_bytes_lem s at = rw (get_or-drop at s 0 0, get_or-drop at s 1 0, get_or-drop at s 2 0, get_or-drop at s 3 0, add-zero) refl

-- words written one by one: d holds those before i, and what is left of them, written behind, gives all
module _ (d s : List ℕ) (i n : ℕ) (w : List ℕ) (inv : w ≡ written d i (words_of (n - i) (drop (i * 4) s))) where
  pub word_next : i < n → i < length d → (v : ℕ) → v ≡ word_of (drop (i * 4) s)
      → w ≡ written (set d i v) (i + 1) (words_of (n - (i + 1)) (drop ((i + 1) * 4) s))
  unfolding words_of
  word_next h k v e =
      let m : n - i ≡ suc (n - (i + 1)) = omega arith in
      let j : (i + 1) * 4 ≡ i * 4 + 4 = omega arith in
      inv ∙ rw (m, j, ← drop-drop 4 (i * 4) s, e) (written_cons d i (word_of (drop (i * 4) s)) _ k)

  pub words_end : n ≤ i → d ≡ w
  unfolding words_of
  words_end h = let m : n - i ≡ 0 = omega arith in sym (inv ∙ rw m (written_nil d i))

-- the words that were written to the start of a list
pub words_read : (d s w : List ℕ) (n : ℕ) → w ≡ written d 0 (words_of n s) → take n w ≡ words_of n s
unfolding written
words_read d s w n e = rw e (take_at (words_of n s) _ n (words_length n s))
