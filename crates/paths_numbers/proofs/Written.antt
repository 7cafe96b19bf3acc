-- What writing a text into a buffer byte by byte comes to, and what is answered where a path does not fit.
use Rattle.std.proofs.Common.{◌≡◌, ℕ, suc, ◌+◌, ◌<◌, ◌≤◌, List, [], ◌∷◌, ◌++◌, length, get_or, take, drop, set, sym, refl, ap, ◌∙◌}
use Rattle.std.proofs.Common.{append-nil, add-zero, add-one, arith, length-append, length-drop, take-append-drop, drop_of_length-le}
use Rattle.std.proofs.Common.{length-take-le, drop-cons, take-suc-set, drop-set-lt, le-leb}
use mathlib.Core.List.{append_assoc}
use Rattle.std.proofs.lemmas.List.{take_at, drop_at, drop-drop}
use Rattle.std.proofs.lemmas.Slice.{put_mid-paste}
use borrow.Rule.Slice.PartMut.{put_mid}
use lib.Seq.{take_all}
use Rattle.std.specs.Prelude.{Some, None}
use borrow.Author.Tests.{lt-leb}
use lib.Seq.{append_snoc}
use Rattle.paths_numbers.specs.meaning.Text.{written}
use Rattle.paths_numbers.specs.meaning.Path.{built_answer, built_out}

-- nothing written is nothing changed
pub written_nil : (d : List ℕ) (at : ℕ) → written d at [] ≡ d
unfolding written
written_nil d at = rw (add-zero, append-nil) (take-append-drop at d)

-- the first byte written, then the rest behind it
pub written_cons : (d : List ℕ) (at b : ℕ) (s : List ℕ) → at < length d → written d at (b ∷ s) ≡ written (set d at b) (at + 1) s
unfolding written
written_cons d at b s h =
    let e : drop (at + suc (length s)) (set d at b) ≡ drop (at + suc (length s)) d = drop-set-lt (at + suc (length s)) d at b (omega arith)
    in
    let f : at + 1 + length s ≡ at + suc (length s) = omega arith in
    rw (f, e, add-one, take-suc-set d at b h) (sym (ap (λ (l : List ℕ). l ++ drop (at + suc (length s)) d) (append_snoc (take at d) b s)))

-- one byte more of a text that is written byte by byte: w is the whole written, and the invariant says that the rest written gives it
pub written_byte : (d : List ℕ) (at : ℕ) (s : List ℕ) (i b : ℕ) (w : List ℕ) → w ≡ written d (at + i) (drop i s) → at + i < length d
    → i < length s
    → b ≡ get_or s i 0 → w ≡ written (set d (at + i) b) (at + (i + 1)) (drop (i + 1) s)
written_byte d at s i b w inv h k e =
    let f : at + suc i ≡ at + i + 1 = omega arith in
    inv ∙ rw (add-one i, f, e, drop-cons s i 0 k, written_cons d (at + i) (get_or s i 0) (drop (suc i) s) h) refl

-- and no byte more
pub written_all : (d : List ℕ) (at : ℕ) (s : List ℕ) (i : ℕ) (w : List ℕ) → w ≡ written d (at + i) (drop i s) → length s ≤ i → d ≡ w
written_all d at s i w inv h = sym (inv ∙ rw (drop_of_length-le s h) (written_nil d (at + i)))

-- a text that fits keeps the buffer's length
pub written_length : (d : List ℕ) (at : ℕ) (s : List ℕ) → at + length s ≤ length d → length (written d at s) ≡ length d
unfolding written
written_length d at s h =
    simp (length-append, length-drop) (omega (arith, length-take-le at d (omega arith)))

-- a part of a buffer of a text's length, over which the text is copied
pub put_written : (d : List ℕ) (at k : ℕ) (ys s : List ℕ) → ys ≡ s → k ≡ length s → put_mid at k d ys ≡ written d at s
unfolding written
put_written d at k ys s e n = put_mid-paste at k d ys s (length s) e (sym n) refl ∙ rw (take_all (length s) s (omega arith)) refl

-- a text written behind another is both written
pub written_behind : (d : List ℕ) (at : ℕ) (s t : List ℕ) → at + length s ≤ length d
    → written (written d at s) (at + length s) t ≡ written d at (s ++ t)
unfolding written
written_behind d at s t h =
    let k : length (take at d ++ s) ≡ at + length s = rw (length-append (take at d) s) (omega (arith, length-take-le at d (omega arith))) in
    let over = (take at d ++ s) ++ drop (at + length s) d in
    let front : take (at + length s) over ≡ take at d ++ s = take_at _ _ _ k in
    let rest : drop (at + length s) over ≡ drop (at + length s) d = drop_at _ _ _ k in
    let back : drop (at + length s + length t) over ≡ drop (at + length (s ++ t)) d =
    sym (drop-drop (length t) (at + length s) over) ∙ ap (drop (length t)) rest ∙ drop-drop (length t) (at + length s) d
    ∙ rw (length-append s t) (ap (λ (n : ℕ). drop n d) (omega arith)) in
    rw (front, back) (ap (λ (l : List ℕ). l ++ drop (at + length (s ++ t)) d) (append_assoc (take at d) s t))

-- two texts with one byte between them, written one behind another
pub written_joined : (d : List ℕ) (at : ℕ) (s : List ℕ) (b : ℕ) (t : List ℕ) → at + length s + 1 ≤ length d
    → written (written (written d at s) (at + length s) (b ∷ [])) (at + length s + 1) t ≡ written d at (s ++ b ∷ t)
written_joined d at s b t h =
    let n : length (s ++ b ∷ []) ≡ length s + 1 = rw (length-append s (b ∷ [])) refl in
    let m : at + length (s ++ b ∷ []) ≡ at + length s + 1 = rw n (omega arith) in
    rw (written_behind d at s (b ∷ []) (omega arith))
    (ap (λ (k : ℕ). written (written d at (s ++ b ∷ [])) k t) (sym m)
    ∙ written_behind d at (s ++ b ∷ []) t (omega arith)
    ∙ ap (written d at) (append_assoc s (b ∷ []) t))

module _ (p out : List ℕ) (at : ℕ) where
  -- what is answered and held where a path does not fit
  pub no_room_lem : length out < at + length p → (None ≡ built_answer p (length out) at) × (out ≡ built_out p out at)
  unfolding built_answer built_out
  no_room_lem h = (simp (lt-leb _ _ h), simp (lt-leb _ _ h))

  -- and where it does
  pub room : (n : ℕ) (o : List ℕ) → n ≡ length p → o ≡ written out at p → at + length p ≤ length out
      → (Some n ≡ built_answer p (length out) at) × (o ≡ built_out p out at)
  unfolding built_answer built_out
  room n o e w h = (rw e (simp (le-leb _ _ h)), rw w (simp (le-leb _ _ h)))

-- a text built at the start of the rest of a buffer is written there
pub built_behind : (p d : List ℕ) (at : ℕ) → at + length p ≤ length d → take at d ++ built_out p (drop at d) 0 ≡ written d at p
unfolding written
built_behind p d at h =
    let n : 0 + length p ≤ length (drop at d) = omega (arith, length-drop at d) in
    let e = (room p (drop at d) 0 (length p) (written (drop at d) 0 p) refl refl n).1 in
    let f : drop (0 + length p) (drop at d) ≡ drop (at + length p) d =
    drop-drop (0 + length p) at d ∙ ap (λ (k : ℕ). drop k d) (omega arith) in
    ap (λ (l : List ℕ). take at d ++ l) (sym e ∙ ap (λ (l : List ℕ). p ++ l) f) ∙ sym (append_assoc (take at d) p (drop (at + length p) d))
