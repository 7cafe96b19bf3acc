-- Paths that stand in the bytes: their lengths, and that what is written behind them leaves them.
use Prim.Native.Nat.{ℕ, ◌+◌, ◌≤◌, ◌<◌}
use mathlib.Core.Path.{◌≡◌, refl, sym, ap, ◌∙◌}
use mathlib.Core.List.{List, [], ◌∷◌, ◌++◌, append_assoc}
use native.Mathlib.Omega.{arith}
use borrow.Author.Tests.{le-leb, lt-leb, leb-true}
use lib.Dec.{leb}
use lib.ListN.{length, get_or, take, drop, set, get_or-append}
use lib.Seq.{ext_get_or, get_or-take, length-take-le}
use Rattle.paths_numbers.specs.meaning.Path.{root}
use Rattle.paths_numbers.specs.meaning.Text.{written}
use Rattle.paths_numbers.proofs.Texts.{by_test}
use Rattle.paths_numbers.proofs.Written.{written_nil, written_cons, written_length}
use Rattle.making.specs.machine.PathPlaces.{path_of, path_in, stands, settled}
use Rattle.making.specs.declared.place.PathAt.{PathAt}
use Rattle.making.specs.declared.place.PathAt.TheVariants as P
use Rattle.making.specs.declared.text.Piece.{Piece}
use Rattle.making.specs.declared.text.Piece.TheVariants as C
use Rattle.making.specs.declared.text.Text.{Text}
use Rattle.making.specs.declared.text.Text.TheVariants as T
use Rattle.making.specs.machine.Texts.{piece_in, text_said}
use Rattle.definition_log.proofs.Texts.{part, part_length, part_at}

-- "/" is itself, and a place whose bytes do not lie among those in use is the empty one
pub settled_root : (used : ℕ) (bytes : List ℕ) → P.Root ≡ settled used bytes P.Root
unfolding settled
settled_root used bytes = refl

module _ (used : ℕ) (bytes : List ℕ) (start size : ℕ) where
  pub settled_behind : used < start + size → P.Bytes 0 0 ≡ settled used bytes (P.Bytes start size)
  unfolding settled stands
  settled_behind h = simp (lt-leb _ _ h)

  pub settled_outside : length bytes < start + size → P.Bytes 0 0 ≡ settled used bytes (P.Bytes start size)
  unfolding settled stands
  settled_outside h =
      by_test (leb (start + size) used)
      (λ t. rw t (simp (lt-leb _ _ h)))
      (λ t. rw t refl)

  pub settled_there : start + size ≤ used → start + size ≤ length bytes → P.Bytes start size ≡ settled used bytes (P.Bytes start size)
  unfolding settled stands
  settled_there h k = simp (le-leb _ _ h, le-leb _ _ k)

-- where it is settled, they do
abbrev pub place_end : PathAt → ℕ
place_end P.Root = 0
place_end (P.Bytes start size) = start + size

settled_within : (used : ℕ) (bytes : List ℕ) (p : PathAt)
    → (place_end (settled used bytes p) ≤ used) × (place_end (settled used bytes p) ≤ length bytes)
unfolding settled stands
settled_within used bytes P.Root = (omega arith, omega arith)
settled_within used bytes (P.Bytes start size) =
    by_test (leb (start + size) used)
    (λ t.
    by_test (leb (start + size) (length bytes))
    (λ u. rw (t, u) (leb-true _ _ t, leb-true _ _ u))
    (λ u. rw (t, u) (omega arith, omega arith)))
    (λ t. rw t (omega arith, omega arith))

pub settled_in : (used : ℕ) (bytes : List ℕ) (p q : PathAt) → q ≡ settled used bytes p
    → (place_end q ≤ used) × (place_end q ≤ length bytes)
settled_in used bytes p q e = rw e (settled_within used bytes p)

-- the path that is read, by the place as it is settled
pub path_root : (used : ℕ) (bytes : List ℕ) (p : PathAt) → P.Root ≡ settled used bytes p → root ≡ path_in used bytes p
unfolding path_of
path_root used bytes p e = ap (path_of bytes) e

pub path_bytes : (used : ℕ) (bytes : List ℕ) (p : PathAt) (start size : ℕ) → P.Bytes start size ≡ settled used bytes p
    → part bytes start size ≡ path_in used bytes p
unfolding path_of
path_bytes used bytes p start size e = ap (path_of bytes) e

-- bytes that are as they were below a place
pub part_same : (o d : List ℕ) (from size at : ℕ) → from + size ≤ at → at ≤ length o → at ≤ length d
    → ((k : ℕ) → k < at → get_or o k 0 ≡ get_or d k 0)
    → part o from size ≡ part d from size
part_same o d from size at h m l same =
    let e = part_length o from size (omega arith) in
    let f = part_length d from size (omega arith) in
    ext_get_or 0 (part o from size) (part d from size) (e ∙ sym f)
    (λ i k. part_at o from size i (omega arith) ∙ same (from + i) (omega arith) ∙ sym (part_at d from size i (omega arith)))

-- and so a path that is read there
pub path_same : (o d : List ℕ) (used at : ℕ) (p : PathAt) → used ≤ at → at ≤ length o → at ≤ length d
    → ((k : ℕ) → k < at → get_or o k 0 ≡ get_or d k 0)
    → path_in used o p ≡ path_in used d p
unfolding path_of settled stands
path_same o d used at P.Root h m l same = refl
path_same o d used at (P.Bytes start size) h m l same =
    by_test (leb (start + size) used)
    (λ t.
    let k = leb-true _ _ t in
    rw (t, le-leb (start + size) (length o) (omega arith), le-leb (start + size) (length d) (omega arith))
    (part_same o d start size at (omega arith) m l same))
    (λ t. rw t refl)

pub piece_same : (o d : List ℕ) (used at : ℕ) (p : Piece) → used ≤ at → at ≤ length o → at ≤ length d
    → ((k : ℕ) → k < at → get_or o k 0 ≡ get_or d k 0)
    → piece_in used o p ≡ piece_in used d p
piece_same o d used at (C.Given text) h m l same = refl
piece_same o d used at (C.At p) h m l same = path_same o d used at p h m l same

-- in the front of the bytes they are the same
front_same : (d : List ℕ) (at : ℕ) → (k : ℕ) → k < at → get_or (take at d) k 0 ≡ get_or d k 0
front_same d at k h = get_or-take at d k 0 h

pub path_front : (d : List ℕ) (used at : ℕ) (p : PathAt) → used ≤ at → at ≤ length d → path_in used (take at d) p ≡ path_in used d p
path_front d used at p h l = path_same (take at d) d used at p h (omega (arith, length-take-le at d l)) l (front_same d at)

pub piece_front : (d : List ℕ) (used at : ℕ) (p : Piece) → used ≤ at → at ≤ length d → piece_in used (take at d) p ≡ piece_in used d p
piece_front d used at p h l = piece_same (take at d) d used at p h (omega (arith, length-take-le at d l)) l (front_same d at)

-- what is written behind them leaves them
pub written_below : (d : List ℕ) (at : ℕ) (x : List ℕ) (k : ℕ) → k < at → at ≤ length d → get_or (written d at x) k 0 ≡ get_or d k 0
unfolding written
written_below d at x k h l =
    rw (append_assoc (take at d) x) (get_or-append (take at d) (x ++ drop (at + length x) d) 0 k (omega (arith, length-take-le at d l))
    ∙ get_or-take at d k 0 h)

pub part_written : (d : List ℕ) (at : ℕ) (x : List ℕ) (from size : ℕ) → from + size ≤ at → at + length x ≤ length d
    → part (written d at x) from size ≡ part d from size
part_written d at x from size h l = part_same (written d at x) d from size at h (omega (arith, written_length d at x l)) (omega arith)
    (λ k j. written_below d at x k j (omega arith))

pub text_written : (d : List ℕ) (used at : ℕ) (x : List ℕ) (t : Text) → used ≤ at → at + length x ≤ length d
    → text_said used (written d at x) t ≡ text_said used d t
text_written d used at x (T.Whole p) h l =
    piece_same (written d at x) d used at p h (omega (arith, written_length d at x l)) (omega arith) (λ k j. written_below d at x k j (omega arith))
text_written d used at x (T.Joined p name unit) h l =
    let n : at ≤ length (written d at x) = omega (arith, written_length d at x l) in
    let same : (k : ℕ) → k < at → get_or (written d at x) k 0 ≡ get_or d k 0 = λ k j. written_below d at x k j (omega arith) in
    rw (path_same (written d at x) d used at p h n (omega arith) same, piece_same (written d at x) d used at name h n (omega arith) same) refl

-- one byte written
pub written_one : (d : List ℕ) (at b : ℕ) → at < length d → set d at b ≡ written d at (b ∷ [])
written_one d at b h = sym (written_cons d at b [] h ∙ written_nil (set d at b) (at + 1))
