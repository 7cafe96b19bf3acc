-- What making a record answers and leaves, by whether it is made.
use Prim.Native.Nat.{ℕ, min, ◌+◌, ◌*◌, ◌≤◌, ◌<◌}
use mathlib.Core.Path.{◌≡◌, refl, sym, ap, ◌∙◌}
use mathlib.Core.Bool.{Bool, true, false, not, cond}
use mathlib.Core.List.{List, ◌++◌}
use native.Mathlib.Omega.{arith}
use borrow.Author.Tests.{lt-ltb, le-ltb, lt-leb, ltb-true, leb-true, leb-false}
use lib.Dec.{ltb, leb}
use lib.ListN.{length}
use Rattle.paths_numbers.specs.meaning.Text.{written}
use Rattle.paths_numbers.specs.meaning.Path.{at_most, largest_usize}
use Rattle.paths_numbers.proofs.Texts.{by_test, not_both, both}
use Rattle.paths_numbers.proofs.Lengths.{kept, cut, cut_sum}
use Rattle.definition_log.specs.meaning.Record.{log_count, most_bytes}
use Rattle.making.specs.declared.ctx.LowerCtx.{LowerCtx}
use Rattle.making.specs.declared.ctx.Rec.{Rec}
use Rattle.making.specs.machine.Made.{sixteen, set_link, has_room, Room, ran_short, one_more, makes, counted, made_words, made_bytes, Told}

-- a choice by a test that is known
pub cond_true : {A : Type 0} (t : Bool) (x y : A) → t ≡ true → cond t x y ≡ x
cond_true t x y e = rw e refl

pub cond_false : {A : Type 0} (t : Bool) (x y : A) → t ≡ false → cond t x y ≡ y
cond_false t x y e = rw e refl

-- whether a record is made: not where the state is short
pub makes_short : (c : LowerCtx) (words bytes : List ℕ) (size link : ℕ) → c.short ≡ true → false ≡ makes c words bytes size link
unfolding makes
makes_short c words bytes size link s = sym (cond_true c.short _ _ s)

-- nor where its link is not among the words
pub makes_unlinked : (c : LowerCtx) (words bytes : List ℕ) (size link : ℕ) → c.short ≡ false → length words ≤ link
    → false ≡ makes c words bytes size link
unfolding makes
makes_unlinked c words bytes size link s h = sym (cond_false c.short _ _ s
    ∙ cond_false (ltb link (length words)) _ _ (le-ltb link (length words) h))

-- else by its room
pub makes_room : (c : LowerCtx) (words bytes : List ℕ) (size link : ℕ) → c.short ≡ false → link < length words
    → has_room c words bytes size ≡ makes c words bytes size link
unfolding makes
makes_room c words bytes size link s h = sym (cond_false c.short _ _ s
    ∙ cond_true (ltb link (length words)) _ _ (lt-ltb link (length words) h))

-- what is told where none is made, and where one is
module _ (c : LowerCtx) (words bytes : List ℕ) (r : Rec) (x y : List ℕ) (link : ℕ) where
  pub told_none : (d : LowerCtx) → makes c words bytes (length x + length y) link ≡ false → d ≡ ran_short c
      → Told c d words bytes words bytes r x y link
  unfolding counted made_words made_bytes
  told_none d n e = record { state = rw n e; words_are = rw n refl; bytes_are = rw n refl }

  pub told_made : (d : LowerCtx) (w b : List ℕ) → makes c words bytes (length x + length y) link ≡ true
      → d ≡ one_more c (length x + length y)
      → w ≡ set_link link c.records (written words (c.records * 16) (sixteen c.bytes (length x) (length y) r))
      → b ≡ written bytes c.bytes (x ++ y)
      → Told c d words bytes w b r x y link
  unfolding counted made_words made_bytes
  told_made d w b n e f g = record { state = rw n e; words_are = rw n f; bytes_are = rw n g }

-- room by the test is room
pub room_is : (c : LowerCtx) (words bytes : List ℕ) (size link : ℕ) → has_room c words bytes size ≡ true → link < length words
    → Room c words bytes size link
unfolding has_room
room_is c words bytes size link h l =
    let a = both (ltb c.records (log_count words)) _ h in
    let b = both (leb (c.bytes + size) most_bytes) (leb (c.bytes + size) (length bytes)) a.1 in
    record { records_fit = ltb-true _ _ a.0; bytes_fit = leb-true _ _ b.1; bytes_most = leb-true _ _ b.0; link_fits = l }

-- and so where a record is made
pub makes_is : (c : LowerCtx) (words bytes : List ℕ) (size link : ℕ) → makes c words bytes size link ≡ true → Room c words bytes size link
unfolding makes
makes_is c words bytes size link m =
    by_test c.short
    (λ t. absurd (not_both m (cond_true c.short _ _ t)))
    (λ t.
    let a = both (ltb link (length words)) (has_room c words bytes size) (sym (cond_false c.short _ _ t) ∙ m) in
    room_is c words bytes size link a.1 (ltb-true _ _ a.0))

-- the same for a size that is cut at the largest usize: what is cut has no room
pub makes_cut : (c : LowerCtx) (words bytes : List ℕ) (n size link : ℕ) → size ≡ at_most largest_usize n
    → makes c words bytes size link ≡ makes c words bytes n link
unfolding makes has_room
makes_cut c words bytes n size link e =
    by_test (leb n largest_usize)
    (λ t. ap (λ (k : ℕ). makes c words bytes k link) (e ∙ kept largest_usize n (leb-true _ _ t)))
    (λ t.
    let h = leb-false n largest_usize t in
    let z : size ≡ largest_usize = e ∙ cut largest_usize n (omega arith) in
    let x : leb (c.bytes + size) most_bytes ≡ false = lt-leb (c.bytes + size) most_bytes (omega arith) in
    let y : leb (c.bytes + n) most_bytes ≡ false = lt-leb (c.bytes + n) most_bytes (omega arith) in
    rw (x, y) refl)

-- a test that the code turns round
not_true : (t : Bool) → not t ≡ true → t ≡ false
not_true true e = sym e
not_true false e = refl

not_false : (t : Bool) → not t ≡ false → t ≡ true
not_false true e = refl
not_false false e = sym e

-- what a code that tests for a size, and then writes texts of these lengths, tells
module _ (c : LowerCtx) (words bytes : List ℕ) (r : Rec) (x y : List ℕ) (link size : ℕ)
    (same : makes c words bytes size link ≡ makes c words bytes (length x + length y) link) (t : Bool)
    (test : t ≡ makes c words bytes size link) where
  pub tested_none : (d : LowerCtx) → not t ≡ true → d ≡ ran_short c → Told c d words bytes words bytes r x y link
  tested_none d f e = told_none c words bytes r x y link d (sym same ∙ sym test ∙ not_true t f) e

  pub tested_room : not t ≡ false → Room c words bytes (length x + length y) link
  tested_room f = makes_is c words bytes (length x + length y) link (sym same ∙ sym test ∙ not_false t f)

  pub tested_made : (d : LowerCtx) (w b : List ℕ) (n m : ℕ) → not t ≡ false → n ≡ length x → m ≡ length y → d ≡ one_more c (n + m)
      → w ≡ set_link link c.records (written words (c.records * 16) (sixteen c.bytes n m r)) → b ≡ written bytes c.bytes (x ++ y)
      → Told c d words bytes w b r x y link
  tested_made d w b n m f en em e1 e2 e3 =
      told_made c words bytes r x y link d w b (sym same ∙ sym test ∙ not_false t f) (rw (en, em) at e1) (rw (en, em) at e2) e3

-- two texts' lengths, each cut, and their sum, which saturates: they decide as the lengths do
saturated : (n s : ℕ) → s ≡ min n largest_usize → s ≡ at_most largest_usize n
saturated n s e =
    by_test (leb n largest_usize)
    (λ t. omega (arith, leb-true _ _ t, kept largest_usize n (leb-true _ _ t)))
    (λ t. omega (arith, leb-false _ _ t, cut largest_usize n (omega (arith, leb-false _ _ t))))

module _ (c : LowerCtx) (words bytes x y : List ℕ) (link size more s : ℕ) (e : size ≡ at_most largest_usize (length x))
    (f : more ≡ at_most largest_usize (length y)) (g : s ≡ min (size + more) largest_usize) where
  makes_texts : makes c words bytes s link ≡ makes c words bytes (length x + length y) link
  makes_texts =
      makes_cut c words bytes (length x + length y) s link
      (saturated (size + more) s g ∙ cut_sum largest_usize (length x) (length y) size more e f)

  -- and are the lengths where they have room
  pub texts_fit : true ≡ makes c words bytes s link
      → Room c words bytes (length x + length y) link × (size ≡ length x) × (more ≡ length y)
  texts_fit t =
      let r = makes_is c words bytes (length x + length y) link (sym makes_texts ∙ sym t) in
      let h = r.bytes_most in
      (r, e ∙ kept largest_usize (length x) (omega arith), f ∙ kept largest_usize (length y) (omega arith))

  -- so that what a code tells that writes them
  pub texts_none : {r : Rec} {d : LowerCtx} → false ≡ makes c words bytes s link → d ≡ ran_short c
      → Told c d words bytes words bytes r x y link
  texts_none {r} {d} t = told_none c words bytes r x y link d (sym makes_texts ∙ sym t)

  pub texts_made : {r : Rec} {d : LowerCtx} {w b : List ℕ} → true ≡ makes c words bytes s link → d ≡ one_more c (size + more)
      → w ≡ set_link link c.records (written words (c.records * 16) (sixteen c.bytes size more r)) → b ≡ written bytes c.bytes (x ++ y)
      → Told c d words bytes w b r x y link
  texts_made {r} {d} {w} {b} t u v q =
      let k = texts_fit t in
      told_made c words bytes r x y link d w b (sym makes_texts ∙ sym t) (rw (k.1, k.2) at u) (rw (k.1, k.2) at v) q
