-- A record more: the layout is kept.
use Prim.Native.Nat.{ℕ, suc, ◌+◌, ◌*◌, ◌-◌, ◌≤◌, ◌<◌}
use mathlib.Core.Path.{◌≡◌, refl, sym, ap, ◌∙◌}
use mathlib.Core.List.{List, [], ◌∷◌, ◌++◌, append_assoc, append-nil}
use native.Mathlib.Nat.{le-div_iff_mul-le}
use native.Mathlib.Omega.{arith}
use borrow.Author.Tests.{ne_eqb, leb-true, leb-false}
use lib.Dec.{eqb, leb}
use lib.ListN.{length, replicate, length-append, length-set}
use Rattle.paths_numbers.specs.meaning.Text.{is_empty, written}
use Rattle.paths_numbers.proofs.Texts.{by_test}
use Rattle.paths_numbers.proofs.Written.{written_length}
use Rattle.making.specs.declared.ctx.Rec.{Rec}
use Rattle.definition_log.specs.meaning.Record.{log_count, out_count, most_bytes}
use Rattle.making.specs.machine.Events.{Event, first, children_of, words16, start_of, bytes_in, texts, end_of, Ordered, ordered_none}
use Rattle.making.specs.machine.Events.{ordered_next, all_words, all_bytes}
use Rattle.making.specs.machine.Made.{start_at, sixteen, set_link}
use Rattle.making.specs.machine.Buffers.{event_of, Layout}
use Rattle.making.proofs.Append.{length_words}
use Rattle.making.proofs.ReadEvents.{piece, length_piece}
use Rattle.making.proofs.Make.{Spot, make_words, written_behind}

-- where the texts end, and how long they are
pub end_more : (at : ℕ) (es : List Event) (e : Event) → end_of at (es ++ e ∷ []) ≡ end_of at es + bytes_in e
unfolding end_of
end_more at [] e = refl
end_more at (x ∷ es) e = end_more (at + bytes_in x) es e

-- records stay behind their owners
ordered_more : (k : ℕ) (es : List Event) (e : Event) → Ordered k es → ((r : ℕ) → e.chain ≡ children_of r → r < k + length es)
    → Ordered k (es ++ e ∷ [])
ordered_more k [] e o h = ordered_next {k = k} (λ (r : ℕ) (q : e.chain ≡ children_of r). omega (arith, h r q)) ordered_none
ordered_more k (x ∷ es) e (ordered_next f o) h = ordered_next f
    (ordered_more (k + 1) es e o (λ (r : ℕ) (q : e.chain ≡ children_of r). omega (arith, h r q)))

-- the texts with one more
texts_more : (es : List Event) (e : Event) → texts (es ++ e ∷ []) ≡ texts es ++ piece e
unfolding texts piece
texts_more [] e = append-nil (piece e)
texts_more (x ∷ es) e = rw (texts_more es e) (sym (append_assoc (piece x) (texts es) (piece e)))

-- how long the texts are
pub length_texts : (at : ℕ) (es : List Event) → at + length (texts es) ≡ end_of at es
unfolding texts end_of piece
length_texts at [] = omega arith
length_texts at (x ∷ es) = simp length-append (omega (arith, length_piece x, length_texts (at + bytes_in x) es))

-- a text's start by its length
start_same : (at : ℕ) (s : List ℕ) → start_at at (length s) ≡ start_of at s
unfolding is_empty
start_same at [] = refl
start_same at (a ∷ s) = rw (ne_eqb (suc (length s)) 0 (omega arith)) refl

-- the words of a new record are those that the code lays out
sixteen_is : (c log number at : ℕ) (r : Rec) (x y : List ℕ) → sixteen at (length x) (length y) r ≡ words16 number at (event_of c log r x y)
    []
unfolding sixteen words16 first
sixteen_is c log number at r x y = rw (start_same at x, start_same (at + length x) y) refl

-- the length after a link is set
pub length_link : (at n : ℕ) (w : List ℕ) → length (set_link at n w) ≡ length w
unfolding set_link
length_link at n w = by_test (eqb at 0) (λ t. rw t refl) (λ t. rw t (length-set w at n))

-- a log has at most so many records
pub count_most : (w : List ℕ) → log_count w ≤ 65536
unfolding log_count
count_most w = by_test (leb (out_count w) 65536) (λ t. rw t (leb-true (out_count w) 65536 t)) (λ t. rw t (omega arith))

-- so many records fit so many words
pub count_words : (w : List ℕ) (n : ℕ) → n ≤ log_count w → n * 16 ≤ length w
unfolding log_count
count_words w n h =
    by_test (leb (out_count w) 65536)
    (λ t. (le-div_iff_mul-le {k = 16} (omega arith)).0 (rw t at h))
    (λ t.
    let m : 65536 < out_count w = leb-false (out_count w) 65536 t in
    let n' : n ≤ 65536 = rw t at h in
    (le-div_iff_mul-le {k = 16} (omega arith)).0 (omega arith))

-- the same words count as many records
pub same_count : (w v : List ℕ) → length v ≡ length w → log_count v ≡ log_count w
unfolding log_count
same_count w v e = rw e refl

module _ {w b : List ℕ} {n m : ℕ} {es : List Event} (l : Layout w b n m es) (c log : ℕ) (r : Rec) (x y : List ℕ) (link : ℕ)
    (room : 2 + length es ≤ log_count w) (bytes : end_of 0 es + (length x + length y) ≤ length b)
    (most : end_of 0 es + (length x + length y) ≤ most_bytes)
    (spot : Spot c es link) (owned : (o : ℕ) → c ≡ children_of o → o < 1 + length es) where
  abbrev e : Event
  e = event_of c log r x y

  abbrev w' : List ℕ
  w' = set_link link n (written w (n * 16) (sixteen m (length x) (length y) r))

  abbrev b' : List ℕ
  b' = written b m (x ++ y)

  length_w : length w' ≡ length w
  length_w =
      let k : length (sixteen m (length x) (length y) r) ≡ 16 = rw (sixteen_is c log n m r x y) (length_words n m e []) in
      length_link link n _ ∙ written_length w (n * 16) (sixteen m (length x) (length y) r)
      (omega (arith, count_words w (2 + length es) room, l.records_are))

  length_b : length b' ≡ length b
  length_b = written_length b m (x ++ y) (simp length-append (omega (arith, l.used_are)))

  words_are_lem : w' ≡ all_words (replicate 16 0) (es ++ e ∷ []) (length w' - (1 + length (es ++ e ∷ [])) * 16)
  words_are_lem =
      let k : length (es ++ e ∷ []) ≡ length es + 1 = length-append es (e ∷ []) in
      let rest : length w' - (1 + length (es ++ e ∷ [])) * 16 ≡ length w - (1 + length es) * 16 - 16 = omega (arith, length_w) in
      let put : sixteen m (length x) (length y) r ≡ words16 (1 + length es) (end_of 0 es) e [] = sixteen_is c log (1 + length es) m r x y
      ∙ rw l.used_are refl in
      let made = make_words c e refl refl (replicate 16 0) refl es (length w - (1 + length es) * 16) link
      (omega (arith, count_words w (2 + length es) room)) spot in
      rw rest (ap (λ (v : List ℕ). set_link link n (written v (n * 16) (sixteen m (length x) (length y) r))) l.words_are
      ∙ rw (l.records_are, put) made)

  bytes_are_lem : b' ≡ all_bytes (es ++ e ∷ []) (length b' - end_of 0 (es ++ e ∷ []))
  unfolding all_bytes piece
  bytes_are_lem =
      let k = length-append x y in
      let rest : length b' - end_of 0 (es ++ e ∷ []) ≡ length b - end_of 0 es - length (x ++ y) = omega (arith, length_b, end_more 0 es e) in
      let at : m ≡ length (texts es) = omega (arith, l.used_are, length_texts 0 es) in
      rw (rest, texts_more es e)
      (ap (λ (v : List ℕ). written v m (x ++ y)) l.bytes_are
      ∙ written_behind (texts es) (x ++ y) (length b - end_of 0 es) m at (omega arith)
      ∙ sym (append_assoc (texts es) (x ++ y) (replicate (length b - end_of 0 es - length (x ++ y)) 0)))

  -- one record more
  pub layout_more : Layout w' b' (n + 1) (m + (length x + length y)) (es ++ e ∷ [])
  layout_more =
      let k : length (es ++ e ∷ []) ≡ length es + 1 = length-append es (e ∷ []) in
      record {
        words_are = words_are_lem;
        bytes_are = bytes_are_lem;
        records_are = omega (arith, l.records_are);
        used_are = rw (end_more 0 es e, l.used_are) refl;
        records_fit = rw (same_count w w' length_w) (omega arith);
        bytes_fit = omega (arith, length_b, end_more 0 es e);
        bytes_most = omega (arith, end_more 0 es e);
        ordered = ordered_more 1 es e l.ordered owned;
      }
