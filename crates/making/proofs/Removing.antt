-- Taking a binding out of its chain: what the state and the buffers hold then.
use Prim.Native.Nat.{ℕ, suc, ◌+◌, ◌*◌, ◌-◌, ◌≤◌, ◌<◌}
use mathlib.Core.Path.{◌≡◌, refl, sym, ap, ◌∙◌}
use mathlib.Core.Bool.{true, false, cond}
use mathlib.Core.List.{List, [], ◌∷◌, ◌++◌}
use native.Mathlib.Omega.{arith}
use borrow.Author.Tests.{ne_eqb, eqb-true, eqb-false, le-leb}
use lib.Dec.{eqb}
use lib.ListN.{length, get_or, replicate, length-append, length-replicate, replicate-append-replicate}
use Rattle.paths_numbers.specs.meaning.Text.{written, is_empty}
use Rattle.paths_numbers.proofs.Texts.{by_test, not_both}
use Rattle.paths_numbers.proofs.Written.{written_nil, written_length}
use Rattle.making.specs.declared.ctx.Chain.{Chain}
use Rattle.making.specs.declared.ctx.LowerCtx.{LowerCtx}
use Rattle.definition_log.specs.meaning.Record.{out_field, next_of, text_start, text_length, second_start, second_length}
use Rattle.making.specs.machine.Events.{Event, bindings, children_of, first, last, start_of, words16, bytes_in, words_from, texts, end_of}
use Rattle.making.specs.machine.Events.{all_words, all_bytes}
use Rattle.making.specs.machine.Buffers.{Layout}
use Rattle.making.specs.machine.Holding.{Hand, Runs, Holds, going, over}
use Rattle.making.specs.machine.Removed.{dead, cleared_text, cleared_texts, cleared_words, set_next, without, without_bind, Removes}
use Rattle.making.proofs.Append.{last_first, first_last}
use Rattle.making.proofs.ReadEvents.{Splits, splits_here, splits_later, field_at}
use Rattle.making.proofs.Layouts.{count_words, same_count, length_texts}
use Rattle.making.proofs.Make.{length_from}
use Rattle.definition_log.proofs.Texts.{written_twice}
use Rattle.making.proofs.Holding.{diags_other}
use Rattle.making.proofs.Unlinked.{first_front, first_gone, last_front, last_behind, first_apart, last_apart, same_end, same_size}
use Rattle.making.proofs.Unlinked.{same_order, bytes_removed, all_removed}

-- a record with what stands before and behind it
pub splits_of : (k at : ℕ) (xs : List Event) (e : Event) (ys : List Event) → Splits k at (xs ++ e ∷ ys) (k + length xs) (end_of at xs) e ys
unfolding end_of
splits_of k at [] e ys = let z : k + 0 ≡ k = omega arith in rw z splits_here
splits_of k at (x ∷ xs) e ys =
    let z : k + suc (length xs) ≡ k + 1 + length xs = omega arith in
    rw z (splits_later (splits_of (k + 1) (at + bytes_in x) xs e ys))

-- a text of a record set to zeros
cleared_at : (bytes : List ℕ) (at : ℕ) (text : List ℕ) → at + length text ≤ length bytes
    → cleared_text bytes (start_of at text) (length text) ≡ written bytes at (replicate (length text) 0)
unfolding cleared_text is_empty
cleared_at bytes at [] h = rw (le-leb 0 (length bytes) (omega arith)) (written_nil bytes 0 ∙ sym (written_nil bytes at))
cleared_at bytes at (a ∷ text) h = rw (le-leb (at + length (a ∷ text)) (length bytes) h) refl

-- its chain
module _ (c : ℕ) (x : Chain) (xs : List Event) (e : Event) (ys : List Event) (ec : e.chain ≡ c) (run : Runs c x (xs ++ e ∷ ys)) (p n : ℕ)
    (pe : p ≡ last c 1 xs) (ne : n ≡ first c (1 + length xs + 1) ys) where
  first_left : cond (eqb p 0) n x.first ≡ first c 1 (xs ++ dead e ∷ ys)
  first_left =
      by_test (eqb p 0)
      (λ t. rw t (ne ∙ sym (first_gone e ys c 1 xs (omega arith) (last_first c 1 xs (sym pe ∙ eqb-true p 0 t) (omega arith)))))
      (λ t.
      let f : first c 1 xs ≡ 0 → ⊥ = λ z. eqb-false p 0 t (pe ∙ first_last c 1 xs (omega arith) z) in
      rw t (run.first_is ∙ first_front c 1 xs (e ∷ ys) f ∙ sym (first_front c 1 xs (dead e ∷ ys) f)))

  last_gone : last c (1 + length xs) (dead e ∷ ys) ≡ last c (1 + length xs + 1) ys
  unfolding last
  last_gone =
      by_test (eqb (last c (1 + length xs + 1) ys) 0) (λ t. rw t (sym (eqb-true _ _ t))) (λ t. rw t refl)

  last_there : (last c (1 + length xs + 1) ys ≡ 0 → ⊥) → last c (1 + length xs) (e ∷ ys) ≡ last c (1 + length xs + 1) ys
  unfolding last
  last_there z = rw (ne_eqb (last c (1 + length xs + 1) ys) 0 z) refl

  last_left : cond (eqb n 0) p x.last ≡ last c 1 (xs ++ dead e ∷ ys)
  last_left =
      by_test (eqb n 0)
      (λ t.
      let z : last c (1 + length xs + 1) ys ≡ 0 = first_last c (1 + length xs + 1) ys (omega arith) (sym ne ∙ eqb-true n 0 t) in
      rw t (pe ∙ sym (last_front c 1 xs (dead e ∷ ys) (last_gone ∙ z))))
      (λ t.
      let z : last c (1 + length xs + 1) ys ≡ 0 → ⊥ = λ y. eqb-false n 0 t (ne ∙ last_first c (1 + length xs + 1) ys y (omega arith)) in
      rw t (run.last_is ∙ last_behind c 1 xs (e ∷ ys) (omega arith) (λ y. z (sym (last_there z) ∙ y)) ∙ last_there z
      ∙ sym (last_behind c 1 xs (dead e ∷ ys) (omega arith) (λ y. z (sym last_gone ∙ y)) ∙ last_gone)))

  pub runs_without : Runs c (without x p n) (xs ++ dead e ∷ ys)
  runs_without = record { first_is = first_left; last_is = last_left }

-- another chain
runs_apart : {d : ℕ} {x : Chain} (xs : List Event) (e : Event) (ys : List Event) → (e.chain ≡ d → ⊥) → Runs d x (xs ++ e ∷ ys)
    → Runs d x (xs ++ dead e ∷ ys)
runs_apart {d} xs e ys n r = record {
  first_is = r.first_is ∙ sym (first_apart e ys d 1 xs n);
  last_is = r.last_is
      ∙ sym (last_apart e ys d 1 xs n);
}

-- texts end behind those of a record among them
pub end_least : (at : ℕ) (ys : List Event) → at ≤ end_of at ys
unfolding end_of
end_least at [] = omega arith
end_least at (y ∷ ys) = omega (arith, end_least (at + bytes_in y) ys)

pub end_above : (at : ℕ) (xs : List Event) (e : Event) (ys : List Event) → end_of at xs + bytes_in e ≤ end_of at (xs ++ e ∷ ys)
unfolding end_of
end_above at [] e ys = end_least (at + bytes_in e) ys
end_above at (x ∷ xs) e ys = end_above (at + bytes_in x) xs e ys

-- how many words and bytes a log takes
length_all : (es : List Event) (room : ℕ) → length (all_words (replicate 16 0) es room) ≡ 16 + (length es * 16 + room)
unfolding all_words
length_all es room =
    length-append (replicate {A = ℕ} 16 0) (words_from 1 0 es ++ replicate room 0)
    ∙ ap (λ (i : ℕ). 16 + i) (length-append (words_from 1 0 es) (replicate room 0)
    ∙ rw (length_from 1 0 es, length-replicate {A = ℕ} room 0) refl)

pub length_bytes : (es : List Event) (room : ℕ) → length (all_bytes es room) ≡ end_of 0 es + room
unfolding all_bytes
length_bytes es room = length-append (texts es) (replicate room 0) ∙ omega (arith, length-replicate {A = ℕ} room 0, length_texts 0 es)

-- the bindings are no record's children
bindings_top : (o : ℕ) → bindings ≡ children_of o → ⊥
bindings_top o q = omega arith

module _ {words bytes : List ℕ} {records used : ℕ} (xs : List Event) (e : Event) (ys : List Event)
    (l : Layout words bytes records used (xs ++ e ∷ ys)) where
  abbrev A : List Event
  A = xs ++ e ∷ ys

  abbrev r : ℕ
  r = 1 + length xs

  abbrev room : ℕ
  room = length words - (1 + length A) * 16

  abbrev head : List ℕ
  head = replicate 16 0

  size : length A ≡ length xs + suc (length ys)
  size = length-append xs (e ∷ ys)

  pub in_words : r * 16 + 16 ≤ length words
  in_words = omega (arith, size, count_words words (1 + length A) l.records_fit)

  -- the words of the record
  pub field : (i : ℕ) → i < 16 → get_or words (r * 16 + i) 0 ≡ get_or (words16 r (end_of 0 xs) e ys) i 0
  unfolding out_field
  field i h = ap (λ (w : List ℕ). get_or w (r * 16 + i) 0) l.words_are ∙ field_at head refl A room (splits_of 1 0 xs e ys) i h

  pub next_is : e.alive ≡ true → e.chain ≡ bindings → next_of words r ≡ first bindings (r + 1) ys
  unfolding words16 out_field
  next_is alive ec = field 1 (omega arith) ∙ rw (alive, ec) refl

  pub starts : e.alive ≡ true → (text_start words r ≡ start_of (end_of 0 xs) e.text) × (text_length words r ≡ length e.text)
      × (second_start words r ≡ start_of (end_of 0 xs + length e.text) e.second) × (second_length words r ≡ length e.second)
  unfolding words16 out_field
  starts alive = (
    field 2 (omega arith) ∙ rw alive refl,
    field 3 (omega arith) ∙ rw alive refl,
    field 4 (omega arith)
        ∙ rw alive refl,
    field 5 (omega arith) ∙ rw alive refl,
  )

  -- its texts lie in the bytes
  ends : end_of 0 xs + bytes_in e ≤ end_of 0 A
  ends = end_above 0 xs e ys

  pub words_left : e.alive ≡ true → e.chain ≡ bindings → (p n : ℕ) → p ≡ last bindings 1 xs → n ≡ next_of words r
      → set_next p n (cleared_words words r) ≡ all_words head (xs ++ dead e ∷ ys) room
  unfolding cleared_words
  words_left alive ec p n pe ne =
      rw (pe, ne ∙ next_is alive ec, le-leb (r * 16 + 16) (length words) in_words)
      (ap (λ (w : List ℕ). set_next (last bindings 1 xs) (first bindings (r + 1) ys) (written w (r * 16) (replicate 16 0))) l.words_are
      ∙ sym (all_removed bindings bindings_top head refl xs e ys ec room))

  pub bytes_left : e.alive ≡ true → cleared_texts words bytes r ≡ all_bytes (xs ++ dead e ∷ ys) (length bytes - end_of 0 A)
  unfolding cleared_texts
  bytes_left alive =
      let b0 = end_of 0 xs in
      let n1 = length e.text in
      let n2 = length e.second in
      let fits : b0 + (n1 + n2) ≤ length bytes = omega (arith, ends, l.bytes_fit) in
      let r1 = length-replicate {A = ℕ} n1 0 in
      let r2 = length-replicate {A = ℕ} n2 0 in
      let z1 = replicate {A = ℕ} n1 0 in
      let z2 = replicate {A = ℕ} n2 0 in
      let once : cleared_text bytes (start_of b0 e.text) n1 ≡ written bytes b0 z1 = cleared_at bytes b0 e.text (omega arith) in
      let kept : length (written bytes b0 z1) ≡ length bytes = written_length bytes b0 z1 (omega arith) in
      let again : cleared_text (written bytes b0 z1) (start_of (b0 + n1) e.second) n2 ≡ written (written bytes b0 z1) (b0 + n1) z2 =
      cleared_at (written bytes b0 z1) (b0 + n1) e.second (omega arith) in
      let at : b0 + n1 ≡ b0 + length z1 = omega arith in
      rw ((starts alive).0, (starts alive).1, (starts alive).2, (starts alive).3, once, again)
      (ap (λ (i : ℕ). written (written bytes b0 z1) i z2) at
      ∙ written_twice bytes b0 z1 z2 (omega arith)
      ∙ ap (λ (s : List ℕ). written bytes b0 s) (replicate-append-replicate {A = ℕ} n1 n2 0)
      ∙ ap (λ (b : List ℕ). written b b0 (replicate (n1 + n2) 0)) l.bytes_are
      ∙ sym (bytes_removed xs e ys (length bytes - end_of 0 A)))

  -- so the buffers hold the records left
  pub layout_left : (w b : List ℕ) → w ≡ all_words head (xs ++ dead e ∷ ys) room
      → b ≡ all_bytes (xs ++ dead e ∷ ys) (length bytes - end_of 0 A)
      → Layout w b records used (xs ++ dead e ∷ ys)
  layout_left w b we be =
      let B = xs ++ dead e ∷ ys in
      let sz = same_size xs e ys in
      let en = same_end 0 xs e ys in
      let lw : length w ≡ length words = omega (arith, ap length we, length_all B room, ap length l.words_are, length_all A room) in
      let lb : length b ≡ length bytes = omega (arith, ap length be, length_bytes B (length bytes - end_of 0 A), l.bytes_fit) in
      let rw' : length w - (1 + length B) * 16 ≡ room = omega arith in
      let rb : length b - end_of 0 B ≡ length bytes - end_of 0 A = omega arith in
      record {
        words_are = rw rw' we;
        bytes_are = rw rb be;
        records_are = rw sz l.records_are;
        used_are = rw en l.used_are;
        records_fit = rw (sz, same_count words w lw) l.records_fit;
        bytes_fit = rw (en, lb) l.bytes_fit;
        bytes_most = rw en l.bytes_most;
        ordered = same_order 1 xs e ys l.ordered;
      }

-- what removing a binding ensures
pub removes_going : (c d : LowerCtx) (words bytes w b : List ℕ) (previous r n : ℕ) → c.short ≡ false → n ≡ next_of words r
    → d ≡ without_bind c previous n
    → w ≡ set_next previous n (cleared_words words r) → b ≡ cleared_texts words bytes r → Removes c d words bytes w b previous r
unfolding without_bind
removes_going c d words bytes w b previous r n s ne de we be = record { holds = go; stays = λ t. absurd (not_both t s) }
  where
    go : (g : Hand) (xs : List Event) (e : Event) (ys : List Event) → Holds g c words bytes (xs ++ e ∷ ys) → e.chain ≡ bindings
        → e.alive ≡ true
        → (c.short ≡ false → r ≡ 1 + length xs) → (c.short ≡ false → previous ≡ last bindings 1 xs) → Holds g d w b (xs ++ dead e ∷ ys)
    go g xs e ys (over t x) ec al rr pp = absurd (not_both t s)
    go g xs e ys (going t l en) ec al rr pp =
        let q = rr s in
        let p = pp s in
        let m : n ≡ next_of words (1 + length xs) = rw (← q) ne in
        let ww : w ≡ all_words (replicate 16 0) (xs ++ dead e ∷ ys) (length words - (1 + length (xs ++ e ∷ ys)) * 16) =
        we ∙ ap (λ (i : ℕ). set_next previous n (cleared_words words i)) q ∙ words_left xs e ys l al ec previous n p m in
        let bb : b ≡ all_bytes (xs ++ dead e ∷ ys) (length bytes - end_of 0 (xs ++ e ∷ ys)) =
        be ∙ ap (λ (i : ℕ). cleared_texts words bytes i) q ∙ bytes_left xs e ys l al in
        rw de
        (going s (layout_left xs e ys l w b ww bb)
        (record {
          defs_run = runs_apart xs e ys (λ z. omega (arith, sym ec ∙ z)) en.defs_run;
          exts_run = runs_apart xs e ys (λ z. omega (arith, sym ec ∙ z)) en.exts_run;
          binds_run = runs_without bindings c.binds xs e ys ec en.binds_run previous n p (m ∙ next_is xs e ys l al ec);
          diags_run = runs_apart xs e ys (λ z. diags_other g.post bindings (λ i. omega arith) (λ i. omega arith) (sym z ∙ ec))
              en.diags_run;
        }))
