-- Making a record keeps the layout, or the buffers are short because one record more does not fit.
use Prim.Native.Nat.{ℕ, ◌+◌, ◌*◌, ◌<◌}
use mathlib.Core.Path.{◌≡◌, refl, sym, ◌∙◌}
use mathlib.Core.Bool.{false}
use mathlib.Core.List.{List, [], ◌∷◌, ◌++◌}
use native.Mathlib.Omega.{arith}
use borrow.Author.Tests.{lt-ltb, ltb-false, leb-false}
use lib.Dec.{ltb, leb}
use lib.ListN.{length, length-append}
use Rattle.paths_numbers.proofs.Texts.{by_test}
use Rattle.definition_log.specs.meaning.Record.{log_count, most_bytes}
use Rattle.making.specs.machine.Events.{Event, children_of}
use Rattle.making.specs.declared.ctx.LowerCtx.{LowerCtx}
use Rattle.making.specs.declared.ctx.Rec.{Rec}
use Rattle.making.specs.machine.Buffers.{event_of, Layout, Exceeds, records_exceed, bytes_exceed, most_exceed}
use Rattle.making.specs.machine.Made.{has_room, ran_short, one_more, makes, counted, made_words, made_bytes}
use Rattle.making.proofs.Make.{Spot, spot_none, spot_last, spot_child}
use Rattle.making.proofs.Append.{last_to}
use Rattle.making.proofs.Layouts.{count_words, end_more, layout_more}
use Rattle.making.proofs.Told.{cond_true, cond_false, room_is}

-- a link's place is among the words
spot_below : (c : ℕ) (es : List Event) (link : ℕ) → Spot c es link → link < (1 + length es) * 16
spot_below c es link (spot_none z s) = omega arith
spot_below c es link (spot_last z n s) = omega (arith, rw z at (last_to c 1 es (λ y. n (sym z ∙ y))))
spot_below c es link (spot_child p h o) = omega arith

-- what making a record comes to
pub data Making (c d : LowerCtx) (words bytes w b : List ℕ) (size : ℕ) (es : List Event) : Type 0 where
  made : d ≡ one_more c size → Layout w b (c.records + 1) (c.bytes + size) es → Making c d words bytes w b size es
  ran-short : d ≡ ran_short c → w ≡ words → b ≡ bytes → Exceeds words bytes es → Making c d words bytes w b size es

module _ (ctx : LowerCtx) (w b : List ℕ) (es : List Event) (l : Layout w b ctx.records ctx.bytes es) (going : ctx.short ≡ false)
    (c log : ℕ) (r : Rec) (x y : List ℕ) (link : ℕ) (spot : Spot c es link) (owned : (o : ℕ) → c ≡ children_of o → o < 1 + length es) where
  abbrev e : Event
  e = event_of c log r x y

  -- whether it has room decides
  decided : makes ctx w b (length x + length y) link ≡ has_room ctx w b (length x + length y)
  unfolding makes
  decided =
      cond_false ctx.short _ _ going
      ∙ cond_true (ltb link (length w)) _ _ (lt-ltb link (length w)
      (omega (arith, spot_below c es link spot, count_words w (1 + length es) l.records_fit)))

  -- no room: one of the limits
  exceeds : has_room ctx w b (length x + length y) ≡ false → Exceeds w b (es ++ e ∷ [])
  unfolding has_room
  exceeds n =
      let k : length (es ++ e ∷ []) ≡ length es + 1 = length-append es (e ∷ []) in
      let m = end_more 0 es e in
      by_test (ltb ctx.records (log_count w))
      (λ t.
      by_test (leb (ctx.bytes + (length x + length y)) most_bytes)
      (λ u. bytes_exceed (omega (arith, leb-false (ctx.bytes + (length x + length y)) (length b) (rw (t, u) at n), l.used_are)))
      (λ u. most_exceed (omega (arith, leb-false (ctx.bytes + (length x + length y)) most_bytes u, l.used_are))))
      (λ t. records_exceed (omega (arith, ltb-false ctx.records (log_count w) t, l.records_are)))

  pub making : Making ctx (counted ctx w b (length x) (length y) link) w b
      (made_words ctx w b r (length x) (length y) link) (made_bytes ctx w b x y link) (length x + length y) (es ++ e ∷ [])
  unfolding counted made_words made_bytes
  making =
      by_test (has_room ctx w b (length x + length y))
      (λ t.
      let m = decided ∙ t in
      let k = room_is ctx w b (length x + length y) 0 t (omega (arith, count_words w (1 + length es) l.records_fit)) in
      rw m
      (made refl
      (layout_more l c log r x y link (omega (arith, k.records_fit, l.records_are)) (omega (arith, k.bytes_fit, l.used_are))
      (omega (arith, k.bytes_most, l.used_are)) spot owned)))
      (λ t. let m = decided ∙ t in rw m (ran-short refl refl refl (exceeds t)))
