-- The log in hand with one record more: the ends of its chains, where the link to the record stands, and what the state and the buffers
-- then hold.
use Prim.Native.Nat.{ℕ, ◌+◌, ◌≤◌, ◌<◌}
use mathlib.Core.Path.{◌≡◌, refl, sym, ap, ◌∙◌, subst}
use mathlib.Core.Bool.{Bool, true, false}
use mathlib.Core.List.{List, [], ◌∷◌, ◌++◌}
use native.Mathlib.Omega.{arith}
use borrow.Author.Tests.{eq-eqb, ne_eqb, eqb-true, eqb-false}
use lib.Dec.{eqb}
use lib.ListN.{length, length-append}
use Rattle.paths_numbers.proofs.Texts.{by_test, not_both, both}
use Rattle.making.specs.declared.ctx.Chain.{Chain}
use Rattle.making.specs.declared.ctx.LowerCtx.{LowerCtx}
use Rattle.making.specs.declared.ctx.Rec.{Rec}
use Rattle.making.specs.machine.Events.{Event, defs_of, exts_of, bindings, children_of, in_chain, last, Ordered, ordered_next}
use Rattle.making.specs.machine.Buffers.{event_of, Layout, Exceeds, records_exceed, bytes_exceed, most_exceed}
use Rattle.making.specs.machine.Made.{ran_short, one_more, makes, counted, made_words, made_bytes, Told, end_link, child_link, grown}
use Rattle.making.specs.machine.Made.{with_def, with_ext, with_bind, with_diag}
use Rattle.making.specs.machine.Holding.{Hand, diags_of, Runs, Ends, Holds, going, over, there, AddsBelow}
use Rattle.making.proofs.Append.{first_there, first_new, first_other, last_new, last_other, chain_other, new_in, Safe, safe_none}
use Rattle.making.proofs.Append.{safe_next, above_safe, Owner, owner_here, owner_later}
use Rattle.making.proofs.Make.{Spot, spot_none, spot_last, spot_child}
use Rattle.making.proofs.Layouts.{end_more}
use Rattle.making.proofs.MakeLayout.{Making, made, ran-short, making}
use Rattle.making.proofs.Told.{makes_short, cond_false}

-- what does not fit does not fit with one record more
pub exceeds_more : {words bytes : List ℕ} {es : List Event} (e : Event) → Exceeds words bytes es → Exceeds words bytes (es ++ e ∷ [])
exceeds_more {es = es} e (records_exceed h) = records_exceed (omega (arith, length-append es (e ∷ [])))
exceeds_more {es = es} e (bytes_exceed h) = bytes_exceed (omega (arith, end_more 0 es e))
exceeds_more {es = es} e (most_exceed h) = most_exceed (omega (arith, end_more 0 es e))

-- a chain with one record more
pub runs_more : {c : ℕ} {x : Chain} {es : List Event} (e : Event) (n : ℕ) → Runs c x es → n ≡ 1 + length es → e.alive ≡ true → e.chain ≡ c
    → Runs c (grown false x n) (es ++ e ∷ [])
unfolding grown
runs_more {c} {x} {es} e n r q t i =
    record {
      first_is =
          by_test (eqb x.first 0)
          (λ z. rw z (q ∙ sym (first_new c 1 es e (omega arith) (sym r.first_is ∙ eqb-true _ _ z) (new_in c e t i))))
          (λ z. rw z (r.first_is ∙ sym (first_there c 1 es e (omega arith) (λ f. eqb-false _ _ z (r.first_is ∙ f)))));
      last_is = q ∙ sym (last_new c 1 es e (omega arith) (new_in c e t i));
    }

-- another chain
pub runs_same : {d : ℕ} {x : Chain} {es : List Event} (e : Event) → Runs d x es → (e.chain ≡ d → ⊥) → Runs d x (es ++ e ∷ [])
runs_same {d} {x} {es} e r n =
    let o = chain_other e.chain d e refl n in
    record { first_is = r.first_is ∙ sym (first_other d 1 es e o); last_is = r.last_is ∙ sym (last_other d 1 es e o) }

-- a chain that is no record's children
safe_top : (c k : ℕ) (es : List Event) → ((o : ℕ) → c ≡ children_of o → ⊥) → Safe c k es
safe_top c k [] n = safe_none
safe_top c k (x ∷ es) n = safe_next (λ (q : c ≡ children_of k) (z : last c (k + 1) es ≡ 0). n k q) (safe_top c (k + 1) es n)

-- the link to its next record
pub spot_top : {c : ℕ} {x : Chain} {es : List Event} → ((o : ℕ) → c ≡ children_of o → ⊥) → Runs c x es → Spot c es (end_link x)
spot_top {c} {x} {es} n r =
    by_test (eqb x.last 0)
    (λ z. rw z (spot_none (sym r.last_is ∙ eqb-true _ _ z) (safe_top c 1 es n)))
    (λ z. rw z (spot_last (sym r.last_is) (eqb-false _ _ z) (safe_top c 1 es n)))

-- the children of a record come after it
child_safe : (o k : ℕ) (es : List Event) → Ordered k es → k ≤ o → (last (children_of o) k es ≡ 0 → ⊥) → Safe (children_of o) k es
unfolding last
child_safe o k [] h p n = safe_none
child_safe o k (x ∷ es) (ordered_next f h) p n =
    by_test (in_chain (children_of o) x)
    (λ t. absurd (omega (arith, f o (eqb-true x.chain (children_of o) (both x.alive _ t).1))))
    (λ t.
    let m : last (children_of o) (k + 1) es ≡ 0 → ⊥ = λ z. n (rw (z, t) refl) in
    by_test (eqb k o)
    (λ q. safe_next (λ (i : children_of o ≡ children_of k) (z : last (children_of o) (k + 1) es ≡ 0). m z)
    (above_safe (children_of o) o (k + 1) es refl (omega (arith, eqb-true k o q))))
    (λ q.
    let l : k + 1 ≤ o = let ne : k ≡ o → ⊥ = eqb-false k o q in omega arith in
    safe_next (λ (i : children_of o ≡ children_of k) (z : last (children_of o) (k + 1) es ≡ 0). m z) (child_safe o (k + 1) es h l m)))

-- a record that is there has its number
pub there_from : (o k : ℕ) (es : List Event) → there o k es ≡ true → k ≤ o
unfolding there
there_from o k [] t = absurd (not_both t refl)
there_from o k (x ∷ es) t =
    by_test (eqb o k)
    (λ q. omega (arith, eqb-true o k q))
    (λ q. omega (arith, there_from o (k + 1) es (rw q at t)))

pub there_to : (o k : ℕ) (es : List Event) → there o k es ≡ true → o < k + length es
unfolding there
there_to o k [] t = absurd (not_both t refl)
there_to o k (x ∷ es) t =
    by_test (eqb o k)
    (λ q. omega (arith, eqb-true o k q))
    (λ q. omega (arith, there_to o (k + 1) es (rw q at t)))

-- the new one is there
pub there_new : (k : ℕ) (es : List Event) (e : Event) → e.alive ≡ true → there (k + length es) k (es ++ e ∷ []) ≡ true
unfolding there
there_new k [] e t = let z : k + 0 ≡ k = omega arith in rw (z, eq-eqb k k refl) t
there_new k (x ∷ es) e t =
    let z : k + length (x ∷ es) ≡ k + 1 + length es = omega arith in
    subst (λ (n : ℕ). there n k (x ∷ es ++ e ∷ []) ≡ true) (sym z)
    (rw (ne_eqb (k + 1 + length es) k (λ q. omega arith)) (there_new (k + 1) es e t))

-- a record that is there is the owner of its first child
child_owner : (o k : ℕ) (es : List Event) → 0 < k → Ordered k es → there o k es ≡ true → last (children_of o) k es ≡ 0
    → Owner (children_of o) o k es
unfolding there last
child_owner o k [] p h t z = absurd (not_both t refl)
child_owner o k (x ∷ es) p (ordered_next f h) t z =
    let l : last (children_of o) (k + 1) es ≡ 0 =
    by_test (eqb (last (children_of o) (k + 1) es) 0) (λ u. eqb-true _ _ u) (λ u. rw u at z) in
    by_test (eqb o k)
    (λ q.
    let e : o ≡ k = eqb-true o k q in
    rw e (owner_here refl (rw q at t) (λ (i : x.chain ≡ children_of k). omega (arith, f k i)) (rw e at l)))
    (λ q.
    let ne : o ≡ k → ⊥ = eqb-false o k q in
    let u : there o (k + 1) es ≡ true = rw q at t in
    let out : in_chain (children_of o) x ≡ false = by_test (in_chain (children_of o) x) (λ v. absurd (omega (arith, rw (l, v) at z))) (λ v. v)
    in
    owner_later (omega (arith, there_from o (k + 1) es u)) out (λ (i : children_of o ≡ children_of k). ne (omega arith))
    (child_owner o (k + 1) es (omega arith) h u l))

-- the link to the next child
pub spot_below : (o l : ℕ) (es : List Event) → Ordered 1 es → there o 1 es ≡ true → l ≡ last (children_of o) 1 es
    → Spot (children_of o) es (child_link o l)
spot_below o l es h t e =
    by_test (eqb l 0)
    (λ z. rw z (spot_child (there_from o 1 es t) (there_to o 1 es t) (child_owner o 1 es (omega arith) h t (sym e ∙ eqb-true l 0 z))))
    (λ z. rw z (spot_last (sym e) (eqb-false l 0 z) (child_safe o 1 es h (there_from o 1 es t) (λ y. eqb-false l 0 z (e ∙ y)))))

-- the counts with one record more, and the mark of a state that ran short
module _ (c d : LowerCtx) (size : ℕ) where
  more_records : d ≡ one_more c size → d.records ≡ c.records + 1
  unfolding one_more
  more_records q = ap (λ (a : LowerCtx). a.records) q

  more_bytes : d ≡ one_more c size → d.bytes ≡ c.bytes + size
  unfolding one_more
  more_bytes q = ap (λ (a : LowerCtx). a.bytes) q

  more_short : d ≡ one_more c size → d.short ≡ c.short
  unfolding one_more
  more_short q = ap (λ (a : LowerCtx). a.short) q

is_short : (c d : LowerCtx) → d ≡ ran_short c → d.short ≡ true
unfolding ran_short
is_short c d q = ap (λ (a : LowerCtx). a.short) q

-- a record made, or not for want of room
module _ {c d : LowerCtx} {words bytes w b : List ℕ} {r : Rec} {x y : List ℕ} {link : ℕ} (told : Told c d words bytes w b r x y link) where
  -- a state that ran short stays so, and the buffers are left
  pub told_over : c.short ≡ true → (d.short ≡ true) × (w ≡ words) × (b ≡ bytes)
  unfolding counted made_words made_bytes ran_short
  told_over s =
      let n = sym (makes_short c words bytes (length x + length y) link s) in (
        ap (λ (a : LowerCtx). a.short) (told.state ∙ cond_false (makes c words bytes (length x + length y) link) _ _ n),
        told.words_are ∙ cond_false (makes c words bytes (length x + length y) link) _ _ n,
        told.bytes_are ∙ cond_false (makes c words bytes (length x + length y) link) _ _ n,
      )

  told_making : (es : List Event) (chain log : ℕ) → c.short ≡ false → Layout words bytes c.records c.bytes es → Spot chain es link
      → ((o : ℕ) → chain ≡ children_of o → o < 1 + length es) → Making c d words bytes w b (length x + length y)
      (es ++ event_of chain log r x y ∷ [])
  told_making es chain log s l p o =
      rw (told.state, told.words_are, told.bytes_are) (making c words bytes es l s chain log r x y link p o)

  -- what the state f, which is d but for its chains, and the buffers hold then
  pub added : (f : LowerCtx) (chain log : ℕ) (g : Hand) (es : List Event) → Holds g c words bytes es
      → (c.short ≡ false → Layout words bytes c.records c.bytes es → Ends g c es → Spot chain es link)
      → (c.short ≡ false → (o : ℕ) → chain ≡ children_of o → o < 1 + length es)
      → f.records ≡ d.records → f.bytes ≡ d.bytes → f.short ≡ d.short
      → (d ≡ one_more c (length x + length y) → c.short ≡ false → c.records ≡ 1 + length es → Ends g c es
      → Ends g f (es ++ event_of chain log r x y ∷ []))
      → Holds g f w b (es ++ event_of chain log r x y ∷ [])
  added f chain log g es (over s ex) spot owned fr fb fs ends =
      let o = told_over s in
      over (fs ∙ o.0) (rw (o.1, o.2) (exceeds_more (event_of chain log r x y) ex))
  added f chain log g es (going s l en) spot owned fr fb fs ends = go (told_making es chain log s l (spot s l en) (owned s))
    where
      go : Making c d words bytes w b (length x + length y) (es ++ event_of chain log r x y ∷ [])
          → Holds g f w b (es ++ event_of chain log r x y ∷ [])
      go (made q lay) = going (fs ∙ more_short c d _ q ∙ s) (rw (fr ∙ more_records c d _ q, fb ∙ more_bytes c d _ q) lay)
          (ends q s l.records_are en)
      go (ran-short q ew eb ex) = over (fs ∙ is_short c d q) (rw (ew, eb) ex)

-- the chain of the diagnostics is another than those of other numbers
pub diags_other : (post : Bool) (n : ℕ) → (3 ≡ n → ⊥) → (4 ≡ n → ⊥) → diags_of post ≡ n → ⊥
diags_other true n a b e = b e
diags_other false n a b e = a e

-- a chain of a state that did not run short
runs_going : {c : ℕ} {es : List Event} (x : Chain) (n : ℕ) (t : Bool) → t ≡ false → Runs c (grown false x n) es → Runs c (grown t x n) es
runs_going x n true e r = absurd (not_both refl e)
runs_going x n false e r = r

-- a record more in each of the four chains
module _ {c d f : LowerCtx} {words bytes w b : List ℕ} {r : Rec} {x y : List ℕ} where
  pub added_def : Told c d words bytes w b r x y (end_link c.defs) → f ≡ with_def d c.records → (g : Hand) (es : List Event)
      → Holds g c words bytes es
      → Holds g f w b (es ++ event_of (defs_of g.log) 0 r x y ∷ [])
  unfolding with_def one_more
  added_def t q g es h =
      let e = event_of (defs_of g.log) 0 r x y in
      rw q
      (added t (with_def d c.records) (defs_of g.log) 0 g es h (λ s l en. spot_top (λ o z. omega arith) en.defs_run)
      (λ s o z. absurd (omega arith)) refl refl refl
      (λ m s n en.
      rw m
      (record {
        defs_run = runs_going c.defs c.records c.short s (runs_more e c.records en.defs_run n refl refl);
        exts_run = runs_same e en.exts_run (λ z. omega arith);
        binds_run = runs_same e en.binds_run (λ z. omega arith);
        diags_run = runs_same e en.diags_run (λ z. diags_other g.post (defs_of g.log) (λ i. omega arith) (λ i. omega arith) (sym z));
      })))

  pub added_ext : (log : ℕ) → Told c d words bytes w b r x y (end_link c.exts) → f ≡ with_ext d c.records → (g : Hand) (es : List Event)
      → Holds g c words bytes es
      → Holds g f w b (es ++ event_of (exts_of g.exts) log r x y ∷ [])
  unfolding with_ext one_more
  added_ext log t q g es h =
      let e = event_of (exts_of g.exts) log r x y in
      rw q
      (added t (with_ext d c.records) (exts_of g.exts) log g es h (λ s l en. spot_top (λ o z. omega arith) en.exts_run)
      (λ s o z. absurd (omega arith)) refl refl refl
      (λ m s n en.
      rw m
      (record {
        defs_run = runs_same e en.defs_run (λ z. omega arith);
        exts_run = runs_going c.exts c.records c.short s (runs_more e c.records en.exts_run n refl refl);
        binds_run = runs_same e en.binds_run (λ z. omega arith);
        diags_run = runs_same e en.diags_run (λ z. diags_other g.post (exts_of g.exts) (λ i. omega arith) (λ i. omega arith) (sym z));
      })))

  pub added_bind : Told c d words bytes w b r x y (end_link c.binds) → f ≡ with_bind d c.records → (g : Hand) (es : List Event)
      → Holds g c words bytes es
      → Holds g f w b (es ++ event_of (bindings) 0 r x y ∷ [])
  unfolding with_bind one_more
  added_bind t q g es h =
      let e = event_of (bindings) 0 r x y in
      rw q
      (added t (with_bind d c.records) (bindings) 0 g es h (λ s l en. spot_top (λ o z. omega arith) en.binds_run)
      (λ s o z. absurd (omega arith)) refl refl refl
      (λ m s n en.
      rw m
      (record {
        defs_run = runs_same e en.defs_run (λ z. omega arith);
        exts_run = runs_same e en.exts_run (λ z. omega arith);
        binds_run = runs_going c.binds c.records c.short s (runs_more e c.records en.binds_run n refl refl);
        diags_run = runs_same e en.diags_run (λ z. diags_other g.post (bindings) (λ i. omega arith) (λ i. omega arith) (sym z));
      })))

  pub added_diag : Told c d words bytes w b r x y (end_link c.diags) → f ≡ with_diag d c.records → (g : Hand) (es : List Event)
      → Holds g c words bytes es
      → Holds g f w b (es ++ event_of (diags_of g.post) 0 r x y ∷ [])
  unfolding with_diag one_more
  added_diag t q g es h =
      let e = event_of (diags_of g.post) 0 r x y in
      rw q
      (added t (with_diag d c.records) (diags_of g.post) 0 g es h
      (λ s l en. spot_top (λ o. diags_other g.post (children_of o) (λ i. omega arith) (λ i. omega arith)) en.diags_run)
      (λ s o z. absurd (diags_other g.post (children_of o) (λ i. omega arith) (λ i. omega arith) z)) refl refl refl
      (λ m s n en.
      rw m
      (record {
        defs_run = runs_same e en.defs_run (diags_other g.post (defs_of g.log) (λ i. omega arith) (λ i. omega arith));
        exts_run = runs_same e en.exts_run (diags_other g.post (exts_of g.exts) (λ i. omega arith) (λ i. omega arith));
        binds_run = runs_same e en.binds_run (diags_other g.post (bindings) (λ i. omega arith) (λ i. omega arith));
        diags_run = runs_going c.diags c.records c.short s (runs_more e c.records en.diags_run n refl refl);
      })))

-- and below a record
pub added_child : {c d : LowerCtx} {words bytes w b : List ℕ} {r : Rec} {x y : List ℕ} (owner last_child : ℕ)
    → Told c d words bytes w b r x y (child_link owner last_child)
    → AddsBelow c d words bytes w b owner last_child (event_of (children_of owner) 0 r x y)
unfolding one_more
added_child {c} {d} {r = r} {x} {y} owner last_child t =
    record {
      holds = λ g es h th la.
          let e = event_of (children_of owner) 0 r x y in
          added t d (children_of owner) 0 g es h
          (λ s l en. spot_below owner last_child es l.ordered (th s) (la s))
          (λ s o z. omega (arith, there_to owner 1 es (th s)))
          refl refl refl
          (λ m s n en.
          rw m
          (record {
            defs_run = runs_same e en.defs_run (λ z. omega arith);
            exts_run = runs_same e en.exts_run (λ z. omega arith);
            binds_run = runs_same e en.binds_run (λ z. omega arith);
            diags_run = runs_same e en.diags_run (λ z. diags_other g.post (children_of owner) (λ i. omega arith) (λ i. omega arith)
                (sym z));
          }));
      stays = λ s. (told_over t s).0;
    }
