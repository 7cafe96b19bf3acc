-- A log in the making read back by the heads of its chains, as queries read it.
use Prim.Native.Nat.{ℕ, ◌+◌, ◌*◌, ◌-◌, ◌≤◌}
use mathlib.Core.Path.{◌≡◌, refl, sym, ap, subst, ◌∙◌}
use mathlib.Core.Bool.{true, false}
use mathlib.Core.List.{List, [], ◌∷◌, ◌++◌, map}
use native.Mathlib.Omega.{arith}
use borrow.Author.Tests.{eqb-true}
use lib.ListN.{length, replicate}
use Rattle.paths_numbers.specs.meaning.Text.{is_empty}
use Rattle.paths_numbers.specs.meaning.Path.{root}
use Rattle.paths_numbers.proofs.Texts.{not_both, both}
use Rattle.making.specs.declared.ctx.LowerCtx.{LowerCtx}
use Rattle.making.specs.declared.place.PathAt.TheVariants as P
use Rattle.definition_log.specs.meaning.Contents.{Def}
use Rattle.making.specs.meaning.State.{State}
use Rattle.definition_log.specs.meaning.Record.{log_count, out_field, text_start, text_length, second_start, second_length, first_text}
use Rattle.definition_log.specs.meaning.Record.{second_text}
use Rattle.definition_log.specs.meaning.ReadBack.{chain_of, read_defs, read_bindings}
use Rattle.making.specs.machine.Events.{Event, defs_of, bindings, first, start_of, end_of, members, all_words, def_of, defs_in}
use Rattle.making.specs.machine.Events.{binding_of}
use Rattle.making.specs.machine.Buffers.{Layout}
use Rattle.making.specs.machine.PathPlaces.{place_len, path_in}
use Rattle.making.proofs.PathPlaces.{path_root, settled_root}
use Rattle.making.specs.machine.Represents.{Place, Context, log_of, Open, Stands, at_root, at_top, at_definition}
use Rattle.making.specs.machine.Represents.{more_places, Represents, going, over, with_place, Newest}
use Rattle.making.proofs.ReadEvents.{numbers_of}
use Rattle.making.proofs.ReadLog.{chain_of_lem, defs_read, bindings_read}
use Rattle.making.proofs.Removing.{starts, end_above}
use Rattle.making.proofs.Paths.{place_of, path_read, text_first, path_first}
use Rattle.making.proofs.Cuts.{cut, last_of}
use Rattle.making.proofs.Represented.{common_as}

module _ {words bytes : List ℕ} {records used : ℕ} {es : List Event} (l : Layout words bytes records used es) where
  abbrev room : ℕ
  room = length words - (1 + length es) * 16

  abbrev more : ℕ
  more = length bytes - end_of 0 es

  fits : 1 + length es ≤ log_count (all_words (replicate 16 0) es room)
  fits = subst (λ (w : List ℕ). 1 + length es ≤ log_count w) l.words_are l.records_fit

  pub chain_reads : (c : ℕ) → chain_of words (first c 1 es) ≡ numbers_of (members c 1 es)
  chain_reads c = ap (λ (w : List ℕ). chain_of w (first c 1 es)) l.words_are
      ∙ chain_of_lem (replicate 16 0) refl es room more fits l.ordered c

  pub defs_reads : (log : ℕ) → read_defs words bytes (first (defs_of log) 1 es) ≡ defs_in log es
  defs_reads log =
      ap (λ (w : List ℕ). read_defs w bytes (first (defs_of log) 1 es)) l.words_are
      ∙ ap (λ (b : List ℕ). read_defs (all_words (replicate 16 0) es room) b (first (defs_of log) 1 es)) l.bytes_are
      ∙ defs_read (replicate 16 0) refl es room more fits l.ordered log

  pub bindings_reads : read_bindings words bytes (first bindings 1 es) ≡ map binding_of (members bindings 1 es)
  bindings_reads =
      ap (λ (w : List ℕ). read_bindings w bytes (first bindings 1 es)) l.words_are
      ∙ ap (λ (b : List ℕ). read_bindings (all_words (replicate 16 0) es room) b (first bindings 1 es)) l.bytes_are
      ∙ bindings_read (replicate 16 0) refl es room more fits l.ordered bindings

  -- a record of a chain: its texts lie among the bytes in use, and are what is read at their places
  pub texts_read : (c : ℕ) (ns ms : List ℕ) (r : ℕ) → chain_of words (first c 1 es) ≡ ns ++ r ∷ ms
      → (path_in used bytes (place_of (text_start words r) (text_length words r)) ≡ first_text words bytes r)
      × (path_in used bytes (place_of (second_start words r) (second_length words r)) ≡ second_text words bytes r)
  unfolding is_empty
  texts_read c ns ms r q =
      let t = cut c 1 es ns r ms (sym (chain_reads c) ∙ q) in
      let xs = t.xs in
      let e = t.event in
      let here : Layout words bytes records used (xs ++ e ∷ t.ys) = subst (λ (l : List Event). Layout words bytes records used l) t.is l
      in
      let at = starts xs e t.ys here (both e.alive _ t.within).0 in
      let top : end_of 0 xs + (length e.text + length e.second) ≤ used = omega (arith, end_above 0 xs e t.ys, here.used_are) in
      let fit : used ≤ length bytes = omega (arith, here.used_are, here.bytes_fit) in
      let one : text_start words r + text_length words r ≤ used = rw (t.number, at.0, at.1)
      (in_use (end_of 0 xs) e.text used (omega arith)) in
      let two : second_start words r + second_length words r ≤ used = rw (t.number, at.2, at.3)
      (in_use (end_of 0 xs + length e.text) e.second used (omega arith)) in
      (path_read bytes used _ _ _ refl one (omega arith), path_read bytes used _ _ _ refl two (omega arith))
    where
      in_use : (at : ℕ) (text : List ℕ) (most : ℕ) → at + length text ≤ most → start_of at text + length text ≤ most
      in_use at [] most h = omega arith
      in_use at (a ∷ text) most h = h

-- what is read at a place
root_read : (used : ℕ) (bytes : List ℕ) → path_in used bytes P.Root ≡ root
root_read used bytes = sym (path_root used bytes P.Root (settled_root used bytes))

-- the place of a definition's text
placed : {start size : ℕ} (es xs : List Event) (e : Event) (ys : List Event) (j : ℕ) (text path : List ℕ) → e.text ≡ text
    → es ≡ xs ++ e ∷ ys → e.alive ≡ true → e.chain ≡ defs_of j → start ≡ start_of (end_of 0 xs) text → size ≡ length text → path ≡ text
    → Stands es (record { at = place_of start size; path = path })
unfolding is_empty
placed es xs e ys j [] path z q t i x y p = at_top (rw (x, y) refl) p
placed es xs e ys j (v ∷ text) path z q t i x y p = at_definition xs e ys j q t i (rw (x, y ∙ ap length (sym z)) refl) (p ∙ sym z)

-- of the log in hand
module _ {k : Context} {c : LowerCtx} {words bytes : List ℕ} {s : State} where
  pub represents_defs : Represents k c words bytes s → c.short ≡ false → read_defs words bytes c.defs.first ≡ s.defs
  represents_defs (over h m) n = absurd (not_both h n)
  represents_defs (going es h l cr cb o m st ps ss mk) n = rw o.defs_run.first_is (defs_reads l (log_of k.waiting) ∙ o.defs_say)

  pub represents_bindings : Represents k c words bytes s → c.short ≡ false → read_bindings words bytes c.binds.first ≡ s.binds
  represents_bindings (over h m) n = absurd (not_both h n)
  represents_bindings (going es h l cr cb o m st ps ss mk) n = rw m.binds_run.first_is (bindings_reads l ∙ m.binds_say)

  -- the paths and labels of its bindings and definitions, by record number
  pub binding_path : Represents k c words bytes s → c.short ≡ false → (ns ms : List ℕ) (r : ℕ)
      → chain_of words c.binds.first ≡ ns ++ r ∷ ms
      → path_in c.bytes bytes (place_of (second_start words r) (second_length words r)) ≡ second_text words bytes r
  binding_path (over h m) n ns ms r q = absurd (not_both h n)
  binding_path (going es h l cr cb o m st ps ss mk) n ns ms r q = (texts_read l bindings ns ms r (rw m.binds_run.first_is at q)).1

  pub binding_label : Represents k c words bytes s → c.short ≡ false → (ns ms : List ℕ) (r : ℕ)
      → chain_of words c.binds.first ≡ ns ++ r ∷ ms
      → path_in c.bytes bytes (place_of (text_start words r) (text_length words r)) ≡ first_text words bytes r
  binding_label (over h m) n ns ms r q = absurd (not_both h n)
  binding_label (going es h l cr cb o m st ps ss mk) n ns ms r q = (texts_read l bindings ns ms r (rw m.binds_run.first_is at q)).0

  pub def_path : Represents k c words bytes s → c.short ≡ false → (ns ms : List ℕ) (r : ℕ) → chain_of words c.defs.first ≡ ns ++ r ∷ ms
      → path_in c.bytes bytes (place_of (text_start words r) (text_length words r)) ≡ first_text words bytes r
  def_path (over h m) n ns ms r q = absurd (not_both h n)
  def_path (going es h l cr cb o m st ps ss mk) n ns ms r q = (texts_read l (defs_of (log_of k.waiting)) ns ms r
      (rw o.defs_run.first_is at q)).0

  -- a place more, where that stands for its path
  gain_place : (p : Place) → ((es : List Event) → Layout words bytes c.records c.bytes es → Open k.waiting c es s → Stands es p)
      → Represents k c words bytes s
      → Represents (with_place p k) c words bytes s
  gain_place p f (over h m) = over h m
  gain_place p f (going es h l cr cb o m st ps ss mk) =
      going es h l cr cb o (common_as refl refl refl refl refl refl refl m) st (more_places (f es l o) ps) ss mk

  -- of "/", and of the empty path
  pub root_place : (p : Place) → p.at ≡ P.Root → p.path ≡ root → Represents k c words bytes s
      → Represents (with_place p k) c words bytes s
  root_place p a b h = gain_place p (λ es l o. at_root a b) h

  pub top_place : (p : Place) → p.at ≡ P.Bytes 0 0 → p.path ≡ [] → Represents k c words bytes s
      → Represents (with_place p k) c words bytes s
  top_place p a b h = gain_place p (λ es l o. at_top a b) h

  -- of a definition's path
  pub def_place : Represents k c words bytes s → (ns ms : List ℕ) (r : ℕ) → chain_of words c.defs.first ≡ ns ++ r ∷ ms
      → Represents (with_place (record { at = place_of (text_start words r) (text_length words r); path = first_text words bytes r }) k) c words
      bytes s
  def_place h ns ms r q =
      gain_place (record { at = place_of (text_start words r) (text_length words r); path = first_text words bytes r })
      (λ es l o.
      let j = log_of k.waiting in
      let t = cut (defs_of j) 1 es ns r ms (sym (chain_reads l (defs_of j)) ∙ rw o.defs_run.first_is at q) in
      let in₀ = both t.event.alive _ t.within in
      let here : Layout words bytes c.records c.bytes (t.xs ++ t.event ∷ t.ys) = subst
      (λ (v : List Event). Layout words bytes c.records c.bytes v) t.is l in
      let at = starts t.xs t.event t.ys here in₀.0 in
      let a = ap (text_start words) t.number ∙ at.0 in
      let b = ap (text_length words) t.number ∙ at.1 in
      placed es t.xs t.event t.ys j t.event.text (first_text words bytes r) refl t.is in₀.0 (eqb-true _ _ in₀.1) a b
      (rw (a, b) (text_first t.xs t.event t.ys here in₀.0)))
      h

  -- a place less
  pub forget_place : {p : Place} → Represents (with_place p k) c words bytes s → Represents k c words bytes s
  forget_place (over h m) = over h m
  forget_place (going es h l cr cb o m st (more_places x ps) ss mk) =
      going es h l cr cb o (common_as refl refl refl refl refl refl refl m) st ps ss mk

  -- what is read at a place is its path
  pub place_reads : {p : Place} → Represents (with_place p k) c words bytes s → c.short ≡ false → path_in c.bytes bytes p.at ≡ p.path
  place_reads (over h m) n = absurd (not_both h n)
  place_reads {p} (going es h l cr cb o m st (more_places x ps) ss mk) n = go x
    where
      go : Stands es p → path_in c.bytes bytes p.at ≡ p.path
      go (at_root a b) = ap (path_in c.bytes bytes) a ∙ root_read c.bytes bytes ∙ sym b
      go (at_top a b) = ap (path_in c.bytes bytes) a ∙ path_read bytes c.bytes 0 0 [] refl (omega arith) (omega arith) ∙ sym b
      go (at_definition xs e ys j q t i a f) =
          ap (path_in c.bytes bytes) a
          ∙ path_first xs e ys (subst (λ (v : List Event). Layout words bytes c.records c.bytes v) q l) t ∙ sym f

  -- and as long as the place says
  pub place_length : {p : Place} → Represents (with_place p k) c words bytes s → c.short ≡ false → place_len p.at ≡ length p.path
  place_length (over h m) n = absurd (not_both h n)
  place_length {p} (going es h l cr cb o m st (more_places x ps) ss mk) n = go x
    where
      go : Stands es p → place_len p.at ≡ length p.path
      go (at_root a b) = rw (a, b) refl
      go (at_top a b) = rw (a, b) refl
      go (at_definition xs e ys j q t i a b) = rw (a, b) refl

-- the newest definition's path
pub newest : (c : LowerCtx) (words : List ℕ) (start size : ℕ) → start ≡ out_field words c.defs.last 2
    → size ≡ out_field words c.defs.last 3 → Newest c words (place_of start size)
unfolding defs_in def_of
newest c words start size a b =
    record {
      stands = λ k bytes s ds d h n q. gain_place (record { at = place_of start size; path = d.path })
          (λ es l o. found k bytes s ds d es l o q) h;
    }
  where
    found : (k : Context) (bytes : List ℕ) (s : State) (ds : List Def) (d : Def) (es : List Event)
        → Layout words bytes c.records c.bytes es → Open k.waiting c es s
        → s.defs ≡ ds ++ d ∷ [] → Stands es (record { at = place_of start size; path = d.path })
    found k bytes s ds d es l o q =
        let j = log_of k.waiting in
        let t = last_of (def_of es) (defs_of j) 1 es ds d (o.defs_say ∙ q) in
        let in₀ = both t.event.alive _ t.within in
        let here : Layout words bytes c.records c.bytes (t.xs ++ t.event ∷ t.ys) = subst
        (λ (v : List Event). Layout words bytes c.records c.bytes v) t.is l in
        let at = starts t.xs t.event t.ys here in₀.0 in
        let r : c.defs.last ≡ 1 + length t.xs = o.defs_run.last_is ∙ t.number in
        placed es t.xs t.event t.ys j t.event.text d.path refl t.is in₀.0 (eqb-true _ _ in₀.1)
        (a ∙ ap (λ (i : ℕ). out_field words i 2) r ∙ at.0) (b ∙ ap (λ (i : ℕ). out_field words i 3) r ∙ at.1)
        (sym (ap (λ (v : Def). v.path) t.says))
