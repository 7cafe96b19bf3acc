-- Items of a chain lowered one after the other, and one item by its kind.
use Prim.Native.Nat.{ℕ, ◌≤◌}
use mathlib.Core.Path.{◌≡◌, ap, subst}
use mathlib.Core.Bool.{true}
use mathlib.Core.List.{List, [], ◌∷◌}
use borrow.Author.Tests.{ne_eqb}
use Rattle.paths_numbers.proofs.Texts.{both}
use Rattle.making.specs.declared.ctx.LowerCtx.{LowerCtx}
use Rattle.making.specs.declared.place.PathAt.{PathAt}
use Rattle.making.specs.meaning.State.{State, emit}
use Rattle.making.specs.machine.Represents.{with_place, Represents}
use Rattle.input.specs.meaning.Tree.{Trees, node_kind, property_kind, directive_kind, preprocessor_kind}
use Rattle.input.specs.meaning.Report.{report}
use Rattle.items.specs.meaning.Lower.{lower_node, lower_property, lower_directive, lower_item, lower_items}
use Rattle.input.specs.meaning.Input.{kind_at, child_at, second_at, number_at, span_at, chain_at}
use Rattle.input.specs.machine.At.{record_at}
use Rattle.input.specs.meaning.GoodName.{good_names, good_names_in}
use Rattle.input.specs.machine.Fits.{depths_of}
use Rattle.input.specs.declared.linked.Chain.{Chain}
use Rattle.resolving.specs.machine.Lowers.{Lowers, LowersAt}
use Rattle.input.proofs.GoodNames.{good_parts, good_second}
use Rattle.input.specs.machine.ChainLeft.{trees_of, chain_left, trees_left}
use Rattle.input.proofs.ChainLeft.{chain_is}
use Rattle.items.proofs.ChainWalked.{RecordsIn, records_start, records_later}

-- the items that were walked are lowered: with the rest's it is what the whole chain does
pub record ItemsTo (level : ℕ) (parent : PathAt) (c d : LowerCtx) (words bytes w b input text : List ℕ) (first nesting : ℕ) (left : List ℕ)
    : Type 0 where
  pub chain : RecordsIn input text nesting left
  pub good : good_names_in (trees_of input text left) ≡ true
  pub done : List ℕ → State → State
  pub lowers : LowersAt parent c d words bytes w b done
  pub whole : (p : List ℕ) (s : State) → lower_items level (trees_of input text left) p (done p s)
      ≡ lower_items level (chain_at input text first) p s

pub items_start : (level : ℕ) {parent : PathAt} {c : LowerCtx} {words bytes : List ℕ} (items : Chain) (nesting : ℕ)
    → depths_of (trees_left items) ≤ nesting → good_names_in (trees_left items) ≡ true
    → ItemsTo level parent c c words bytes words bytes items.input.words.now items.input.text.now items.next nesting (chain_left items)
items_start level items nesting h g =
    let i = items.input in
    let e = chain_is i.words.now i.linked i.text.now items.next items.at in
    record {
      chain = records_start items nesting h;
      good = rw e g;
      done = λ p s. s;
      lowers = record { lowers = λ k p s r. r };
      whole = λ p s. ap (λ (ts : Trees). lower_items level ts p s) e;
    }

module _ {level : ℕ} {parent : PathAt} {c d : LowerCtx} {words bytes w b input text : List ℕ} {first nesting : ℕ} where
  pub items_whole : ItemsTo level parent c d words bytes w b input text first nesting []
      → LowersAt parent c d words bytes w b (λ p s. lower_items level (chain_at input text first) p s)
  unfolding lower_items
  items_whole h =
      record {
        lowers = λ k p s m.
            subst (λ (u : State). Represents (with_place (record { at = parent; path = p }) k) d w b u) (h.whole p s)
            (h.lowers.lowers k p s m);
      }

  module _ {r : ℕ} {later : List ℕ} (h : ItemsTo level parent c d words bytes w b input text first nesting (r ∷ later)) where
    pub item_good : good_names (record_at input text r) ≡ true
    unfolding good_names_in
    item_good = (both (good_names (record_at input text r)) _ h.good).0

    rest_good : good_names_in (trees_of input text later) ≡ true
    unfolding good_names_in
    rest_good = (both (good_names (record_at input text r)) _ h.good).1

    pub items_more : {e : LowerCtx} {v u : List ℕ} → LowersAt parent d e w b v u (λ p s. lower_item level (record_at input text r) p s)
        → ItemsTo level parent c e words bytes v u input text first nesting later
    unfolding lower_items
    items_more m =
        record {
          chain = records_later h.chain;
          good = rest_good;
          done = λ p s. lower_item level (record_at input text r) p (h.done p s);
          lowers = record { lowers = λ k p s x. m.lowers k p (h.done p s) (h.lowers.lowers k p s x) };
          whole = h.whole;
        }

-- an item by its kind
module _ {parent : PathAt} {c d : LowerCtx} {words bytes w b : List ℕ} (level : ℕ) (input text : List ℕ) (r : ℕ) where
  pub is_node_lem : kind_at input r ≡ node_kind
      → LowersAt parent c d words bytes w b (λ p s. lower_node p (chain_at input text (child_at input r)) (span_at input r)
      (λ (q : List ℕ) (u : State). lower_items level (chain_at input text (second_at input r)) q u) s)
      → LowersAt parent c d words bytes w b (λ p s. lower_item level (record_at input text r) p s)
  unfolding lower_item record_at
  is_node_lem e h = record { lowers = λ k p s m. rw e (h.lowers k p s m) }

  pub is_property_lem : kind_at input r ≡ property_kind
      → LowersAt parent c d words bytes w b (λ p s. lower_property level p (chain_at input text (child_at input r))
      (chain_at input text (second_at input r)) (span_at input r) s)
      → LowersAt parent c d words bytes w b (λ p s. lower_item level (record_at input text r) p s)
  unfolding lower_item record_at
  is_property_lem e h = record { lowers = λ k p s m. rw e (h.lowers k p s m) }

  pub is_directive_lem : kind_at input r ≡ directive_kind
      → LowersAt parent c d words bytes w b (λ p s. lower_directive (number_at input r) p (chain_at input text (child_at input r))
      (span_at input r) s)
      → LowersAt parent c d words bytes w b (λ p s. lower_item level (record_at input text r) p s)
  unfolding lower_item record_at
  is_directive_lem e h = record { lowers = λ k p s m. rw e (h.lowers k p s m) }

  pub is_preprocessor : kind_at input r ≡ preprocessor_kind → Lowers c d words bytes w b (emit (report 1 [] (span_at input r) ∷ []))
      → LowersAt parent c d words bytes w b (λ p s. lower_item level (record_at input text r) p s)
  unfolding lower_item record_at
  is_preprocessor e h =
      record { lowers = λ k p s m. rw e (h.lowers (with_place (record { at = parent; path = p }) k) s m) }

pub is_other : {parent : PathAt} {c : LowerCtx} {words bytes : List ℕ} (level : ℕ) (input text : List ℕ) (r : ℕ)
    → (kind_at input r ≡ node_kind → ⊥)
    → (kind_at input r ≡ property_kind → ⊥)
    → (kind_at input r ≡ directive_kind → ⊥) → (kind_at input r ≡ preprocessor_kind → ⊥)
    → LowersAt parent c c words bytes words bytes (λ p s. lower_item level (record_at input text r) p s)
unfolding lower_item record_at
is_other level input text r n o q y =
    record {
      lowers = λ k p s m.
          simp (
            ne_eqb (kind_at input r) node_kind n,
            ne_eqb (kind_at input r) property_kind o,
            ne_eqb (kind_at input r) directive_kind q,
            ne_eqb
                (kind_at input r) preprocessor_kind y,
          ) m;
    }

-- the names of a record's parts and of its body
pub parts_good : (input text : List ℕ) (r : ℕ) → good_names (record_at input text r) ≡ true
    → good_names_in (chain_at input text (child_at input r)) ≡ true
unfolding record_at
parts_good input text r g = good_parts _ _ _ _ _ _ g

pub body_good : (input text : List ℕ) (r : ℕ) → good_names (record_at input text r) ≡ true
    → good_names_in (chain_at input text (second_at input r)) ≡ true
unfolding record_at
body_good input text r g = good_second _ _ _ _ _ _ g
