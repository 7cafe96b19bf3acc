-- Without expression cells nothing that lowering makes depends on the level, and so two runs at level 1 and 2 leave the same.
use Prim.Native.Nat.{ℕ}
use mathlib.Core.Path.{◌≡◌, refl, sym, ap, ◌∙◌}
use mathlib.Core.Bool.{Bool, true, false}
use mathlib.Core.List.{List, []}
use mathlib.Core.Option.{Option, some, none}
use lib.Dec.{eqb}
use Rattle.paths_numbers.specs.meaning.Path.{root}
use Rattle.paths_numbers.specs.meaning.Reading.{Reading}
use Rattle.paths_numbers.specs.meaning.Reading as R
use Rattle.paths_numbers.specs.meaning.Cell.{size_of}
use Rattle.paths_numbers.specs.declared.dt_property.BitsSize.{BitsSize}
use Rattle.paths_numbers.proofs.Texts.{by_test, both, not_both}
use Rattle.levels.specs.meaning.Rules.{signed_level, unsigned_level, is_level}
use Rattle.definition_log.specs.meaning.Contents.{Span}
use Rattle.definition_log.specs.meaning.Alike.{Words32}
use Rattle.definition_log.specs.meaning.Answer.{Answered}
use Rattle.definition_log.proofs.WrittenPinned.{written_pinned}
use Rattle.input.specs.meaning.Tree.{Tree, Trees, tree, empty, more, expression_kind}
use Rattle.input.specs.meaning.Name.{full_name}
use Rattle.input.specs.meaning.Property.{lower_cell, lower_cells, sized_list, lower_value, lower_values}
use Rattle.input.specs.meaning.Input.{description}
use Rattle.input.specs.meaning.Rows.{Verdict, accepted, refused, verdict}
use Rattle.making.specs.meaning.State.{State, start, apart, dropped}
use Rattle.items.specs.meaning.Lower.{Place, at, aside, discarded, nowhere, place_of, settled, lower_placed, lower_node, named_property}
use Rattle.items.specs.meaning.Lower.{lower_property, lower_as, lower_item, lower_items, lowered}
use Rattle.lowering.specs.meaning.Lowered.{fits_in, meaning, Lowered, no_level, turned_down, no_files, short, done}
use Rattle.two_runs.specs.meaning.WholeRuns.{Run}
use Rattle.two_levels.specs.meaning.TwoLevels.{no_expression, no_expressions, LoweringRun, SameLent, AlikeLeft, same_left, same_log}
use Rattle.two_levels.specs.meaning.TwoLevels.{TwoLevels}

-- what a tree without expression cells is made of
parts_of : (k : ℕ) (text : List ℕ) (w : ℕ) (span : Span) (children second : Trees)
    → no_expression (tree k text w span children second) ≡ true
    → (eqb k expression_kind ≡ false) × (no_expressions children ≡ true) × (no_expressions second ≡ true)
unfolding no_expression
parts_of k text w span children second h =
    by_test (eqb k expression_kind)
    (λ t. absurd (not_both {t = false} (rw t at h) refl))
    (λ t. let b = both (no_expressions children) (no_expressions second) (rw t at h) in (t, b.0, b.1))

-- at any two levels
module _ (l m : ℕ) where
  cell_same : (size : BitsSize) (t : Tree) → no_expression t ≡ true → lower_cell l size t ≡ lower_cell m size t
  unfolding lower_cell
  cell_same size (tree k text w span children second) h = rw (parts_of k text w span children second h).0 refl

  cells_same : (size : BitsSize) (ts : Trees) → no_expressions ts ≡ true → lower_cells l size ts ≡ lower_cells m size ts
  unfolding lower_cells no_expressions
  cells_same size empty h = refl
  cells_same size (more t ts) h =
      let b = both (no_expression t) (no_expressions ts) h in
      rw (cell_same size t b.0, cells_same size ts b.1) refl

  sized_same : (span : Span) (cells : Trees) → no_expressions cells ≡ true → (r : Reading BitsSize)
      → sized_list l span cells r ≡ sized_list m span cells r
  sized_same span cells h (R.value s) = rw (cells_same s cells h) refl
  sized_same span cells h (R.fails code) = refl

  value_same : (t : Tree) → no_expression t ≡ true → lower_value l t ≡ lower_value m t
  unfolding lower_value
  value_same (tree k text w span children second) h =
      rw (sized_same span children (parts_of k text w span children second h).1 (size_of text)) refl

  values_same : (ts : Trees) → no_expressions ts ≡ true → lower_values l ts ≡ lower_values m ts
  unfolding lower_values no_expressions
  values_same empty h = refl
  values_same (more t ts) h =
      let b = both (no_expression t) (no_expressions ts) h in
      rw (value_same t b.0, values_same ts b.1) refl

  named_same : (parent : List ℕ) (parts values : Trees) (span : Span) (o : Option (List ℕ)) (s : State) → no_expressions values ≡ true
      → named_property l parent parts values span o s ≡ named_property m parent parts values span o s
  named_same parent parts values span (some name) s h = rw (values_same values h) refl
  named_same parent parts values span none s h = refl

  property_same : (parent : List ℕ) (parts values : Trees) (span : Span) (s : State) → no_expressions values ≡ true
      → lower_property l parent parts values span s ≡ lower_property m parent parts values span s
  unfolding lower_property
  property_same parent parts values span s h =
      rw (values_same values h, named_same parent parts values span (full_name parts).result _ h) refl

  -- a node, by bodies that are lowered alike
  module _ (parts : Trees) (span : Span) (f g : List ℕ → State → State) (e : (p : List ℕ) (s : State) → f p s ≡ g p s) where
    placed_same : (place : Place) (s : State) → lower_placed place parts span f s ≡ lower_placed place parts span g s
    placed_same (at p) s = e p _
    placed_same (aside t ref_span) s = ap (settled t ref_span span s) (e root (apart s))
    placed_same discarded s = ap (dropped s) (e root (apart s))
    placed_same nowhere s = refl

    node_same : (parent : List ℕ) (s : State) → lower_node parent parts span f s ≡ lower_node parent parts span g s
    unfolding lower_node
    node_same parent s = placed_same (place_of parent parts span s).place _

  as_same : (k w : ℕ) (span : Span) (parts second : Trees) → no_expressions second ≡ true → (f g : List ℕ → State → State)
      → ((p : List ℕ) (s : State) → f p s ≡ g p s) → (parent : List ℕ) (s : State)
      → lower_as l k w span parts second f parent s ≡ lower_as m k w span parts second g parent s
  as_same k w span parts second h f g e parent s =
      rw (node_same parts span f g e parent s, property_same parent parts second span s h) refl

mutual
  unfolding lower_item lower_items no_expressions

  item_same : (l m : ℕ) (t : Tree) → no_expression t ≡ true → (p : List ℕ) (s : State) → lower_item l t p s ≡ lower_item m t p s
  item_same l m (tree k text w span parts second) h p s =
      let n = (parts_of k text w span parts second h).2 in
      as_same l m k w span parts second n (λ q u. lower_items l second q u) (λ q u. lower_items m second q u)
      (λ q u. items_same l m second n q u) p s

  items_same : (l m : ℕ) (ts : Trees) → no_expressions ts ≡ true → (p : List ℕ) (s : State) → lower_items l ts p s ≡ lower_items m ts p s
  items_same l m empty h p s = refl
  items_same l m (more t ts) h p s =
      let b = both (no_expression t) (no_expressions ts) h in
      ap (lower_items l ts p) (item_same l m t b.0 p s) ∙ items_same l m ts b.1 p (lower_item m t p s)

pub levels_same : (l m : ℕ) (ts : Trees) → no_expressions ts ≡ true → lowered l ts ≡ lowered m ts
unfolding lowered
levels_same l m ts h = items_same l m ts h [] start

-- a refusal's answer, and whether there is none
abbrev refusal_of : Verdict → Answered
refusal_of (refused number returned) = record { number = number; returned = returned }
refusal_of accepted = record { number = 0; returned = 0 }

abbrev passes : Verdict → Bool
passes (refused number returned) = false
passes accepted = true

clash : (v : Verdict) {n r : ℕ} → v ≡ refused n r → v ≡ accepted → ⊥
clash v e f = not_both (ap passes f) (ap passes e)

-- what two runs of one input leave
module _ (starts words text out bytes : List ℕ) (n : no_expressions (description words text) ≡ true) where
  same_meaning : meaning signed_level words text ≡ meaning unsigned_level words text
  same_meaning = levels_same signed_level unsigned_level (description words text) n

  fits_both : fits_in (meaning signed_level words text) out bytes ≡ fits_in (meaning unsigned_level words text) out bytes
  fits_both = ap (λ (s : State). fits_in s out bytes) same_meaning

  left_alike : {x y : Answered} {o p b c : List ℕ} → Lowered signed_level starts words text out bytes x o b
      → Lowered unsigned_level starts words text out bytes y p c
      → Words32 o → Words32 p → (x ≡ y) × AlikeLeft o b p c
  unfolding is_level
  left_alike (no_level k e f g) h wo wp = absurd (not_both {t = true} refl k)
  left_alike (turned_down k v e f g) (no_level k' e' f' g') wo wp = absurd (not_both {t = true} refl k')
  left_alike (turned_down k v e f g) (turned_down k' v' e' f' g') wo wp =
      (e ∙ ap refusal_of (sym v ∙ v') ∙ sym e', same_left (f ∙ sym f') (g ∙ sym g'))
  left_alike (turned_down k v e f g) (no_files k' v' s' e' f' g') wo wp = absurd (clash (verdict words text) v v')
  left_alike (turned_down k v e f g) (short k' v' s' q' e' f' g') wo wp = absurd (clash (verdict words text) v v')
  left_alike (turned_down k v e f g) (done k' v' s' q' e' f' g' w') wo wp = absurd (clash (verdict words text) v v')
  left_alike (no_files k v s e f g) (no_level k' e' f' g') wo wp = absurd (not_both {t = true} refl k')
  left_alike (no_files k v s e f g) (turned_down k' v' e' f' g') wo wp = absurd (clash (verdict words text) v' v)
  left_alike (no_files k v s e f g) (no_files k' v' s' e' f' g') wo wp = (e ∙ sym e', same_left (f ∙ sym f') (g ∙ sym g'))
  left_alike (no_files k v s e f g) (short k' v' s' q' e' f' g') wo wp = absurd (not_both s' s)
  left_alike (no_files k v s e f g) (done k' v' s' q' e' f' g' w') wo wp = absurd (not_both s' s)
  left_alike (short k v s q e f g) (no_level k' e' f' g') wo wp = absurd (not_both {t = true} refl k')
  left_alike (short k v s q e f g) (turned_down k' v' e' f' g') wo wp = absurd (clash (verdict words text) v' v)
  left_alike (short k v s q e f g) (no_files k' v' s' e' f' g') wo wp = absurd (not_both s s')
  left_alike (short k v s q e f g) (short k' v' s' q' e' f' g') wo wp = (e ∙ sym e', same_left (f ∙ sym f') (g ∙ sym g'))
  left_alike (short k v s q e f g) (done k' v' s' q' e' f' g' w') wo wp = absurd (not_both q' (sym fits_both ∙ q))
  left_alike (done k v s q e f g w) (no_level k' e' f' g') wo wp = absurd (not_both {t = true} refl k')
  left_alike (done k v s q e f g w) (turned_down k' v' e' f' g') wo wp = absurd (clash (verdict words text) v' v)
  left_alike (done k v s q e f g w) (no_files k' v' s' e' f' g') wo wp = absurd (not_both s s')
  left_alike (done k v s q e f g w) (short k' v' s' q' e' f' g') wo wp = absurd (not_both q (fits_both ∙ q'))
  left_alike (done k v s q e f g w) (done k' v' s' q' e' f' g' w') wo wp =
      (e ∙ sym e', same_log (written_pinned (rw same_meaning at w) w' wo wp))

-- the input and the buffers of run B are those of run A
as_lent : (a b : Run) → SameLent a b → LoweringRun b → b.level ≡ unsigned_level
    → Lowered unsigned_level a.starts a.words a.text a.out_before a.bytes_before b.answer b.out b.bytes
as_lent a b s r l = rw (s.starts, s.words, s.text, s.out, s.bytes, ← l) r.lowered

pub two_levels : TwoLevels
unfolding TwoLevels
two_levels a b ra rb la lb s n =
    let h = left_alike a.starts a.words a.text a.out_before a.bytes_before n (rw la at ra.lowered) (as_lent a b s rb lb)
    ra.words32 rb.words32 in
    record { answers = h.0; left = h.1 }
