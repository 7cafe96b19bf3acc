-- What a definition does in the pass, by its record's words: whether it is live, and whether and where it is entered.
use Prim.Native.Nat.{ℕ, ◌+◌, ◌≤◌, ◌<◌}
use mathlib.Core.Path.{◌≡◌, refl, sym, ◌∙◌}
use mathlib.Core.Bool.{Bool, true, false, not, cond}
use mathlib.Core.List.{List, ◌∷◌, map}
use native.Mathlib.Omega.{arith}
use borrow.Author.Tests.{eq-eqb, ne_eqb}
use lib.Dec.{eqb}
use lib.ListN.{length, get_or, set}
use Rattle.paths_numbers.specs.meaning.Path.{at_or_under}
use Rattle.paths_numbers.proofs.Texts.{by_test}
use Rattle.definition_log.specs.meaning.Contents.{Def}
use Rattle.definition_log.specs.meaning.Record.{kind_of, first_text, property_kind, deleted_node_kind, deleted_property_kind}
use Rattle.definition_log.specs.meaning.ReadBack.{def_at}
use Rattle.paths_numbers.specs.meaning.Lists.{any}
use Rattle.queries.specs.meaning.Live.{deletes, overwrites, gone, is_live}
use Rattle.queries.specs.machine.Table.{hash_from, least_heads, slot_of, can_take, slot_at, Table}
use Rattle.queries.proofs.Table.{slot_most, table_passed, table_entered}
use Rattle.queries.proofs.Records.{path_at_lem, property_kind_lem, deleted_node_kind_lem, deleted_property_kind_lem}

module _ (words bytes : List ℕ) (r : ℕ) where
  pub live_at_lem : (base : List ℕ) (later : List Def)
      → is_live base (def_at words bytes r) later
      ≡ cond (cond (eqb (kind_of words r) deleted_node_kind) true (eqb (kind_of words r) deleted_property_kind)) false
      (cond (at_or_under (first_text words bytes r) base)
      (not (cond (any (deletes (first_text words bytes r)) later) true
      (cond (eqb (kind_of words r) property_kind) (any (overwrites (first_text words bytes r)) later) false)))
      false)
  unfolding is_live gone
  live_at_lem base later =
      rw (deleted_node_kind_lem words bytes r, deleted_property_kind_lem words bytes r, property_kind_lem words bytes r, path_at_lem words bytes r) refl

  pub take_at : (base : List ℕ)
      → can_take base (def_at words bytes r)
      ≡ cond (eqb (kind_of words r) deleted_node_kind) true
      (cond (cond (eqb (kind_of words r) property_kind) true (eqb (kind_of words r) deleted_property_kind))
      (at_or_under (first_text words bytes r) base) false)
  unfolding can_take
  take_at base = rw (
    deleted_node_kind_lem words bytes r,
    deleted_property_kind_lem words bytes r,
    property_kind_lem words bytes r,
    path_at_lem words bytes
        r,
  ) refl

  pub slot_at_lem : (room : ℕ) → slot_at room (def_at words bytes r) ≡ slot_of room (eqb (kind_of words r) deleted_node_kind)
      (hash_from 0 (first_text words bytes r))
  unfolding slot_at
  slot_at_lem room = rw (deleted_node_kind_lem words bytes r, path_at_lem words bytes r) refl

-- by its kind and path, with the table of what comes later
module _ (words bytes : List ℕ) (r : ℕ) (base heads links later : List ℕ) (k : ℕ) (e : k ≡ kind_of words r) (p : List ℕ)
    (f : p ≡ first_text words bytes r)
    (m : least_heads ≤ length heads) (n : length later < length links) (t : Table (def_at words bytes) base (length heads) heads links later)
  where
    -- a definition that is entered, with this hash: what heads and links are then
    entered : (deleted : Bool) → can_take base (def_at words bytes r) ≡ true → eqb k deleted_node_kind ≡ deleted → (hash : ℕ)
        → hash ≡ hash_from 0 p
        → (heads' links' : List ℕ) → heads' ≡ set heads (slot_of (length heads) deleted hash) (length later + 1)
        → links' ≡ set links (length later) (get_or heads (slot_of (length heads) deleted hash) 0)
        → Table (def_at words bytes) base (length heads') heads' links' (r ∷ later)
    entered deleted c d hash h heads' links' x y =
        table_entered (def_at words bytes) base heads links later r (slot_of (length heads) deleted hash) c
        (rw (slot_at_lem words bytes r (length heads), ← e, ← f, d, h) refl)
        (slot_most (length heads) deleted hash m) n t heads' links' x y

    passed : can_take base (def_at words bytes r) ≡ false → Table (def_at words bytes) base (length heads) heads links (r ∷ later)
    passed c = table_passed (def_at words bytes) base (length heads) heads links later r c t

    -- a deleted node
    pub turn_deleted_node : k ≡ deleted_node_kind → (heads' links' : List ℕ)
        → heads' ≡ set heads (slot_of (length heads) true (hash_from 0 p)) (length later + 1)
        → links' ≡ set links (length later) (get_or heads (slot_of (length heads) true (hash_from 0 p)) 0)
        → (false ≡ is_live base (def_at words bytes r) (map (def_at words bytes) later))
        × Table (def_at words bytes) base (length heads') heads' links' (r ∷ later)
    turn_deleted_node z heads' links' x y =
        let q : eqb k deleted_node_kind ≡ true = eq-eqb _ _ z in (
          sym (live_at_lem words bytes r base _ ∙ rw (← e, q) refl),
          entered true (take_at words bytes r base ∙ rw (← e, q) refl) q _ refl heads'
              links' x y,
        )

    -- any other that does not lie under the base
    pub turn_outside : (k ≡ deleted_node_kind → ⊥) → at_or_under p base ≡ false
        → (false ≡ is_live base (def_at words bytes r) (map (def_at words bytes) later))
        × Table (def_at words bytes) base (length heads) heads links (r ∷ later)
    turn_outside z u =
        let q : eqb k deleted_node_kind ≡ false = ne_eqb _ _ z in (
          sym (live_at_lem words bytes r base _ ∙ rw (← e, ← f, q, u) (by_test (eqb k deleted_property_kind) (λ w. rw w refl) (λ w. rw w refl))),
          passed (take_at words bytes r base ∙ rw (← e, ← f, q, u)
              (by_test (cond (eqb k property_kind) true (eqb k deleted_property_kind)) (λ w. rw w refl) (λ w. rw w refl))),
        )

    module _ (z : k ≡ deleted_node_kind → ⊥) (u : at_or_under p base ≡ true) where
      -- a deleted property
      pub turn_deleted_property : k ≡ deleted_property_kind → (heads' links' : List ℕ)
          → heads' ≡ set heads (slot_of (length heads) false (hash_from 0 p)) (length later + 1)
          → links' ≡ set links (length later) (get_or heads (slot_of (length heads) false (hash_from 0 p)) 0)
          → (false ≡ is_live base (def_at words bytes r) (map (def_at words bytes) later))
          × Table (def_at words bytes) base (length heads') heads' links' (r ∷ later)
      turn_deleted_property d heads' links' x y =
          let q : eqb k deleted_node_kind ≡ false = ne_eqb _ _ z in
          let o : eqb k property_kind ≡ false = ne_eqb k property_kind (λ w. omega arith) in
          let v : eqb k deleted_property_kind ≡ true = eq-eqb _ _ d in (
            sym (live_at_lem words bytes r base _ ∙ rw (← e, q, v) refl),
            entered false (take_at words bytes r base ∙ rw (← e, ← f, q, o, v, u) refl) q _ refl heads' links' x y,
          )

      module _ (d : k ≡ deleted_property_kind → ⊥) (gone : Bool) (g : gone ≡ any (deletes p) (map (def_at words bytes) later)) where
        -- a node or a directive
        pub turn_other : (k ≡ property_kind → ⊥)
            → (not gone ≡ is_live base (def_at words bytes r) (map (def_at words bytes) later))
            × Table (def_at words bytes) base (length heads) heads links (r ∷ later)
        turn_other o =
            let q : eqb k deleted_node_kind ≡ false = ne_eqb _ _ z in
            let w : eqb k property_kind ≡ false = ne_eqb _ _ o in
            let v : eqb k deleted_property_kind ≡ false = ne_eqb _ _ d in (
              sym (live_at_lem words bytes r base _ ∙ rw (← e, ← f, q, w, v, u, ← g) (by_test gone (λ y. rw y refl) (λ y. rw y refl))),
              passed (take_at words bytes r base ∙ rw (← e, ← f, q, w, v) refl),
            )

        -- a property
        pub turn_property : k ≡ property_kind → (over : Bool) → over ≡ any (overwrites p) (map (def_at words bytes) later) → (hash : ℕ)
            → hash ≡ hash_from 0 p
            → (heads' links' : List ℕ) → heads' ≡ set heads (slot_of (length heads) false hash) (length later + 1)
            → links' ≡ set links (length later) (get_or heads (slot_of (length heads) false hash) 0)
            → (not (cond gone true over) ≡ is_live base (def_at words bytes r) (map (def_at words bytes) later))
            × Table (def_at words bytes) base (length heads') heads' links' (r ∷ later)
        turn_property o over h hash i heads' links' x y =
            let q : eqb k deleted_node_kind ≡ false = ne_eqb _ _ z in
            let w : eqb k property_kind ≡ true = eq-eqb _ _ o in
            let v : eqb k deleted_property_kind ≡ false = ne_eqb _ _ d in (
              sym (live_at_lem words bytes r base _ ∙ rw (← e, ← f, q, w, v, u, ← g, ← h) refl),
              entered false (take_at words bytes r base ∙ rw (← e, ← f, q, w, u) refl) q hash i heads' links' x y,
            )
