-- The table of later definitions: that a look-up finds what is there, and how a definition is entered.
use Prim.Native.Nat.{ℕ, suc, ◌+◌, ◌-◌, ◌*◌, ◌%◌, ◌≤◌, ◌<◌}
use mathlib.Core.Path.{◌≡◌, refl, sym, ap, ◌∙◌}
use mathlib.Core.Bool.{Bool, true, false, Bool-set}
use mathlib.Core.Logic.{∥∥₁_elim, ∥∥₁_map}
use mathlib.Core.List.{List, [], ◌∷◌, map}
use native.Mathlib.Nat.{mod-lt}
use native.Mathlib.Numerals.{add-one}
use native.Mathlib.Omega.{arith}
use borrow.Author.Tests.{eq-eqb, eqb-true, eqb-false, ltb-false}
use lib.Dec.{eqb, ltb}
use lib.ListN.{length, get_or, set, drop, replicate, length-replicate, get_or-replicate, length-set, length-drop, drop_of_length-le}
use lib.Seq.{get_or-set_same, get_or-set_other, drop-cons, drop-drop}
use Rattle.std.specs.Coded.{le_prop}
use Rattle.paths_numbers.specs.meaning.Path.{at_or_under}
use Rattle.paths_numbers.proofs.Texts.{by_test, both, not_both, is_false, same_true}
use Rattle.definition_log.specs.meaning.Contents.{DefValue, node, property, deleted_node, deleted_property, version, plugin, Def}
use Rattle.queries.specs.meaning.Kind.{is_deleted_node, is_of_property}
use Rattle.paths_numbers.specs.meaning.Lists.{any}
use Rattle.queries.specs.meaning.Live.{overwrites}
use Rattle.definition_log.specs.meaning.Record.{most_records}
use Rattle.queries.specs.machine.Table.{hash_from, least_heads, few_heads, many_heads, place_of, slot_of, can_take, slot_at, in_list}
use Rattle.queries.specs.machine.Table.{first_of}
use Rattle.queries.specs.machine.Table.{Linked, ended, more, Holds, Held, Table, deleted_at, Deleted, Room}

-- the first is among them
first_most : (def : ℕ → Def) (test : Def → Bool) (l : List ℕ) → first_of def test l ≤ length l
unfolding first_of
first_most def test [] = omega arith
first_most def test (r ∷ l) =
    by_test (test (def r)) (λ t. rw t (omega arith)) (λ t. rw t (omega (arith, first_most def test l)))

-- what is looked for is all behind the head of its list
module _ (def : ℕ → Def) (wanted test : Def → Bool) (all : (d : Def) → wanted d ≡ true → test d ≡ true) (links : List ℕ) where
  settle : (l : List ℕ) (e : ℕ) → e ≡ first_of def test l → Linked def test links l
      → (e ≤ length l) × (any wanted (map def l) ≡ any wanted (map def (drop (length l - e) l)))
      × Holds def wanted links (drop (length l - e) l) e
  unfolding first_of any
  settle [] e h k =
      let z : 0 - e ≡ 0 = omega arith in
      rw z (omega arith, refl, record { test = test; all = all; head = h; linked = k })
  settle (r ∷ l) e h (more x k) =
      by_test (test (def r))
      (λ t.
      let n : e ≡ suc (length l) = rw t at h in
      let z : suc (length l) - e ≡ 0 = omega arith in
      rw z (omega arith, refl, record { test = test; all = all; head = h; linked = more x k }))
      (λ t.
      let n : e ≡ first_of def test l = rw t at h in
      let s = settle l e n k in
      let z : suc (length l) - e ≡ suc (length l - e) = omega (arith, s.0) in
      let w : wanted (def r) ≡ false = is_false (wanted (def r)) (λ u. not_both (all (def r) u) t) in
      rw (z, w) (omega (arith, s.0), s.1, s.2))

-- a search along a list: it starts at the list's head
module _ (def : ℕ → Def) (wanted : Def → Bool) (links later : List ℕ) where
  pub search_start : (e : ℕ) → Held def wanted links later e
      → (e ≤ length later) × (any wanted (map def later) ≡ any wanted (map def (drop (length later - e) later)))
      × Held def wanted links (drop (length later - e) later) e
  search_start e h =
      let s = ∥∥₁_map h (λ k. settle def wanted k.test k.all links later e k.head k.linked) in
      (∥∥₁_elim s le_prop (λ x. x.0), ∥∥₁_elim s (Bool-set _ _) (λ x. x.1), ∥∥₁_map s (λ x. x.2))

  -- the definition in hand is in the list, and its link leads to the next one
  module _ (e : ℕ) (b : 0 < e) (m : e ≤ length later) where
    here : drop (length later - e) later ≡ get_or later (length later - e) 0 ∷ drop (suc (length later - e)) later
    here = drop-cons later (length later - e) 0 (omega arith)

    behind : length (drop (suc (length later - e)) later) ≡ e - 1
    behind = length-drop (suc (length later - e)) later ∙ omega arith

    linked_on : {test : Def → Bool} {r : ℕ} {l : List ℕ} → length l ≡ e - 1 → e ≡ first_of def test (r ∷ l)
        → Linked def test links (r ∷ l)
        → (get_or links (e - 1) 0 ≡ first_of def test l) × Linked def test links l
    unfolding first_of
    linked_on {test} {r} {l} n f (more x k) =
        by_test (test (def r))
        (λ t. (rw (← n) (x t), k))
        (λ t. let g : e ≡ first_of def test l = rw t at f in absurd (omega (arith, first_most def test l)))

    goes_on : Holds def wanted links (drop (length later - e) later) e → wanted (def (get_or later (length later - e) 0)) ≡ false → (next : ℕ) → next ≡ get_or links (e - 1) 0
        → (next < e) × (any wanted (map def (drop (length later - e) later)) ≡ any wanted (map def (drop (length later - next) later)))
        × Holds def wanted links (drop (length later - next) later) next
    unfolding any
    goes_on h w next f =
        let l = drop (suc (length later - e)) later in
        let o = linked_on behind (h.head ∙ ap (first_of def h.test) here) (rw here at h.linked) in
        let s = settle def wanted h.test h.all links l next (f ∙ o.0) o.1 in
        let z : suc (length later - e) + (length l - next) ≡ length later - next = omega (arith, behind, s.0) in
        let d : drop (length l - next) l ≡ drop (length later - next) later = drop-drop (length l - next) (suc (length later - e)) later
        ∙ ap (λ (k : ℕ). drop k later) z in
        (omega (arith, behind, s.0), rw (here, w) (s.1 ∙ ap (λ (t : List ℕ). any wanted (map def t)) d), rw d at s.2)

    pub search_on : Held def wanted links (drop (length later - e) later) e → wanted (def (get_or later (length later - e) 0)) ≡ false
        → (next : ℕ) → next ≡ get_or links (e - 1) 0
        → (next < e) × (any wanted (map def (drop (length later - e) later)) ≡ any wanted (map def (drop (length later - next) later)))
        × Held def wanted links (drop (length later - next) later) next
    search_on h w next f =
        let s = ∥∥₁_map h (λ k. goes_on k w next f) in
        (∥∥₁_elim s le_prop (λ x. x.0), ∥∥₁_elim s (Bool-set _ _) (λ x. x.1), ∥∥₁_map s (λ x. x.2))

    -- or it is what is looked for
    pub search_hit : wanted (def (get_or later (length later - e) 0)) ≡ true → any wanted (map def (drop (length later - e) later)) ≡ true
    unfolding any
    search_hit w = rw (here, w) refl

  -- at the end nothing is found
  pub search_end : (e : ℕ) → e ≡ 0 → any wanted (map def (drop (length later - e) later)) ≡ false
  unfolding any
  search_end e z =
      let k : length later ≤ length later - e = omega arith in
      let d : drop (length later - e) later ≡ [] = drop_of_length-le later k in
      rw d refl

-- no definition is both a deleted node and of a property
not_both_kinds : (v : DefValue) → is_of_property v ≡ true → is_deleted_node v ≡ false
not_both_kinds (node l o) e = refl
not_both_kinds (property v) e = refl
not_both_kinds deleted_node e = absurd (not_both e refl)
not_both_kinds deleted_property e = refl
not_both_kinds version e = refl
not_both_kinds plugin e = refl

-- a slot's list holds what is looked for there: deleted nodes at any path, what is of properties where the path lies under the base
deleted_listed : (base : List ℕ) (room : ℕ) (path : List ℕ) (d : Def) → deleted_at path d ≡ true
    → in_list base room (slot_of room true (hash_from 0 path)) d ≡ true
unfolding in_list can_take slot_at
deleted_listed base room path d t =
    let h = both (is_deleted_node d.value) _ t in
    rw (h.0, same_true d.path path h.1) (eq-eqb (slot_of room true (hash_from 0 path)) _ refl)

overwrite_listed : (base : List ℕ) (room : ℕ) (path : List ℕ) → at_or_under path base ≡ true → (d : Def) → overwrites path d ≡ true
    → in_list base room (slot_of room false (hash_from 0 path)) d ≡ true
unfolding in_list can_take slot_at
overwrite_listed base room path u d t =
    let h = both (is_of_property d.value) _ t in
    rw (not_both_kinds d.value h.0, h.0, same_true d.path path h.1, u) (eq-eqb (slot_of room false (hash_from 0 path)) _ refl)

-- a place is small, and there is a head for every slot
place_within : (room h : ℕ) → (place_of room h < 32768) × (least_heads ≤ room → place_of room h * 2 + 1 < room)
unfolding place_of
place_within room h =
    let j : h % 512 < 512 = mod-lt h (omega arith) in
    let k : h % 4096 < 4096 = mod-lt h (omega arith) in
    let l : h % 32768 < 32768 = mod-lt h (omega arith) in
    by_test (ltb room few_heads)
    (λ s. rw s (omega arith, λ m. omega arith))
    (λ s.
    let f = ltb-false room few_heads s in
    by_test (ltb room many_heads)
    (λ t. rw (s, t) (omega arith, λ m. omega arith))
    (λ t. let n = ltb-false room many_heads t in rw (s, t) (l, λ m. omega arith)))

pub place_small : (room h : ℕ) → place_of room h < 32768
place_small room h = (place_within room h).0

place_most : (room h : ℕ) → least_heads ≤ room → place_of room h * 2 + 1 < room
place_most room h m = (place_within room h).1 m

pub slot_small : (room : ℕ) (deleted : Bool) (h : ℕ) → slot_of room deleted h < 65536
unfolding slot_of
slot_small room true h = omega (arith, place_small room h)
slot_small room false h = omega (arith, place_small room h)

pub slot_most : (room : ℕ) (deleted : Bool) (h : ℕ) → least_heads ≤ room → slot_of room deleted h < room
unfolding slot_of
slot_most room true h m = place_most room h m
slot_most room false h m = omega (arith, place_most room h m)

module _ (def : ℕ → Def) (base : List ℕ) (heads links later : List ℕ) (m : least_heads ≤ length heads)
    (t : Table def base (length heads) heads links later) where
  -- so a table finds every deleted node
  pub deleted_held : Deleted def heads links later
  deleted_held =
      record {
        at = λ path. ∣ record {
          test = in_list base (length heads) (slot_of (length heads) true (hash_from 0 path));
          all = deleted_listed base (length heads) path;
          head = t.headed _ (slot_most (length heads) true (hash_from 0 path) m);
          linked = t.linked _;
        } ∣₁;
      }

  -- and what is of a property under the base
  pub overwrites_held : (path : List ℕ) → at_or_under path base ≡ true → (hash : ℕ) → hash ≡ hash_from 0 path
      → Held def (overwrites path) links later (get_or heads (slot_of (length heads) false hash) 0)
  overwrites_held path u hash e =
      ∣ record {
        test = in_list base (length heads) (slot_of (length heads) false (hash_from 0 path));
        all = overwrite_listed base (length heads) path u;
        head = rw e (t.headed _ (slot_most (length heads) false (hash_from 0 path) m));
        linked = t.linked _;
      } ∣₁

-- a link that is set behind all others leaves them
linked_kept : (def : ℕ → Def) (test : Def → Bool) (links : List ℕ) (k v : ℕ) (l : List ℕ) → length l ≤ k → Linked def test links l
    → Linked def test (set links k v) l
linked_kept def test links k v [] n ended = ended
linked_kept def test links k v (r ∷ l) n (more x h) =
    more (λ t. get_or-set_other links k (length l) v 0 (λ e. omega arith) ∙ x t) (linked_kept def test links k v l (omega arith) h)

-- a definition that can take nothing away leaves the table
pub table_passed : (def : ℕ → Def) (base : List ℕ) (room : ℕ) (heads links later : List ℕ) (r : ℕ) → can_take base (def r) ≡ false
    → Table def base room heads links later → Table def base room heads links (r ∷ later)
unfolding first_of in_list
table_passed def base room heads links later r n t =
    record {
      headed = λ slot h. rw n (t.headed slot h);
      linked = λ slot. more {r = r} (λ z. absurd (not_both z (rw n refl))) (t.linked slot);
    }

-- one that can is the first of its list
module _ (def : ℕ → Def) (base heads links later : List ℕ) (r s : ℕ) (c : can_take base (def r) ≡ true)
    (e : s ≡ slot_at (length heads) (def r)) where
  listed : (slot : ℕ) → in_list base (length heads) slot (def r) ≡ eqb s slot
  unfolding in_list
  listed slot = rw (c, e) refl

  head_entered : (slot : ℕ) → s < length heads → get_or heads slot 0 ≡ first_of def (in_list base (length heads) slot) later
      → get_or (set heads s (length later + 1)) slot 0 ≡ first_of def (in_list base (length heads) slot) (r ∷ later)
  unfolding first_of
  head_entered slot h t =
      by_test (eqb s slot)
      (λ z. rw (listed slot, z, ← eqb-true s slot z, get_or-set_same heads s (length later + 1) 0 h) (add-one (length later)))
      (λ z. rw (listed slot, z, get_or-set_other heads s slot (length later + 1) 0 (λ x. eqb-false s slot z (sym x))) t)

  link_entered : (slot : ℕ) → slot ≡ s → length later < length links → get_or heads s 0 ≡ first_of def (in_list base (length heads) slot) later
      → get_or (set links (length later) (get_or heads s 0)) (length later) 0 ≡ first_of def (in_list base (length heads) slot) later
  link_entered slot q k t = get_or-set_same links (length later) (get_or heads s 0) 0 k ∙ t

  pub table_entered : s < length heads → length later < length links → Table def base (length heads) heads links later
      → (heads' links' : List ℕ) → heads' ≡ set heads s (length later + 1) → links' ≡ set links (length later) (get_or heads s 0)
      → Table def base (length heads') heads' links' (r ∷ later)
  table_entered h k t heads' links' f g =
      let n : length heads' ≡ length heads = ap length f ∙ simp length-set in
      rw n
      (rw (f, g)
      (record {
        headed = λ slot b. head_entered slot h (t.headed slot b);
        linked = λ slot.
            more
            (λ z.
            let q : s ≡ slot = eqb-true s slot (sym (listed slot) ∙ z) in
            link_entered slot (sym q) k (rw q (t.headed slot (omega arith))))
            (linked_kept def (in_list base (length heads) slot) links (length later) (get_or heads s 0) later (omega arith) (t.linked slot));
      }))

-- at first there is none
pub table_start : (def : ℕ → Def) (base heads links : List ℕ) → ((slot : ℕ) → slot < length heads → get_or heads slot 0 ≡ 0)
    → Table def base (length heads) heads links []
unfolding first_of
table_start def base heads links z = record { headed = z; linked = λ slot. ended }

-- arrays of zeros have room
pub room_zeros : (m : ℕ) (order : List ℕ) → least_heads ≤ m → m ≤ most_records → length order ≤ m
    → Room (length order) order (replicate m 0) (replicate m 0) (replicate m 0)
room_zeros m order few most fits =
    let k : length (replicate {A = ℕ} m 0) ≡ m = length-replicate m 0 in
    record {
      for_order = omega arith;
      for_heads = omega arith;
      for_links = omega arith;
      for_live = omega arith;
      most = omega arith;
      zeros = λ slot b. get_or-replicate m slot 0 0 (omega arith);
    }

-- a list keeps its length where an element is set
pub same_length : (before : List ℕ) (i v : ℕ) {after : List ℕ} → after ≡ set before i v → length after ≡ length before
same_length before i v e = ap length e ∙ simp length-set
