-- Definitions made under a path at which nothing is live, the last of them the deletion of the node there, change nothing that is live, and
-- no history of another path. `l` is the log before them, `z` they, `r` what comes later.
use Prim.Native.Nat.{ℕ}
use mathlib.Core.Path.{◌≡◌, refl, sym, ap, ◌∙◌}
use mathlib.Core.Bool.{Bool, true, false, not, cond}
use mathlib.Core.List.{List, [], ◌∷◌, ◌++◌, append_assoc, append-nil}
use native.Mathlib.Omega.{arith}
use Rattle.paths_numbers.specs.meaning.Text.{same}
use Rattle.paths_numbers.specs.meaning.Path.{at_or_under}
use Rattle.paths_numbers.proofs.Texts.{by_test, not_both, is_false, same_ne}
use Rattle.paths_numbers.proofs.Under.{under_trans, under_refl}
use Rattle.definition_log.specs.meaning.Contents.{DefValue, node, property, deleted_node, deleted_property, version, plugin, Def}
use Rattle.queries.specs.meaning.Kind.{is_property, is_deleted_node, is_deletion, is_of_property, is_plugin, sets_overlay}
use Rattle.paths_numbers.specs.meaning.Lists.{any}
use Rattle.queries.specs.meaning.Live.{deletes, overwrites, gone, is_live, live}
use Rattle.queries.specs.meaning.History.{defined_by, history_from, history}
use Rattle.paths_numbers.proofs.Lists.{any_head, any_front, any_back, any_middle}

-- a version or plugin directive
abbrev pub is_directive : DefValue → Bool
is_directive (node l o) = false
is_directive (property v) = false
is_directive deleted_node = false
is_directive deleted_property = false
is_directive version = true
is_directive plugin = true

-- definitions at or under a path, none of them a directive
pub data Within (new : List ℕ) : List Def → Type 0 where
  none : Within new []
  next : {d : Def} {ds : List Def} → at_or_under d.path new ≡ true → is_directive d.value ≡ false → Within new ds → Within new (d ∷ ds)

-- more of them
pub within_append : {new : List ℕ} {x y : List Def} → Within new x → Within new y → Within new (x ++ y)
within_append none w = w
within_append (next u d v) w = next u d (within_append v w)

-- what does not lie under the path is deleted by none of them
module _ (new p : List ℕ) (out : at_or_under p new ≡ false) where
  not_deleted : (d : Def) → at_or_under d.path new ≡ true → deletes p d ≡ false
  not_deleted d u =
      by_test (is_deleted_node d.value)
      (λ k. rw k (is_false (at_or_under p d.path) (λ e. not_both (under_trans p d.path new e u) out)))
      (λ k. rw k refl)

  not_overwritten : (d : Def) → at_or_under d.path new ≡ true → overwrites p d ≡ false
  not_overwritten d u =
      by_test (is_of_property d.value)
      (λ k. rw k (same_ne d.path p (λ e. not_both (rw e at u) out)))
      (λ k. rw k refl)

  pub none_delete : {z : List Def} → Within new z → any (deletes p) z ≡ false
  unfolding any
  none_delete none = refl
  none_delete (next {d} u k w) = rw (not_deleted d u) (none_delete w)

  none_overwrite : {z : List Def} → Within new z → any (overwrites p) z ≡ false
  unfolding any
  none_overwrite none = refl
  none_overwrite (next {d} u k w) = rw (not_overwritten d u) (none_overwrite w)

-- so such a definition is gone after them as before
gone_same : (new : List ℕ) (d : Def) {z : List Def} → Within new z → at_or_under d.path new ≡ false → (l r : List Def)
    → gone d (l ++ (z ++ r)) ≡ gone d (l ++ r)
unfolding gone
gone_same new d {z} w out l r =
    rw (
      any_middle (deletes d.path) l z r (none_delete new d.path out w),
      any_middle (overwrites d.path) l z r
          (none_overwrite new d.path out w),
    )
    refl

-- what is gone stays gone
gone_more : (d : Def) (l x : List Def) → gone d l ≡ true → gone d (l ++ x) ≡ true
unfolding gone
gone_more d l x g =
    by_test (any (deletes d.path) l)
    (λ e. rw (any_front (deletes d.path) l x e) refl)
    (λ e.
    by_test (is_property d.value)
    (λ k. let h = rw (e, k) at g in rw (k, any_front (overwrites d.path) l x h)
    (by_test (any (deletes d.path) (l ++ x)) (λ t. rw t refl) (λ t. rw t refl)))
    (λ k. absurd (not_both (rw (e, k) at g) refl)))

-- whether a definition of the log before is live is the same
live_one : (new base : List ℕ) (d : Def) {z : List Def} → Within new z → (l r : List Def) → is_live new d l ≡ false
    → is_live base d (l ++ (z ++ r)) ≡ is_live base d (l ++ r)
unfolding is_live
live_one new base d {z} w l r dead =
    by_test (is_deletion d.value)
    (λ k. rw k refl)
    (λ k.
    by_test (at_or_under d.path new)
    (λ u.
    let g : gone d l ≡ true = by_test (gone d l) (λ e. e) (λ e. absurd (not_both {t = true} refl (rw (k, u, e) at dead))) in
    rw (gone_more d l (z ++ r) g, gone_more d l r g) refl)
    (λ u. rw (gone_same new d w u l r) refl))

-- a list with an element is not empty
nonempty : {A : Type 0} {a : A} {l : List A} → a ∷ l ≡ [] → ⊥
nonempty e = let z : ◌≡◌ {A = ℕ} 0 1 = cc in omega arith

-- two lists that make none
append_empty : {A : Type 0} (x y : List A) → x ++ y ≡ [] → (x ≡ []) × (y ≡ [])
append_empty [] y e = (refl, e)
append_empty (a ∷ x) y e = absurd (nonempty e)

one_empty : {A : Type 0} (t : Bool) (a : A) → cond t (a ∷ []) [] ≡ [] → t ≡ false
one_empty true a e = absurd (nonempty e)
one_empty false a e = refl

-- the live list is the same, where the definitions that were made are live themselves in no case
pub live_before : (new base : List ℕ) {z : List Def} → Within new z → (l r : List Def) → live new l ≡ [] → live base (z ++ r) ≡ live base r
    → live base (l ++ (z ++ r)) ≡ live base (l ++ r)
unfolding live
live_before new base w [] r dead h = h
live_before new base {z} w (d ∷ l) r dead h =
    let e = append_empty (live new l) _ dead in
    rw (live_before new base w l r e.0 h, live_one new base d w l r (one_empty (is_live new d l) d e.1)) refl

-- a deletion of the node at a path
pub record Deletes (new : List ℕ) (e : Def) : Type 0 where
  pub value : e.value ≡ deleted_node
  pub path : e.path ≡ new

-- a deletion is not live
dead_deletion : (new base : List ℕ) (e : Def) (r : List Def) → Deletes new e → is_live base e r ≡ false
unfolding is_live
dead_deletion new base e r k = rw k.value refl

-- and none of them is: the last deletes them all
not_live : (new base : List ℕ) (d e : Def) (y r : List Def) → Deletes new e → at_or_under d.path new ≡ true
    → is_live base d (y ++ e ∷ r) ≡ false
unfolding is_live gone
not_live new base d e y r k u =
    let f : deletes d.path e ≡ true = rw (k.value, k.path) u in
    let g : any (deletes d.path) (y ++ e ∷ r) ≡ true = any_back (deletes d.path) y (e ∷ r) (any_head (deletes d.path) e r f) in
    rw g (by_test (is_deletion d.value) (λ t. rw t refl) (λ t. rw t
    (by_test (at_or_under d.path base) (λ v. rw v refl) (λ v. rw v refl))))

pub live_hidden : (new base : List ℕ) {y : List Def} → Within new y → (e : Def) → Deletes new e → (r : List Def)
    → live base (y ++ e ∷ r) ≡ live base r
unfolding live
live_hidden new base none e k r = rw (dead_deletion new base e r k) (append-nil (live base r))
live_hidden new base (next {d} {ds} u n w) e k r =
    rw (not_live new base d e ds r k u, live_hidden new base w e k r) (append-nil (live base r))

-- a history of another path passes over them
history_over : (new path : List ℕ) → at_or_under path new ≡ false → {z : List Def} → Within new z → (defined : Bool) (r : List Def)
    → history_from defined path (z ++ r) ≡ history_from defined path r
unfolding history_from
history_over new path out none defined r = refl
history_over new path out (next {d} u n w) defined r =
    let s : same d.path path ≡ false = same_ne d.path path (λ e. not_both (rw e at u) out) in
    rw (s, not_deleted new path out d u, history_over new path out w defined r)
    (by_test defined (λ t. rw t refl) (λ t. rw t refl))

history_same : (new path : List ℕ) → at_or_under path new ≡ false → {z : List Def} → Within new z → (l r : List Def) (defined : Bool)
    → history_from defined path (l ++ (z ++ r)) ≡ history_from defined path (l ++ r)
unfolding history_from
history_same new path out w [] r defined = history_over new path out w defined r
history_same new path out w (d ∷ l) r defined =
    rw (
      history_same new path out w l r (defined_by d defined),
      history_same new path out w l r false,
      history_same new path out w l r
          defined,
    )
    refl

-- none of them is a plugin directive
no_plugin : (v : DefValue) → is_directive v ≡ false → is_plugin v ≡ false
no_plugin (node l o) e = refl
no_plugin (property v) e = refl
no_plugin deleted_node e = refl
no_plugin deleted_property e = refl
no_plugin version e = refl
no_plugin plugin e = e

within_plugin : {new : List ℕ} {z : List Def} → Within new z → any (λ (d : Def). is_plugin d.value) z ≡ false
unfolding any
within_plugin none = refl
within_plugin (next {d} u n w) = rw (no_plugin d.value n) (within_plugin w)

-- two logs, of which the second has such definitions more
pub record Gap (new : List ℕ) (a b : List Def) : Type 0 where
  pub before : List Def
  pub made : List Def
  pub last : Def
  pub after : List Def
  pub first : a ≡ before ++ after
  pub second : b ≡ before ++ (made ++ last ∷ [] ++ after)
  pub dead : live new before ≡ []
  pub within : Within new made
  pub deletion : Deletes new last
  -- a definition that is no directive stands before them
  pub defined : any (λ (d : Def). not (is_directive d.value)) before ≡ true

module _ {new : List ℕ} {a b : List Def} (g : Gap new a b) where
  pub gap_within : Within new (g.made ++ g.last ∷ [])
  gap_within =
      let k = g.deletion in
      within_append g.within (next (rw k.path (under_refl new)) (rw k.value refl) none)

  -- alike in what is live under each base
  pub gap_live : (base : List ℕ) → live base a ≡ live base b
  gap_live base =
      rw (g.first, g.second)
      (sym
      (live_before new base gap_within g.before g.after g.dead
      (rw (append_assoc g.made (g.last ∷ []) g.after) (live_hidden new base g.within g.last g.deletion g.after))))

  -- in whether they are overlays
  pub gap_overlay : sets_overlay a ≡ sets_overlay b
  unfolding sets_overlay
  gap_overlay = rw (g.first, g.second) (sym (any_middle (λ (d : Def). is_plugin d.value) g.before _ g.after
      (within_plugin gap_within)))

  -- in the history of each path that is not at or under the new one
  pub gap_history : (path : List ℕ) → at_or_under path new ≡ false → history path a ≡ history path b
  unfolding history
  gap_history path out = rw (g.first, g.second) (sym (history_same new path out gap_within g.before g.after false))

  -- and so they stay
  pub gap_more : (d : Def) → Gap new (a ++ d ∷ []) (b ++ d ∷ [])
  gap_more d =
      record {
        before = g.before;
        made = g.made;
        last = g.last;
        after = g.after ++ d ∷ [];
        first = rw g.first (append_assoc g.before g.after (d ∷ []));
        second =
            rw g.second
            (append_assoc g.before (g.made ++ g.last ∷ [] ++ g.after) (d ∷ [])
            ∙ ap (λ (x : List Def). g.before ++ x) (append_assoc (g.made ++ g.last ∷ []) g.after (d ∷ [])));
        dead = g.dead;
        within = g.within;
        deletion = g.deletion;
        defined = g.defined;
      }
