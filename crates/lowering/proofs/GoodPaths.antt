-- Where nodes and deletions go in a good state: a name joined to a good parent, a binding's path, a live node's path are good and not
-- empty.
use Prim.Native.Nat.{ℕ}
use mathlib.Core.Path.{◌≡◌, refl}
use mathlib.Core.Bool.{Bool, true, false}
use mathlib.Core.List.{List, [], ◌∷◌}
use mathlib.Core.Option.{Option, some, none}
use Rattle.paths_numbers.specs.meaning.Text.{same, is_empty}
use Rattle.paths_numbers.specs.meaning.Path.{root, join, good_path}
use Rattle.paths_numbers.specs.meaning.Reference.{Target, label, label_path, path, unreadable}
use Rattle.paths_numbers.proofs.Texts.{by_test, not_both, both, same_true}
use Rattle.paths_numbers.proofs.Good.{good_join}
use Rattle.definition_log.specs.meaning.Contents.{DefValue, node, property, deleted_node, deleted_property, version, plugin, Def, Binding}
use Rattle.definition_log.specs.meaning.Sound.{nonempty_path}
use Rattle.making.specs.meaning.State.{State}
use Rattle.definition_log.specs.machine.Good.{all, path_fits, good_def, good_binding}
use Rattle.queries.specs.meaning.Kind.{is_node}
use Rattle.queries.specs.meaning.Live.{live, node_at, contains_node}
use Rattle.queries.specs.meaning.Lookup.{LookedUp, found, no_node, several, lookup}
use Rattle.queries.proofs.LookedUp.{found_live}
use Rattle.resolving.specs.meaning.Resolve.{first_binding, Resolution, reaches, missing, by_lookup, live_at, by_label, below_label, resolve}
use Rattle.input.proofs.GoodNames.{never, Plain, join_filled}
use Rattle.lowering.proofs.GoodLists.{all_found}
use Rattle.lowering.proofs.GoodState.{GoodState, def_parts, binding_parts, live_good}

-- a path that is not empty
nonempty : (p : List ℕ) → is_empty p ≡ false → good_path p ≡ true → nonempty_path p ≡ true
nonempty p e g = rw e g

pub nonempty_good : (p : List ℕ) → nonempty_path p ≡ true → good_path p ≡ true
nonempty_good p e = by_test (is_empty p) (λ q. absurd (not_both {t = false} (rw q at e) refl)) (λ q. rw q at e)

pub root_good : good_path root ≡ true
unfolding good_path is_empty same
root_good = refl

-- a name's path
pub name_path : (parent name : List ℕ) → good_path parent ≡ true → Plain name → nonempty_path (join parent name) ≡ true
name_path parent name g n =
    nonempty (join parent name) (join_filled parent name) (good_join parent name g n.filled n.slashless)

pub root_path : (parent : List ℕ) → nonempty_path (join parent root) ≡ true
unfolding join same
root_path parent = nonempty root (join_filled [] root) root_good

-- a live node's path
node_path : (p : List ℕ) (d : Def) → good_def d ≡ true → node_at p d ≡ true → nonempty_path p ≡ true
node_path p d g e =
    let h = both (is_node d.value) (same d.path p) e in
    rw (same_true d.path p h.1) at (of d.value h.0 (def_parts d g).1)
  where
    of : (v : DefValue) → is_node v ≡ true → path_fits v d.path ≡ true → nonempty_path d.path ≡ true
    of (node ls o) t f = f
    of (property vs) t f = absurd (not_both {t = false} t refl)
    of deleted_node t f = absurd (not_both {t = false} t refl)
    of deleted_property t f = absurd (not_both {t = false} t refl)
    of version t f = absurd (not_both {t = false} t refl)
    of plugin t f = absurd (not_both {t = false} t refl)

contained_path : (p : List ℕ) (ds : List Def) → all good_def ds ≡ true → contains_node p ds ≡ true → nonempty_path p ≡ true
unfolding contains_node
contained_path p ds g e =
    let h = all_found good_def (node_at p) (live p ds) (live_good p ds g) e in
    node_path p h.0 h.1 h.2

-- a binding's path
binding_path : (l : List ℕ) (bs : List Binding) (p : List ℕ) → all good_binding bs ≡ true → first_binding l bs ≡ some p
    → nonempty_path p ≡ true
unfolding first_binding all
binding_path l [] p g e = never e
binding_path l (b ∷ bs) p g e =
    let h = both (good_binding b) (all good_binding bs) g in
    by_test (same b.label l)
    (λ q. let y : b.path ≡ p = cc (rw q at e) in rw (← y) (binding_parts b h.0).1)
    (λ q. binding_path l bs p h.1 (rw q at e))

-- where a reference leads
abbrev pub good_resolution : Resolution → Bool
good_resolution (reaches p) = nonempty_path p
good_resolution (missing code text) = true

module _ {s : State} (g : GoodState s) where
  live_resolution : (p : List ℕ) → good_resolution (live_at p s.defs) ≡ true
  live_resolution p = go (lookup p s.defs) refl
    where
      go : (o : LookedUp) → lookup p s.defs ≡ o → good_resolution (by_lookup p o) ≡ true
      go (found q) e = contained_path q s.defs g.defs (found_live p s.defs q e)
      go no_node e = refl
      go several e = refl

  label_resolution : (l : List ℕ) (o : Option (List ℕ)) → first_binding l s.binds ≡ o → good_resolution (by_label l o) ≡ true
  label_resolution l (some p) e = binding_path l s.binds p g.binds e
  label_resolution l none e = refl

  below_resolution : (l p : List ℕ) (o : Option (List ℕ)) → good_resolution (below_label l p o s.defs) ≡ true
  below_resolution l p (some base) = live_resolution (join base p)
  below_resolution l p none = refl

  pub resolution_good : (t : Target) → good_resolution (resolve t s.binds s.defs) ≡ true
  unfolding resolve
  resolution_good (label l) = label_resolution l (first_binding l s.binds) refl
  resolution_good (label_path l p) = below_resolution l p (first_binding l s.binds)
  resolution_good (path p) = live_resolution p
  resolution_good unreadable = refl
