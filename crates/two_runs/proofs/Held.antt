-- Bindings that a live node of the log stands for: a node with the label at the path, and no later deletion at or above it.
use Prim.Native.Nat.{ℕ}
use mathlib.Core.Path.{◌≡◌, refl, ◌∙◌}
use mathlib.Core.Bool.{Bool, true, false, not, cond}
use mathlib.Core.List.{List, [], ◌∷◌, ◌++◌}
use Rattle.paths_numbers.specs.meaning.Text.{same}
use Rattle.paths_numbers.specs.meaning.Path.{at_or_under}
use Rattle.paths_numbers.proofs.Texts.{by_test, not_both, both, same_true}
use Rattle.definition_log.specs.meaning.Contents.{DefValue, node, property, deleted_node, deleted_property, version, plugin, Def, Binding}
use Rattle.queries.specs.meaning.Kind.{is_property, is_deletion}
use Rattle.paths_numbers.specs.meaning.Lists.{any}
use Rattle.queries.specs.meaning.Live.{deletes, gone, is_live, live}
use Rattle.paths_numbers.proofs.Lists.{any_append}
use Rattle.queries.specs.meaning.Labels.{labels_in}
use Rattle.items.specs.meaning.Unbind.{binds_label_of}

-- whether the list holds such a node
unfoldable pub held : Binding → List Def → Bool
held b [] = false
held b (d ∷ later) = cond (held b later) true (cond (binds_label_of b d) (not (any (deletes b.path) later)) false)

-- a definition with labels is a node
labelled_node : (l : List ℕ) (v : DefValue) → any (same l) (labels_in v) ≡ true → (is_deletion v ≡ false) × (is_property v ≡ false)
unfolding any
labelled_node l (node ls o) e = (refl, refl)
labelled_node l (property vs) e = absurd (not_both {t = false} e refl)
labelled_node l deleted_node e = absurd (not_both {t = false} e refl)
labelled_node l deleted_property e = absurd (not_both {t = false} e refl)
labelled_node l version e = absurd (not_both {t = false} e refl)
labelled_node l plugin e = absurd (not_both {t = false} e refl)

-- a node that a binding stands for is live as far as no later deletion is at or above it
node_live : (b : Binding) (base : List ℕ) (d : Def) (later : List Def) → binds_label_of b d ≡ true
    → is_live base d later ≡ cond (at_or_under b.path base) (not (any (deletes b.path) later)) false
unfolding is_live gone
node_live b base d later e =
    let h = both (same d.path b.path) (any (same b.label) (labels_in d.value)) e in
    let k = labelled_node b.label d.value h.1 in
    let p = same_true d.path b.path h.0 in
    rw (k.0, k.1, p) (by_test (any (deletes b.path) later) (λ t. rw t refl) (λ t. rw t refl))

-- one element, where a test holds
any_one : {A : Type 0} (f : A → Bool) (t : Bool) (a : A) → any f (cond t (a ∷ []) []) ≡ cond (f a) t false
unfolding any
any_one f true a = by_test (f a) (λ e. rw e refl) (λ e. rw e refl)
any_one f false a = by_test (f a) (λ e. rw e refl) (λ e. rw e refl)

module _ (b : Binding) (base : List ℕ) where
  -- of a binding at or under a base, the live list under the base has such a node exactly if it is held
  pub live_held : at_or_under b.path base ≡ true → (ds : List Def) → any (binds_label_of b) (live base ds) ≡ held b ds
  unfolding any live held
  live_held u [] = refl
  live_held u (d ∷ later) =
      any_append (binds_label_of b) (live base later) _
      ∙ rw (live_held u later, any_one (binds_label_of b) (is_live base d later) d)
      (by_test (binds_label_of b d) (λ e. rw (e, node_live b base d later e, u) refl) (λ e. rw e refl))

  -- of another binding it has none
  pub live_other : at_or_under b.path base ≡ false → (ds : List Def) → any (binds_label_of b) (live base ds) ≡ false
  unfolding any live
  live_other u [] = refl
  live_other u (d ∷ later) =
      any_append (binds_label_of b) (live base later) _
      ∙ rw (live_other u later, any_one (binds_label_of b) (is_live base d later) d)
      (by_test (binds_label_of b d) (λ e. rw (e, node_live b base d later e, u) refl) (λ e. rw e refl))

-- what is held stays so but for a deletion at or above it
pub held_more : (b : Binding) (ds : List Def) (d : Def) → held b ds ≡ true → deletes b.path d ≡ false → held b (ds ++ d ∷ []) ≡ true
unfolding held any
held_more b [] d h n = absurd (not_both {t = false} h refl)
held_more b (x ∷ ds) d h n =
    by_test (held b ds)
    (λ e. rw (held_more b ds d e n) refl)
    (λ e.
    let k = both (binds_label_of b x) (not (any (deletes b.path) ds)) (rw e at h) in
    let q : any (deletes b.path) (ds ++ d ∷ []) ≡ any (deletes b.path) ds = any_append (deletes b.path) ds (d ∷ [])
    ∙ rw n (by_test (any (deletes b.path) ds) (λ t. rw t refl) (λ t. rw t refl)) in
    rw (k.0, q, k.1) (by_test (held b (ds ++ d ∷ [])) (λ t. rw t refl) (λ t. rw t refl)))

-- a node made now holds its labels' bindings
pub held_new : (b : Binding) (ds : List Def) (d : Def) → binds_label_of b d ≡ true → held b (ds ++ d ∷ []) ≡ true
unfolding held any
held_new b [] d e = rw e refl
held_new b (x ∷ ds) d e = rw (held_new b ds d e) refl
