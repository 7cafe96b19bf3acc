-- What the new subnode adds to the state: definitions at or under its path, and bindings that its live nodes stand for, which its deletion
-- takes away.
use Prim.Native.Nat.{ℕ}
use mathlib.Core.Path.{◌≡◌, refl, sym, ◌∙◌}
use mathlib.Core.Bool.{Bool, true, false, cond}
use mathlib.Core.List.{List, [], ◌∷◌, ◌++◌, append_assoc, append-nil}
use mathlib.Core.Option.{Option, some, none}
use lib.Dec.{eqb}
use Rattle.paths_numbers.specs.meaning.Text.{same}
use Rattle.paths_numbers.specs.meaning.Path.{at_or_under}
use Rattle.paths_numbers.proofs.Texts.{by_test, not_both, is_false, same_refl}
use Rattle.paths_numbers.proofs.Under.{under_trans, under_refl}
use Rattle.definition_log.specs.meaning.Contents.{Span, node, deleted_node, Def, Binding, Diag}
use Rattle.queries.specs.meaning.Kind.{is_deleted_node}
use Rattle.paths_numbers.specs.meaning.Lists.{any}
use Rattle.queries.specs.meaning.Live.{deletes, live}
use Rattle.queries.proofs.Gap.{is_directive, Within, none as no_defs, next as one_def, within_append}
use Rattle.input.specs.meaning.Tree.{Tree, Trees, empty, more, kind_of, children_of, label_kind}
use Rattle.input.specs.meaning.Report.{Got, Made, and_then}
use Rattle.input.specs.meaning.Name.{name_or_macro, labelled, labels_of}
use Rattle.making.specs.meaning.State.{State, define, bind, emit}
use Rattle.items.specs.meaning.Unbind.{binds_label_of, without, unbind}
use Rattle.items.specs.meaning.Lower.{label_texts, node_def, opened, bare, delete_node}
use Rattle.two_runs.proofs.Held.{held, live_held, live_other, held_more, held_new}

-- bindings at or under a path, each held
pub data Held (new : List ℕ) (ds : List Def) : List Binding → Type 0 where
  no_binding : Held new ds []
  one_binding : {b : Binding} {bs : List Binding} → at_or_under b.path new ≡ true → held b ds ≡ true → Held new ds bs
      → Held new ds (b ∷ bs)

both_held : {new : List ℕ} {ds : List Def} {x y : List Binding} → Held new ds x → Held new ds y → Held new ds (x ++ y)
both_held no_binding h = h
both_held (one_binding u e k) h = one_binding u e (both_held k h)

-- a definition that deletes no node leaves them held
no_deletion : (p : List ℕ) (d : Def) → is_deleted_node d.value ≡ false → deletes p d ≡ false
no_deletion p d e = rw e refl

still_held : {new : List ℕ} {ds : List Def} {bs : List Binding} (d : Def) → is_deleted_node d.value ≡ false → Held new ds bs
    → Held new (ds ++ d ∷ []) bs
still_held d n no_binding = no_binding
still_held {ds = ds} d n (one_binding {b} u e k) = one_binding u (held_more b ds d e (no_deletion b.path d n)) (still_held d n k)

-- bindings of a node's labels to its path
data Labels (p : List ℕ) (ls : List (List ℕ)) : List Binding → Type 0 where
  no_label : Labels p ls []
  one_label : {b : Binding} {bs : List Binding} → b.path ≡ p → any (same b.label) ls ≡ true → Labels p ls bs → Labels p ls (b ∷ bs)

more_labels : {p : List ℕ} {ls : List (List ℕ)} {bs : List Binding} (l : List ℕ) → Labels p ls bs → Labels p (l ∷ ls) bs
unfolding any
more_labels l no_label = no_label
more_labels {ls = ls} l (one_label {b} e a k) = one_label {b = b} e (by_test (same b.label l) (λ t. rw t refl) (λ t. rw t a))
    (more_labels l k)

-- bindings that are all to one path
data AllAt (p : List ℕ) : List Binding → Type 0 where
  none_at : AllAt p []
  one_at : {b : Binding} {bs : List Binding} → b.path ≡ p → AllAt p bs → AllAt p (b ∷ bs)

own_labels : {p : List ℕ} {bs : List Binding} → AllAt p bs → Labels p (label_texts bs) bs
unfolding label_texts any
own_labels none_at = no_label
own_labels (one_at {b} {bs} e k) = one_label {b = b} e (rw (same_refl b.label) refl) (more_labels b.label (own_labels k))

all_both : {p : List ℕ} {x y : List Binding} → AllAt p x → AllAt p y → AllAt p (x ++ y)
all_both none_at k = k
all_both (one_at e h) k = one_at e (all_both h k)

all_labelled : (p : List ℕ) (t : Tree) (n : Got (List ℕ)) → AllAt p (labelled p t n).made
all_labelled p t n = go n.result
  where
    go : (o : Option (List ℕ)) → AllAt p (labelled p t (record { result = o; reports = n.reports })).made
    go (some l) = one_at refl none_at
    go none = none_at

all_cond : {p : List ℕ} (q : Bool) (x y : Made Binding) → AllAt p x.made → AllAt p y.made → AllAt p (cond q x y).made
all_cond true x y h k = h
all_cond false x y h k = k

all_labels : (p : List ℕ) (parts : Trees) → AllAt p (labels_of p parts).made
unfolding labels_of
all_labels p empty = none_at
all_labels p (more t ts) =
    all_cond (eqb (kind_of t) label_kind) (and_then (labelled p t (name_or_macro (children_of t))) (labels_of p ts)) (labels_of p ts)
    (all_both (all_labelled p t (name_or_macro (children_of t))) (all_labels p ts)) (all_labels p ts)

-- a node made now holds the bindings of its labels
made_held : {new p : List ℕ} → at_or_under p new ≡ true → (ds : List Def) (ls : List (List ℕ)) (o : Bool) (span name_span : Span)
    {bs : List Binding} → Labels p ls bs
    → Held new (ds ++ record { path = p; value = node ls o; span = span; name_span = name_span } ∷ []) bs
made_held u ds ls o span name_span no_label = no_binding
made_held {new} {p} u ds ls o span name_span (one_label {b} e a k) =
    one_binding {b = b} (rw e u) (held_new b ds _ (rw (e, same_refl p) a)) (made_held u ds ls o span name_span k)

-- the state t is s and what was made since, all of it at or under the new path
pub record Grown (new : List ℕ) (s t : State) : Type 0 where
  pub made : List Def
  pub defs : t.defs ≡ s.defs ++ made
  pub within : Within new made
  pub exts : t.exts ≡ s.exts
  pub bound : List Binding
  pub binds : t.binds ≡ s.binds ++ bound
  pub holds : Held new t.defs bound

pub grown_none : (new : List ℕ) (s : State) → Grown new s s
grown_none new s =
    record {
      made = [];
      defs = sym (append-nil s.defs);
      within = no_defs;
      exts = refl;
      bound = [];
      binds = sym (append-nil s.binds);
      holds = no_binding;
    }

module _ {new : List ℕ} {s t : State} (g : Grown new s t) where
  pub grown_emit : (ds : List Diag) → Grown new s (emit ds t)
  unfolding emit
  grown_emit ds =
      record { made = g.made; defs = g.defs; within = g.within; exts = g.exts; bound = g.bound; binds = g.binds; holds = g.holds }

  longer : (d : Def) → t.defs ++ d ∷ [] ≡ s.defs ++ (g.made ++ d ∷ [])
  longer d = rw g.defs (append_assoc s.defs g.made (d ∷ []))

  pub grown_define : (d : Def) → at_or_under d.path new ≡ true → is_directive d.value ≡ false → is_deleted_node d.value ≡ false
      → Grown new s (define d t)
  unfolding define
  grown_define d u n k =
      record {
        made = g.made ++ d ∷ [];
        defs = longer d;
        within = within_append g.within (one_def u n no_defs);
        exts = g.exts;
        bound = g.bound;
        binds = g.binds;
        holds = still_held d k g.holds;
      }

  pub grown_opened : (p : List ℕ) → at_or_under p new ≡ true → (parts : Trees) (span : Span) → Grown new s (opened p parts span t)
  unfolding opened define bind emit
  grown_opened p u parts span =
      let d = node_def p parts span in
      record {
        made = g.made ++ d ∷ [];
        defs = longer d;
        within = within_append g.within (one_def u refl no_defs);
        exts = g.exts;
        bound = g.bound ++ (labels_of p parts).made;
        binds = rw g.binds (append_assoc s.binds g.bound (labels_of p parts).made);
        holds = both_held (still_held d refl g.holds) (made_held u t.defs _ _ _ _ (own_labels (all_labels p parts)));
      }

-- bindings removed from two lists
without_append : (ds : List Def) (x y : List Binding) → without ds (x ++ y) ≡ without ds x ++ without ds y
unfolding without
without_append ds [] y = refl
without_append ds (b ∷ x) y =
    by_test (any (binds_label_of b) ds) (λ e. rw e (without_append ds x y)) (λ e. rw (e, without_append ds x y) refl)

-- a deletion at or under the new path leaves the bindings from before
without_before : (new p : List ℕ) → at_or_under p new ≡ true → (ds : List Def) (bs : List Binding)
    → any (λ (b : Binding). at_or_under b.path new) bs ≡ false → without (live p ds) bs ≡ bs
unfolding without any
without_before new p u ds [] n = refl
without_before new p u ds (b ∷ bs) n =
    by_test (at_or_under b.path new)
    (λ e. absurd (not_both {t = true} refl (rw e at n)))
    (λ e.
    let k : at_or_under b.path p ≡ false = is_false (at_or_under b.path p) (λ q. not_both (under_trans b.path p new q u) e) in
    rw (live_other b p k ds, without_before new p u ds bs (rw e at n)) refl)

-- those that it leaves of the others are still held
without_held : (new p : List ℕ) (ds : List Def) (span : Span) {bs : List Binding} → Held new ds bs
    → Held new (ds ++ bare p deleted_node span ∷ []) (without (live p ds) bs)
unfolding without
without_held new p ds span no_binding = no_binding
without_held new p ds span (one_binding {b} u e k) =
    by_test (any (binds_label_of b) (live p ds))
    (λ t. rw t (without_held new p ds span k))
    (λ t.
    let n : at_or_under b.path p ≡ false = is_false (at_or_under b.path p) (λ q. not_both (live_held b p q ds ∙ e) t) in
    rw t (one_binding u (held_more b ds (bare p deleted_node span) e n) (without_held new p ds span k)))

-- and at the new path it leaves none
without_all : (new : List ℕ) (ds : List Def) {bs : List Binding} → Held new ds bs → without (live new ds) bs ≡ []
unfolding without
without_all new ds no_binding = refl
without_all new ds (one_binding {b} u e k) = rw (live_held b new u ds ∙ e) (without_all new ds k)

module _ {new : List ℕ} {s t : State} (g : Grown new s t) (free : any (λ (b : Binding). at_or_under b.path new) s.binds ≡ false) where
  left : (p : List ℕ) → at_or_under p new ≡ true → without (live p t.defs) t.binds ≡ s.binds ++ without (live p t.defs) g.bound
  left p u = rw g.binds (without_append (live p t.defs) s.binds g.bound
      ∙ rw (without_before new p u t.defs s.binds free) refl)

  pub grown_delete : (p : List ℕ) → at_or_under p new ≡ true → (span : Span) → Grown new s (delete_node p span t)
  unfolding delete_node define unbind
  grown_delete p u span =
      record {
        made = g.made ++ bare p deleted_node span ∷ [];
        defs = longer g (bare p deleted_node span);
        within = within_append g.within (one_def u refl no_defs);
        exts = g.exts;
        bound = without (live p t.defs) g.bound;
        binds = left p u;
        holds = without_held new p t.defs span g.holds;
      }

  -- the deletion of the new path: the bindings are those from before
  pub all_unbound : without (live new t.defs) t.binds ≡ s.binds
  all_unbound = left new (under_refl new) ∙ rw (without_all new t.defs g.holds) (append-nil s.binds)
