-- Whether some live definition at a path passes a test, in one pass over the log: a definition that passes sets it, a deleted node at or
-- above the path clears it.
use Prim.Native.Nat.{ℕ}
use mathlib.Core.Path.{◌≡◌, refl, sym, ap, ◌∙◌}
use mathlib.Core.Bool.{Bool, true, false, not, cond}
use mathlib.Core.List.{List, [], ◌∷◌, map}
use Rattle.paths_numbers.specs.meaning.Text.{same}
use Rattle.paths_numbers.specs.meaning.Path.{at_or_under}
use Rattle.paths_numbers.proofs.Texts.{by_test, both, not_both, same_true}
use Rattle.paths_numbers.proofs.Under.{under_refl}
use Rattle.definition_log.specs.meaning.Contents.{DefValue, node, property, deleted_node, deleted_property, version, plugin, Def}
use Rattle.queries.specs.meaning.Kind.{is_node, is_property, is_deleted_node, is_deletion}
use Rattle.paths_numbers.specs.meaning.Lists.{any}
use Rattle.queries.specs.meaning.Live.{deletes, gone, is_live, live, node_at}
use Rattle.queries.specs.meaning.Labels.{labels_in, has_label_at}
use Rattle.queries.specs.machine.Pass.{found_after}
use Rattle.paths_numbers.proofs.Lists.{any_append}

-- what is found after a list, where so much was found before it
unfoldable pub found_from : {A : Type 0} → (A → Bool) → (A → Bool) → Bool → List A → Bool
found_from sets clears found [] = found
found_from sets clears found (d ∷ l) = found_from sets clears (found_after (sets d) (clears d) found) l

-- a first test or a second
abbrev or : Bool → Bool → Bool
or a b = cond a true b

or_false : (a : Bool) → or a false ≡ a
or_false true = refl
or_false false = refl

or_twice : (a b : Bool) → or a b ≡ or (or a b) b
or_twice true b = refl
or_twice false true = refl
or_twice false false = refl

-- what was found before stays where nothing clears it: at one definition
module _ {A : Type 0} (sets clears : A → Bool) (l : List A) (ih : found_from sets clears true l ≡ or (found_from sets clears false l)
    (not (any clears l))) where
  kept : (s c found : Bool)
      → found_from sets clears (found_after s c found) l ≡ or (found_from sets clears (found_after s c false) l)
      (cond found (not (cond c true (any clears l))) false)
  kept s c false = sym (or_false (found_from sets clears (found_after s c false) l))
  kept true true true = sym (or_false (found_from sets clears true l))
  kept true false true = rw ih (or_twice (found_from sets clears false l) (not (any clears l)))
  kept false true true = sym (or_false (found_from sets clears false l))
  kept false false true = ih

-- and over a list
found_before : {A : Type 0} (sets clears : A → Bool) (l : List A) (found : Bool)
    → found_from sets clears found l ≡ or (found_from sets clears false l) (cond found (not (any clears l)) false)
unfolding found_from any
found_before sets clears [] true = refl
found_before sets clears [] false = refl
found_before sets clears (d ∷ l) found = kept sets clears l (found_before sets clears l true) (sets d) (clears d) found

-- what is found first
found_first : (s c : Bool) → found_after s c false ≡ s
found_first true c = refl
found_first false true = refl
found_first false false = refl

-- a node is neither a deletion nor a property
node_alone : (v : DefValue) → is_node v ≡ true → (is_deletion v ≡ false) × (is_property v ≡ false)
node_alone (node l o) e = (refl, refl)
node_alone (property v) e = absurd (not_both e refl)
node_alone deleted_node e = absurd (not_both e refl)
node_alone deleted_property e = absurd (not_both e refl)
node_alone version e = absurd (not_both e refl)
node_alone plugin e = absurd (not_both e refl)

-- so it is live unless it is deleted later
node_live : (base : List ℕ) (d : Def) (later : List Def) → is_node d.value ≡ true
    → is_live base d later ≡ cond (at_or_under d.path base) (not (any (deletes d.path) later)) false
unfolding is_live gone
node_live base d later n =
    let k = node_alone d.value n in
    rw (k.0, k.1) (ap (λ (t : Bool). cond (at_or_under d.path base) (not t) false) (or_false (any (deletes d.path) later)))

-- a list of one definition or none
any_single : (test : Def → Bool) (d : Def) (chosen : Bool) → any test (cond chosen (d ∷ []) []) ≡ cond chosen (test d) false
unfolding any
any_single test d true = or_false (test d)
any_single test d false = refl

one_chosen : (u g : Bool) → cond (cond u g false) true false ≡ cond u g false
one_chosen u g = or_false (cond u g false)

none_chosen : (a b : Bool) → cond a false false ≡ cond b false false
none_chosen true true = refl
none_chosen true false = refl
none_chosen false true = refl
none_chosen false false = refl

-- a test that only nodes at a path pass
pub record OfNodes (path : List ℕ) (test : Def → Bool) : Type 0 where
  pub kind : (d : Def) → test d ≡ true → is_node d.value ≡ true
  pub place : (d : Def) → test d ≡ true → d.path ≡ path

module _ {path : List ℕ} {test : Def → Bool} (nodes : OfNodes path test) (base : List ℕ) where
  -- of one definition
  live_one : (d : Def) (later : List Def)
      → any test (cond (is_live base d later) (d ∷ []) []) ≡ cond (at_or_under path base)
      (cond (test d) (not (any (deletes path) later)) false) false
  live_one d later =
      any_single test d (is_live base d later)
      ∙ by_test (test d)
      (λ t. rw (t, node_live base d later (nodes.kind d t), nodes.place d t)
      (one_chosen (at_or_under path base) (not (any (deletes path) later))))
      (λ t. rw t (none_chosen (is_live base d later) (at_or_under path base)))

  -- whether a live definition passes is found in one pass
  pub live_found : (l : List Def) → any test (live base l) ≡ cond (at_or_under path base) (found_from test (deletes path) false l) false
  unfolding any live found_from
  live_found [] = by_test (at_or_under path base) (λ u. rw u refl) (λ u. rw u refl)
  live_found (d ∷ l) =
      any_append test (live base l) _
      ∙ rw (live_found l, live_one d l, found_first (test d) (deletes path d), found_before test (deletes path) l (test d))
      (by_test (at_or_under path base) (λ u. rw u refl) (λ u. rw u refl))

-- at the base itself
pub live_found_at : {path : List ℕ} {test : Def → Bool} → OfNodes path test → (l : List Def)
    → any test (live path l) ≡ found_from test (deletes path) false l
live_found_at {path} nodes l = live_found nodes path l ∙ rw (under_refl path) refl

-- and a base above it makes no difference
pub live_base : {path : List ℕ} {test : Def → Bool} → OfNodes path test → (base : List ℕ) (l : List Def)
    → any test (live base l) ≡ cond (at_or_under path base) (any test (live path l)) false
live_base nodes base l = live_found nodes base l ∙ rw (live_found_at nodes l) refl

-- such tests are: to be a node at the path
pub nodes_at : (path : List ℕ) → OfNodes path (node_at path)
nodes_at path =
    record {
      kind = λ d t. (both (is_node d.value) _ t).0;
      place = λ d t. same_true d.path path (both (is_node d.value) _ t).1;
    }

-- and to have a label there
label_node : (label : List ℕ) (v : DefValue) → any (same label) (labels_in v) ≡ true → is_node v ≡ true
unfolding any
label_node label (node l o) e = refl
label_node label (property v) e = e
label_node label deleted_node e = e
label_node label deleted_property e = e
label_node label version e = e
label_node label plugin e = e

pub labels_at : (label path : List ℕ) → OfNodes path (has_label_at label path)
labels_at label path =
    record {
      kind = λ d t. label_node label d.value (both (same d.path path) _ t).1;
      place = λ d t. same_true d.path path (both (same d.path path) _ t).0;
    }

-- a node is no deleted node
not_deleted : (v : DefValue) → is_node v ≡ true → is_deleted_node v ≡ false
not_deleted v n = by_test (is_deleted_node v) (λ t. absurd (not_both (rw t refl) (node_alone v n).0)) (λ t. t)

-- what such a test is after a definition, by what it was before
module _ {path : List ℕ} {test : Def → Bool} (nodes : OfNodes path test) (d : Def) (found : Bool) where
  -- it was found: unless the definition deletes it
  pub after_found : found ≡ true → not (deletes path d) ≡ found_after (test d) (deletes path d) found
  after_found f =
      rw f
      (by_test (test d)
      (λ t. rw (t, not_deleted d.value (nodes.kind d t)) refl)
      (λ t. rw t (by_test (deletes path d) (λ e. rw e refl) (λ e. rw e refl))))

  -- it was not
  pub after_none : found ≡ false → test d ≡ found_after (test d) (deletes path d) found
  after_none f = rw f (sym (found_first (test d) (deletes path d)))

-- w is what the whole list gives, and the invariant says that what is left of it gives it too
module _ {A : Type 0} (def : ℕ → A) (sets clears : A → Bool) (found : Bool) {w : Bool} {xs : List ℕ}
    (inv : w ≡ found_from sets clears found (map def xs)) where
  -- one record
  pub found_step : {r : ℕ} {ys : List ℕ} → xs ≡ r ∷ ys → {after : Bool} → after ≡ found_after (sets (def r)) (clears (def r)) found
      → w ≡ found_from sets clears after (map def ys)
  unfolding found_from
  found_step g e = inv ∙ rw (g, e) refl

  -- there are no more
  pub found_end : xs ≡ [] → found ≡ w
  unfolding found_from
  found_end g = sym (inv ∙ rw g refl)
