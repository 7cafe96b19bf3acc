-- The new subnode grows the state under its path, and with its deletion leaves a gap in the log and nothing else.
use Prim.Native.Nat.{ℕ}
use mathlib.Core.Path.{◌≡◌, refl, sym}
use mathlib.Core.Bool.{true, false, not}
use mathlib.Core.List.{List, [], ◌∷◌, ◌++◌, append_assoc, append-nil}
use mathlib.Core.Option.{Option, some, none}
use borrow.Author.Tests.{eq-eqb, not-true}
use lib.Dec.{eqb}
use Rattle.paths_numbers.specs.meaning.Text.{is_empty}
use Rattle.paths_numbers.specs.meaning.Path.{join, at_or_under}
use Rattle.paths_numbers.proofs.Texts.{by_test, not_both, both, cond_in}
use Rattle.paths_numbers.proofs.Under.{under_refl}
use Rattle.definition_log.specs.meaning.Contents.{Span, Def, deleted_node, Binding}
use Rattle.paths_numbers.specs.meaning.Lists.{any}
use Rattle.queries.specs.meaning.Live.{live}
use Rattle.queries.proofs.Gap.{is_directive, Gap}
use Rattle.input.specs.meaning.Tree.{Tree, Trees, tree, empty, more, kind_of, w_of, span_of, children_of, first_of, has, node_kind}
use Rattle.input.specs.meaning.Tree.{property_kind, directive_kind, preprocessor_kind, name_kind, reference_kind}
use Rattle.input.specs.meaning.Name.{full_name}
use Rattle.input.specs.meaning.Property.{lower_values}
use Rattle.making.specs.meaning.State.{State, define, emit}
use Rattle.items.specs.meaning.Unbind.{unbind}
use Rattle.items.specs.meaning.Lower.{at, place_of, opened, lower_node, named_property}
use Rattle.items.specs.meaning.Lower.{lower_property, bare, delete_node, delete_named, lower_delete_node, delete_property_named}
use Rattle.items.specs.meaning.Lower.{lower_directive, lower_as, lower_item, lower_items}
use Rattle.two_runs.specs.meaning.TwoRuns.{plain_name, quiet_directive, quiet, quiet_in, Names, Pair}
use Rattle.input.specs.meaning.GoodName.{good_names, good_names_in}
use Rattle.two_runs.proofs.Grown.{Grown, grown_none, grown_emit, grown_define, grown_opened, grown_delete, all_unbound}
use Rattle.two_runs.proofs.Sim.{Sim, gap}
use Rattle.input.proofs.GoodNames.{first_none, full_good, full_under, first_under, join_filled, good_parts, good_second}
use Rattle.two_runs.proofs.PlainName.{plain_named, plain_unreferenced}

-- a node with a plain name goes to its path under a parent that is a node's
module _ (parent : List ℕ) (parts : Trees) (span : Span) (s : State) (in_body : is_empty parent ≡ false) (good : good_names_in parts ≡ true)
    (plain : plain_name parts ≡ true) where
  placed : (name : List ℕ) → (full_name parts).result ≡ some name
      → place_of parent parts span s ≡ record { place = at (join parent name); reports = (full_name parts).reports }
  unfolding place_of
  placed name e = rw (plain_unreferenced parts plain, e, full_good parts name good e, in_body) refl

  -- and there its definition is made and its body lowered
  pub node_is : (body : List ℕ → State → State) (name : List ℕ) → (full_name parts).result ≡ some name
      → lower_node parent parts span body s ≡ body (join parent name)
      (opened (join parent name) parts span (emit (full_name parts).reports s))
  unfolding lower_node
  node_is body name e = rw (placed name e) refl

-- what grows a state under the new path, in a body there
abbrev Grows : List ℕ → State → (List ℕ → State → State) → Type 0
Grows new s body = (p : List ℕ) → is_empty p ≡ false → at_or_under p new ≡ true → (t : State) → Grown new s t → Grown new s (body p t)

module _ (new : List ℕ) (s : State) (free : any (λ (b : Binding). at_or_under b.path new) s.binds ≡ false)
    (parent : List ℕ) (in_body : is_empty parent ≡ false) (under : at_or_under parent new ≡ true) (t : State) (g : Grown new s t) where
  grow_node : (body : List ℕ → State → State) → Grows new s body → (parts : Trees) (span : Span) → good_names_in parts ≡ true
      → plain_name parts ≡ true
      → Grown new s (lower_node parent parts span body t)
  grow_node body h parts span good plain =
      let n = plain_named parts plain in
      let u = full_under new parent parts n.0 good n.1 under in
      rw (node_is parent parts span t in_body good plain body n.0 n.1)
      (h (join parent n.0) (join_filled parent n.0) u _ (grown_opened (grown_emit g (full_name parts).reports) (join parent n.0) u
      parts span))

  grow_property : (level : ℕ) (parts values : Trees) (span : Span) → good_names_in parts ≡ true
      → Grown new s (lower_property level parent parts values span t)
  unfolding lower_property
  grow_property level parts values span good = rw in_body (go (full_name parts).result refl)
    where
      go : (o : Option (List ℕ)) → (full_name parts).result ≡ o → Grown new s
          (named_property level parent parts values span o (emit ((lower_values level values).reports ++ (full_name parts).reports) t))
      go (some name) e = grown_define (grown_emit g _) _ (full_under new parent parts name good e under) refl refl
      go none e = grown_emit g _

  grow_delete : (parts : Trees) (span : Span) → good_names_in parts ≡ true → first_of reference_kind parts ≡ none
      → Grown new s (lower_delete_node parent parts span t)
  unfolding lower_delete_node
  grow_delete parts span good unreferenced = go (full_name parts).result refl
    where
      go : (o : Option (List ℕ)) → (full_name parts).result ≡ o → Grown new s
          (delete_named parent parts span o (emit (full_name parts).reports t))
      go (some name) e = grown_delete (grown_emit g _) free (join parent name) (full_under new parent parts name good e under) span
      go none e = rw unreferenced (grown_emit g _)

  grow_delete_property : (parts : Trees) (span : Span) → good_names_in parts ≡ true
      → Grown new s (delete_property_named parent span (first_of name_kind parts) t)
  grow_delete_property parts span good = go (first_of name_kind parts) refl
    where
      go : (o : Option Tree) → first_of name_kind parts ≡ o → Grown new s (delete_property_named parent span o t)
      go (some n) e = grown_define g _ (first_under new parent parts n good e under) refl refl
      go none e = g

  grow_directive : (w : ℕ) (parts : Trees) (span : Span) → good_names_in parts ≡ true → quiet_directive w parts ≡ true
      → Grown new s (lower_directive w parent parts span t)
  unfolding lower_directive quiet_directive
  grow_directive w parts span good q =
      by_test (eqb w 1) (λ e. absurd (not_both {t = false} (rw e at q) refl))
      (λ e.
      by_test (eqb w 2) (λ f. absurd (not_both {t = false} (rw (e, f) at q) refl))
      (λ f.
      rw (e, f)
      (cond_in (λ (x : State). Grown new s x) (eqb w 3) (grown_emit g _)
      (by_test (eqb w 4)
      (λ k. rw k (grow_delete parts span good (first_none reference_kind parts (not-true (has reference_kind parts) (rw (e, f, k) at q)))))
      (λ k. rw k (cond_in (λ (x : State). Grown new s x) (eqb w 5) (grow_delete_property parts span good) g))))))

-- an item of the subnode's body, and a chain of them
module _ (new : List ℕ) (s : State) (free : any (λ (b : Binding). at_or_under b.path new) s.binds ≡ false) where
  grow_as : (level k w : ℕ) (span : Span) (text : List ℕ) (parts second : Trees) (body : List ℕ → State → State)
      → good_names (tree k text w span parts second) ≡ true → quiet (tree k text w span parts second) ≡ true
      → (eqb k node_kind ≡ true → quiet_in second ≡ true → Grows new s body)
      → (parent : List ℕ) → is_empty parent ≡ false → at_or_under parent new ≡ true → (t : State) → Grown new s t
      → Grown new s (lower_as level k w span parts second body parent t)
  unfolding quiet
  grow_as level k w span text parts second body good q h parent in_body under t g =
      let gp = good_parts k text w span parts second good in
      by_test (eqb k node_kind)
      (λ e.
      let b = both (plain_name parts) (quiet_in second) (rw e at q) in
      rw e (grow_node new s free parent in_body under t g body (h e b.1) parts span gp b.0))
      (λ e.
      rw e
      (cond_in (λ (x : State). Grown new s x) (eqb k property_kind)
      (grow_property new s free parent in_body under t g level parts second span gp)
      (by_test (eqb k directive_kind)
      (λ f. rw f (grow_directive new s free parent in_body under t g w parts span gp (rw (e, f) at q)))
      (λ f. rw f (cond_in (λ (x : State). Grown new s x) (eqb k preprocessor_kind) (grown_emit g _) g)))))

mutual
  unfolding lower_item lower_items good_names_in quiet_in

  grow : (level : ℕ) (i : Tree) (new : List ℕ) (s : State) → any (λ (b : Binding). at_or_under b.path new) s.binds ≡ false
      → good_names i ≡ true
      → quiet i ≡ true
      → (parent : List ℕ) → is_empty parent ≡ false → at_or_under parent new ≡ true → (t : State) → Grown new s t
      → Grown new s (lower_item level i parent t)
  grow level (tree k text w span parts second) new s free good q parent in_body under t g =
      grow_as new s free level k w span text parts second (λ p u. lower_items level second p u) good q
      (λ e qs p f u x y. grows level second new s free (good_second k text w span parts second good) qs p f u x y)
      parent in_body under t g

  grows : (level : ℕ) (is : Trees) (new : List ℕ) (s : State) → any (λ (b : Binding). at_or_under b.path new) s.binds ≡ false
      → good_names_in is ≡ true → quiet_in is ≡ true
      → (parent : List ℕ) → is_empty parent ≡ false → at_or_under parent new ≡ true → (t : State) → Grown new s t
      → Grown new s (lower_items level is parent t)
  grows level empty new s free good q parent in_body under t g = g
  grows level (more i is) new s free good q parent in_body under t g =
      let a = both (good_names i) (good_names_in is) good in
      let b = both (quiet i) (quiet_in is) q in
      grows level is new s free a.1 b.1 parent in_body under _ (grow level i new s free a.0 b.0 parent in_body under t g)

-- the deletion of the new path, by name
deletion_is : (level : ℕ) (d : Tree) (new parent : List ℕ) → kind_of d ≡ directive_kind → w_of d ≡ 4 → Names parent d new → (t : State)
    → lower_item level d parent t ≡ delete_node new (span_of d) (emit (full_name (children_of d)).reports t)
unfolding lower_item lower_directive lower_delete_node
deletion_is level (tree k text w span parts second) new parent e f m t = rw (e, f, m.named, m.path) refl

-- the subnode grows the state
subnode_grows : (level : ℕ) (n : Tree) (new parent : List ℕ) (s : State) → kind_of n ≡ node_kind → Names parent n new → is_empty parent ≡ false
    → good_names n ≡ true → quiet n ≡ true → any (λ (b : Binding). at_or_under b.path new) s.binds ≡ false
    → Grown new s (lower_item level n parent s)
unfolding lower_item quiet
subnode_grows level (tree k text w span parts second) new parent s e m in_body good q free =
    let b = both (plain_name parts) (quiet_in second) (rw (eq-eqb k node_kind e) at q) in
    let gp = good_parts k text w span parts second good in
    let filled : is_empty new ≡ false = rw m.path at (join_filled parent m.name) in
    rw (
      eq-eqb k node_kind e,
      node_is parent parts span s in_body gp b.0 (λ p u. lower_items level second p u) m.name m.named,
      m.path,
    )
    (grows level second new s free (good_second k text w span parts second good) b.1 new filled (under_refl new) _
    (grown_opened (grown_emit (grown_none new s) (full_name parts).reports) new (under_refl new) parts span))

-- the two together leave a gap
pair_gap : {new : List ℕ} {s t : State} → Grown new s t → live new s.defs ≡ []
    → any (λ (x : Def). not (is_directive x.value)) s.defs ≡ true
    → (span : Span) → Gap new s.defs (t.defs ++ bare new deleted_node span ∷ [])
pair_gap {new} {s} {t} g dead defined span =
    record {
      before = s.defs;
      made = g.made;
      last = bare new deleted_node span;
      after = [];
      first = sym (append-nil s.defs);
      second = rw (g.defs, append-nil) (append_assoc s.defs g.made (bare new deleted_node span ∷ []));
      dead = dead;
      within = g.within;
      deletion = record { value = refl; path = refl };
      defined = defined;
    }

pub pair_sim : {level : ℕ} {new parent : List ℕ} {s : State} {n d : Tree} → Pair level new parent s n d → good_names n ≡ true
    → any (λ (x : Def). not (is_directive x.value)) s.defs ≡ true
    → Sim new true s (lower_item level d parent (lower_item level n parent s))
unfolding delete_node define unbind emit
pair_sim {level} {new} {parent} {s} {n} {d} p good defined =
    let g = subnode_grows level n new parent s p.subnode p.new_path p.in_body good p.quiet_node p.nothing_bound in
    let e = deletion_is level d new parent p.deletion p.deletes_node p.same_path (lower_item level n parent s) in
    record {
      logs = rw e (gap (pair_gap g p.nothing_live defined (span_of d)));
      exts = rw e (sym g.exts);
      binds = rw e (sym (all_unbound (grown_emit g (full_name (children_of d)).reports) p.nothing_bound));
      diags = sym p.silent;
    }
