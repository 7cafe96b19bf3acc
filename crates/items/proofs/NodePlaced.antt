-- Where a node goes by its name: under its parent, to "/", nowhere, or into a log that is dropped.
use Prim.Native.Nat.{ℕ}
use mathlib.Core.Path.{◌≡◌, refl, sym, ap, subst, ◌∙◌}
use mathlib.Core.Bool.{Bool, true, false}
use mathlib.Core.List.{List, [], ◌∷◌, ◌++◌, append-nil}
use mathlib.Core.Option.{Option, some, none}
use native.Mathlib.Omega.{arith}
use borrow.Author.Tests.{eq-eqb, ne_eqb}
use lib.ListN.{length}
use Rattle.paths_numbers.specs.meaning.Text.{same, is_empty}
use Rattle.paths_numbers.specs.meaning.Path.{root, join}
use Rattle.paths_numbers.proofs.Texts.{by_test, not_both, same_refl}
use Rattle.making.specs.declared.ctx.LowerCtx.{LowerCtx}
use Rattle.making.specs.declared.place.PathAt.{PathAt}
use Rattle.making.specs.declared.place.PathAt.TheVariants as P
use Rattle.making.specs.machine.PathPlaces.{place_len}
use Rattle.definition_log.specs.meaning.Contents.{Span, Diag}
use Rattle.making.specs.meaning.State.{State, emit}
use Rattle.making.specs.machine.Represents.{Context, with_place, Represents}
use Rattle.making.proofs.InHand.{place_length}
use Rattle.input.specs.meaning.Tree.{Tree, Trees, first_of, has, reference_kind, slash_kind}
use Rattle.input.specs.meaning.Report.{report}
use Rattle.input.specs.meaning.Name.{full_name, node_name_span}
use Rattle.input.specs.meaning.Phandle.{lower_phandle}
use Rattle.items.specs.meaning.Lower.{at, nowhere, Placed, by_target, placed_as, by_name, place_of, opened}
use Rattle.resolving.specs.machine.Lowers.{Lowers}
use Rattle.input.specs.machine.NameRead.{is_there}
use Rattle.items.specs.machine.Opened.{OpensAt}
use Rattle.items.specs.machine.PropertyMade.{is_top}
use Rattle.items.specs.machine.NodePlaced.{PlacedTo, Places, PlacesIn}
use Rattle.items.specs.declared.open_node.Opened.{Opened}
use Rattle.items.specs.declared.dt_node.NodePlace.{NodePlace}
use Rattle.items.specs.declared.dt_node.NodePlace.TheVariants as N
use Rattle.items.specs.declared.dt_node.PlacedNode.{PlacedNode}
use Rattle.items.proofs.Reported.{emit_none, emit_then}

-- the same place, with what was reported before
reported_first : (ds : List Diag) (l m : Placed) (s : State) → ds ++ l.reports ≡ m.reports
    → emit l.reports (emit ds s) ≡ emit m.reports s
reported_first ds l m s f = emit_then ds l.reports s ∙ ap (λ (x : List Diag). emit x s) f

module _ (k : Context) (w b input text : List ℕ) (parts : Trees) (span : Span) (s : State) (d : LowerCtx) (ds : List Diag) (l m : Placed)
    (e : l.place ≡ m.place) (f : ds ++ l.reports ≡ m.reports) where
  pub placed_after : (n : NodePlace) → PlacedTo k w b input text parts span (emit ds s) d l n → PlacedTo k w b input text parts span s d m n
  unfolding emit
  placed_after (N.At place) h = (
    h.0,
    sym e ∙ h.1,
    subst (λ (u : State). Represents (with_place (record { at = place; path = h.0 }) k) d w b
        (opened h.0 parts span u)) (reported_first ds l m s f) h.2,
  )
  placed_after (N.Aside r kind) h = (
    sym e ∙ h.0,
    h.1,
    subst (λ (u : State). Represents k d w b u) (reported_first ds l m s f)
        h.2,
  )
  placed_after (N.Dropped r kind) h = (
    sym e ∙ h.0,
    h.1,
    subst (λ (u : State). Represents k d w b u) (reported_first ds l m s f)
        h.2,
  )
  placed_after N.Discarded h = (sym e ∙ h.0, subst (λ (u : State). Represents k d w b u) (reported_first ds l m s f) h.1)
  placed_after N.Nowhere h = (sym e ∙ h.0, subst (λ (u : State). Represents k d w b u) (reported_first ds l m s f) h.1)

module _ {parent : PathAt} {c : LowerCtx} {words bytes w b input text : List ℕ} {parts : Trees} {span : Span} where
  -- opened at a path
  pub places_at : {path : List ℕ → List ℕ} {o : Opened} (l : List ℕ → Placed) (known : Bool) → is_top parent ≡ known
      → ((p : List ℕ) → is_empty p ≡ known → l p ≡ record { place = at (path p); reports = [] })
      → OpensAt parent c words bytes w b parts span path o → Places parent c words bytes w b input text parts span l
      (record { node = N.At o.place; ctx = o.ctx })
  places_at {path} {o} l known t e h =
      record {
        places = λ k p s q r.
            let x = e p (sym q ∙ t) in (
              path p,
              ap (λ (y : Placed). y.place) x,
              subst (λ (u : State). Represents (with_place (record { at = o.place; path = path p })
                  (with_place (record { at = parent; path = p }) k)) o.ctx w b (opened (path p) parts span u))
                  (sym (emit_none s) ∙ ap (λ (y : Placed). emit y.reports s) (sym x)) (h.opens k p s r),
            );
      }

  -- refused with a code
  pub places_nowhere : {d : LowerCtx} (l : List ℕ → Placed) (ds : List Diag) (known : Bool) → is_top parent ≡ known
      → ((p : List ℕ) → is_empty p ≡ known → l p ≡ record { place = nowhere; reports = ds })
      → Lowers c d words bytes w b (emit ds) → Places parent c words bytes w b input text parts span l
      (record { node = N.Nowhere; ctx = d })
  places_nowhere {d} l ds known t e h =
      record {
        places = λ k p s q r.
            let x = e p (sym q ∙ t) in (
              ap (λ (y : Placed). y.place) x,
              subst (λ (u : State). Represents (with_place (record { at = parent; path = p }) k) d w b u)
                  (ap (λ (y : Placed). emit y.reports s) (sym x)) (h.lowers (with_place (record { at = parent; path = p }) k) s r),
            );
      }

-- a node with a name: codes 5 and 6
module _ (n : List ℕ) (span : Span) (p : List ℕ) where
  module _ (plain : same n root ≡ false) where
    pub named_outside : is_empty p ≡ true → placed_as p n span [] ≡ record { place = nowhere; reports = report 5 [] span ∷ [] }
    named_outside e = rw (plain, e) refl

    pub named_below : is_empty p ≡ false → placed_as p n span [] ≡ record { place = at (join p n); reports = [] }
    named_below e = rw (plain, e) refl

module _ (span : Span) (p : List ℕ) where
  pub root_inside_lem : is_empty p ≡ false → placed_as p root span [] ≡ record { place = nowhere; reports = report 6 [] span ∷ [] }
  root_inside_lem e = rw (same_refl root, e) refl

  pub root_on_top : is_empty p ≡ true → placed_as p root span [] ≡ record { place = at root; reports = [] }
  unfolding join
  root_on_top e = rw (same_refl root, e) refl

-- what was reported of the name before
placed_reports : (p n : List ℕ) (span : Span) (ds : List Diag) → ((placed_as p n span []).place ≡ (placed_as p n span ds).place)
    × (ds ++ (placed_as p n span []).reports ≡ (placed_as p n span ds).reports)
placed_reports p n span ds =
    by_test (same n root)
    (λ a. by_test (is_empty p) (λ e. rw (a, e) (refl, append-nil ds)) (λ e. rw (a, e) (refl, refl)))
    (λ a. by_test (is_empty p) (λ e. rw (a, e) (refl, refl)) (λ e. rw (a, e) (refl, append-nil ds)))

module _ {parent : PathAt} {c d : LowerCtx} {words bytes w₁ b₁ input text : List ℕ} (parts : Trees) (span name_span : Span) (ds : List Diag)
    (reported : Lowers c d words bytes w₁ b₁ (emit ds)) where
  -- by a name, whose reports came first
  after_reports : {w b : List ℕ} {v : PlacedNode} (l m : List ℕ → Placed)
      → ((p : List ℕ) → ((l p).place ≡ (m p).place) × (ds ++ (l p).reports ≡ (m p).reports))
      → Places parent d w₁ b₁ w b input text parts span l v → Places parent c words bytes w b input text parts span m v
  after_reports {w} {b} {v} l m e h =
      record {
        places = λ k p s q r.
            placed_after (with_place (record { at = parent; path = p }) k) w b input text parts span s v.ctx ds (l p) (m p) (e p).0
            (e p).1 v.node
            (h.places k p (emit ds s) q (reported.lowers (with_place (record { at = parent; path = p }) k) s r));
      }

  pub name_decides : {w b : List ℕ} {v : PlacedNode} (n : List ℕ) → (full_name parts).result ≡ some n
      → Places parent d w₁ b₁ w b input text parts span (λ p. placed_as p n name_span []) v
      → Places parent c words bytes w b input text parts span (λ p. by_name p parts name_span ds (full_name parts).result) v
  name_decides n e h =
      rw e (after_reports (λ p. placed_as p n name_span []) (λ p. placed_as p n name_span ds) (λ p. placed_reports p n name_span ds) h)

  pub slash_decides : {w b : List ℕ} {v : PlacedNode} → (full_name parts).result ≡ none → has slash_kind parts ≡ true
      → Places parent d w₁ b₁ w b input text parts span (λ p. placed_as p root name_span []) v
      → Places parent c words bytes w b input text parts span (λ p. by_name p parts name_span ds (full_name parts).result) v
  slash_decides e t h =
      rw (e, t) (after_reports (λ p. placed_as p root name_span []) (λ p. placed_as p root name_span ds)
      (λ p. placed_reports p root name_span ds) h)

  pub nothing_decides : (full_name parts).result ≡ none → has slash_kind parts ≡ false
      → Places parent c words bytes w₁ b₁ input text parts span (λ p. by_name p parts name_span ds (full_name parts).result)
      (record { node = N.Discarded; ctx = d })
  nothing_decides e t = rw (e, t) (record {
    places = λ k p s q r.
        (refl, reported.lowers (with_place (record { at = parent; path = p }) k) s r);
  })

-- a name that is there, or not
pub there_some : (o : Option (List ℕ)) → is_there o ≡ true → (n : List ℕ) × (o ≡ some n)
there_some none e = absurd (not_both e refl)
there_some (some n) e = (n, refl)

pub not_there : (o : Option (List ℕ)) → is_there o ≡ false → o ≡ none
not_there none e = refl
not_there (some n) e = absurd (not_both {t = true} refl e)

-- whether a path is the empty one, by its place
pub top_is : {parent : PathAt} {k : Context} {c : LowerCtx} {words bytes : List ℕ} {p : List ℕ} {s : State}
    → Represents (with_place (record { at = parent; path = p }) k) c words bytes s → c.short ≡ false
    → is_top parent ≡ is_empty p
unfolding is_empty
top_is {parent} {k} {p = p} r z = go parent p (place_length {k = k} {p = record { at = parent; path = p }} r z)
  where
    go : (at : PathAt) (q : List ℕ) → place_len at ≡ length q → is_top at ≡ is_empty q
    go P.Root [] e = absurd (omega (arith, e))
    go P.Root (a ∷ q) e = refl
    go (P.Bytes start n) [] e = eq-eqb n 0 e
    go (P.Bytes start n) (a ∷ q) e = ne_eqb n 0 (λ y. omega (arith, e))

-- a reference among the parts decides alone
module _ {parent : PathAt} {c : LowerCtx} {words bytes w b input text : List ℕ} (parts : Trees) (span : Span) {v : PlacedNode} where
  pub without_reference : first_of reference_kind parts ≡ none
      → Places parent c words bytes w b input text parts span (λ p. by_name p parts (node_name_span parts span) (full_name parts).reports
      (full_name parts).result) v
      → PlacesIn parent c words bytes w b input text parts span (λ p s. place_of p parts span s) v
  unfolding place_of
  without_reference e h = rw e (record { places = λ k p s z r. h.places k p s (top_is {k = k} r z) r })

  pub by_reference : (t : Tree) → first_of reference_kind parts ≡ some t
      → PlacesIn parent c words bytes w b input text parts span (λ p s. by_target t (lower_phandle t).reports (lower_phandle t).result s) v
      → PlacesIn parent c words bytes w b input text parts span (λ p s. place_of p parts span s) v
  unfolding place_of
  by_reference t e h = rw e h
