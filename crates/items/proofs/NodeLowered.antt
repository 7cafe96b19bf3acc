-- A node by where it goes: its body lowered there, or in a log of its own, or not at all.
use Prim.Native.Nat.{ℕ}
use mathlib.Core.Path.{◌≡◌, refl, sym, ap, ◌∙◌}
use mathlib.Core.Bool.{Bool, true, false}
use mathlib.Core.List.{List, []}
use mathlib.Core.Logic.{◌⊎◌, inl, inr}
use Rattle.paths_numbers.specs.meaning.Path.{root}
use Rattle.paths_numbers.proofs.Texts.{not_both}
use Rattle.making.specs.declared.ctx.LowerCtx.{LowerCtx}
use Rattle.making.specs.declared.place.PathAt.{PathAt}
use Rattle.making.specs.declared.place.PathAt.TheVariants as P
use Rattle.paths_numbers.specs.declared.phandle.MirPhandleTarget.{MirPhandleTarget}
use Rattle.definition_log.specs.meaning.Contents.{Span, Def}
use Rattle.definition_log.specs.machine.Parts.{target_made}
use Rattle.making.specs.meaning.State.{State, emit, apart, dropped}
use Rattle.making.specs.machine.Represents.{Context, with_place, in_body, Represents, Enters, LeavesDropped, LeavesKept}
use Rattle.making.proofs.InHand.{forget_place, root_place}
use Rattle.queries.specs.meaning.Kind.{sets_overlay}
use Rattle.paths_numbers.specs.meaning.Lists.{any}
use Rattle.input.specs.meaning.Tree.{Trees}
use Rattle.items.specs.meaning.Lower.{place_of, lower_placed, lower_node}
use Rattle.input.specs.meaning.Input.{span_at}
use Rattle.input.specs.machine.PhandleRead.{label_at, path_at}
use Rattle.resolving.specs.machine.Lowers.{LowersAt}
use Rattle.items.specs.machine.NodePlaced.{PlacedTo, PlacesIn}
use Rattle.items.specs.declared.dt_node.NodePlace.{NodePlace}
use Rattle.items.specs.declared.dt_node.NodePlace.TheVariants as N
use Rattle.items.specs.declared.dt_node.PlacedNode.{PlacedNode}

-- a body in a log of its own
pub enters_apart : {c d e : LowerCtx} {keeps : Bool} {words bytes w b : List ℕ} {f : List ℕ → State → State} → Enters c d keeps
    → LowersAt P.Root d e words bytes w b f
    → (k : Context) (s : State) → (keeps ≡ true → s.defs ≡ [] → ⊥) → Represents k c words bytes s
    → Represents (in_body k c s keeps) e w b (f root (apart s))
enters_apart {c} {keeps = keeps} {words} {bytes} en lo k s n r =
    forget_place {p = record { at = P.Root; path = root }}
    (lo.lowers (in_body k c s keeps) root (apart s) (root_place (record { at = P.Root; path = root }) refl refl
    (en.enters k words bytes s n r)))

-- a log with a plugin directive says something
says_something : (ds : List Def) → sets_overlay ds ≡ true → ds ≡ [] → ⊥
unfolding sets_overlay any
says_something ds t e = not_both (ap sets_overlay (sym e) ∙ t) refl

module _ {parent : PathAt} {c : LowerCtx} {words bytes w₁ b₁ input text : List ℕ} {parts : Trees} {span : Span} {v : PlacedNode}
    (body : List ℕ → State → State) (going : c.short ≡ false)
    (placed : PlacesIn parent c words bytes w₁ b₁ input text parts span (λ p s. place_of p parts span s) v) where
  placed_as_lem : {n : NodePlace} → v.node ≡ n → (k : Context) (p : List ℕ) (s : State)
      → Represents (with_place (record { at = parent; path = p }) k) c words bytes s
      → PlacedTo (with_place (record { at = parent; path = p }) k) w₁ b₁ input text parts span s v.ctx (place_of p parts span s) n
  placed_as_lem e k p s r = rw e at (placed.places k p s going r)

  -- at its path
  pub node_at_lem : {d : LowerCtx} {w b : List ℕ} {place : PathAt} → v.node ≡ N.At place → LowersAt place v.ctx d w₁ b₁ w b body
      → LowersAt parent c d words bytes w b (λ p s. lower_node p parts span body s)
  unfolding lower_node
  node_at_lem {place = place} e lo =
      record {
        lowers = λ k p s r.
            let h = placed_as_lem e k p s r in
            rw h.1 (forget_place {p = record { at = place; path = h.0 }}
            (lo.lowers (with_place (record { at = parent; path = p }) k) h.0 _ h.2));
      }

  -- a body that is dropped
  dropped_there : ((r : ℕ) × (kind : MirPhandleTarget) × (v.node ≡ N.Dropped r kind)) ⊎ (v.node ≡ N.Discarded)
      → (k : Context) (p : List ℕ) (s : State) → Represents (with_place (record { at = parent; path = p }) k) c words bytes s
      → ((u : State) → u.defs ≡ s.defs → lower_placed (place_of p parts span s).place parts span body u ≡ dropped u (body root (apart u)))
      × Represents (with_place (record { at = parent; path = p }) k) v.ctx w₁ b₁ (emit (place_of p parts span s).reports s)
  dropped_there (inl x) k p s m = let h = placed_as_lem x.2 k p s m in (λ u o. rw (h.0, o, h.1) refl, h.2)
  dropped_there (inr e) k p s m = let h = placed_as_lem e k p s m in (λ u o. rw h.0 refl, h.1)

  -- in a log that is dropped
  pub node_discarded : {i d f : LowerCtx} {w₂ b₂ w b : List ℕ}
      → ((r : ℕ) × (kind : MirPhandleTarget) × (v.node ≡ N.Dropped r kind)) ⊎ (v.node ≡ N.Discarded) → Enters v.ctx i false
      → LowersAt P.Root i d w₁ b₁ w₂ b₂ body → LeavesDropped d f v.ctx w₂ b₂ w b
      → LowersAt parent c f words bytes w b (λ p s. lower_node p parts span body s)
  unfolding lower_node emit
  node_discarded e en lo le =
      record {
        lowers = λ k p s r.
            let h = dropped_there e k p s r in
            rw (h.0 (emit (place_of p parts span s).reports s) refl)
            (le.leaves (with_place (record { at = parent; path = p }) k) _ _
            (enters_apart en lo (with_place (record { at = parent; path = p }) k) _ (λ t. absurd (not_both t refl)) h.1));
      }

  -- in a log of its own that is kept, for what its reference names
  pub node_aside : {i d f : LowerCtx} {w₂ b₂ w b : List ℕ} (r : ℕ) (kind : MirPhandleTarget) → v.node ≡ N.Aside r kind
      → Enters v.ctx i true → LowersAt P.Root i d w₁ b₁ w₂ b₂ body
      → LeavesKept d f v.ctx w₂ b₂ w b (target_made kind (label_at input text r) (path_at input text r)) span (span_at input r)
      → LowersAt parent c f words bytes w b (λ p s. lower_node p parts span body s)
  unfolding lower_node emit
  node_aside r kind e en lo le =
      record {
        lowers = λ k p s m.
            let h = placed_as_lem e k p s m in
            rw (h.0, h.1)
            (le.leaves (with_place (record { at = parent; path = p }) k) _ _
            (enters_apart en lo (with_place (record { at = parent; path = p }) k) _ (λ t. says_something s.defs h.1) h.2));
      }

  -- nowhere
  pub node_nowhere : v.node ≡ N.Nowhere → LowersAt parent c v.ctx words bytes w₁ b₁ (λ p s. lower_node p parts span body s)
  unfolding lower_node
  node_nowhere e = record { lowers = λ k p s r. let h = placed_as_lem e k p s r in rw h.0 h.1 }
