-- Where the code puts a node before its body is lowered, and what the log says then.
use Rattle.std.specs.Prelude.{ℕ, ◌≡◌, true, false, List, Result}
use Rattle.paths_numbers.specs.meaning.Text.{is_empty}
use Rattle.making.specs.declared.ctx.LowerCtx.{LowerCtx}
use Rattle.making.specs.declared.place.PathAt.{PathAt}
use Rattle.definition_log.specs.meaning.Contents.{Span}
use Rattle.definition_log.specs.machine.Parts.{target_made}
use Rattle.making.specs.meaning.State.{State, define, emit}
use Rattle.making.specs.machine.Represents.{Context, with_place, Represents}
use Rattle.queries.specs.meaning.Kind.{sets_overlay}
use Rattle.input.specs.meaning.Tree.{Trees}
use Rattle.resolving.specs.meaning.Resolve.{reaches}
use Rattle.items.specs.meaning.Lower.{at, aside, discarded, nowhere, Placed, opened}
use Rattle.input.specs.meaning.Input.{span_at}
use Rattle.input.specs.machine.PhandleRead.{label_at, path_at}
use Rattle.input.specs.machine.OfRecord.{parts_of, span_in}
use Rattle.input.specs.declared.linked.Record.{Record}
use Rattle.resolving.specs.machine.Leading.{resolution, Leads}
use Rattle.items.specs.machine.Opened.{bare_node}
use Rattle.items.specs.machine.PropertyMade.{is_top}
use Rattle.resolving.specs.declared.resolve.Leads.{Leads as Led}
use Rattle.resolving.specs.declared.resolve.Missing.{Missing}
use Rattle.items.specs.declared.dt_node.NodePlace.{NodePlace}
use Rattle.items.specs.declared.dt_node.NodePlace.TheVariants as N
use Rattle.items.specs.declared.dt_node.PlacedNode.{PlacedNode}
use Rattle.items.specs.declared.open_node.Opened.{Opened}

-- a log that said s: what is reported is made, and a node that goes to a path is opened there
abbrev pub PlacedTo : Context → List ℕ → List ℕ → List ℕ → List ℕ → Trees → Span → State → LowerCtx → Placed → NodePlace → Type 0
PlacedTo k w b input text parts span s d l (N.At place) =
    (q : List ℕ) × (l.place ≡ at q) × Represents (with_place (record { at = place; path = q }) k) d w b
    (opened q parts span (emit l.reports s))
PlacedTo k w b input text parts span s d l (N.Aside r kind) =
    (l.place ≡ aside (target_made kind (label_at input text r) (path_at input text r)) (span_at input r)) × (sets_overlay s.defs ≡ true)
    × Represents k d w b (emit l.reports s)
PlacedTo k w b input text parts span s d l (N.Dropped r kind) =
    (l.place ≡ aside (target_made kind (label_at input text r) (path_at input text r)) (span_at input r)) × (sets_overlay s.defs ≡ false)
    × Represents k d w b (emit l.reports s)
PlacedTo k w b input text parts span s d l N.Discarded = (l.place ≡ discarded) × Represents k d w b (emit l.reports s)
PlacedTo k w b input text parts span s d l N.Nowhere = (l.place ≡ nowhere) × Represents k d w b (emit l.reports s)

-- a node that is opened, and one that goes nowhere
abbrev pub placed_at : Opened → PlacedNode
placed_at o = record { node = N.At o.place; ctx = o.ctx }

abbrev pub placed_nowhere : LowerCtx → PlacedNode
placed_nowhere c = record { node = N.Nowhere; ctx = c }

-- from state c, under a path, of which it is known whether it is the empty one
pub record Places (parent : PathAt) (c : LowerCtx) (words bytes w b input text : List ℕ) (parts : Trees) (span : Span) (l : List ℕ → Placed)
    (v : PlacedNode) : Type 0 where
  pub places : (k : Context) (p : List ℕ) (s : State) → is_top parent ≡ is_empty p
      → Represents (with_place (record { at = parent; path = p }) k) c words bytes s
      → PlacedTo (with_place (record { at = parent; path = p }) k) w b input text parts span s v.ctx (l p) v.node

-- from a state that did not run short: what the log says decides
pub record PlacesIn (parent : PathAt) (c : LowerCtx) (words bytes w b input text : List ℕ) (parts : Trees) (span : Span)
    (l : List ℕ → State → Placed) (v : PlacedNode) : Type 0 where
  pub places : (k : Context) (p : List ℕ) (s : State) → c.short ≡ false
      → Represents (with_place (record { at = parent; path = p }) k) c words bytes s
      → PlacedTo (with_place (record { at = parent; path = p }) k) w b input text parts span s v.ctx (l p s) v.node

-- the same of the node of a record
abbrev pub PlacesAt : PathAt → LowerCtx → List ℕ → List ℕ → List ℕ → List ℕ → Record → (List ℕ → Placed) → PlacedNode → Type 0
PlacesAt parent c words bytes w b r l v =
    Places parent c words bytes w b r.input.words.now r.input.text.now (parts_of r) (span_in r) l v

abbrev pub PlacesInAt : PathAt → LowerCtx → List ℕ → List ℕ → List ℕ → List ℕ → Record → (List ℕ → State → Placed) → PlacedNode → Type 0
PlacesInAt parent c words bytes w b r l v =
    PlacesIn parent c words bytes w b r.input.words.now r.input.text.now (parts_of r) (span_in r) l v

-- the definition of a node where its reference leads
pub record DefinesLeading (v : Result Led Missing) (l path : List ℕ) (c d : LowerCtx) (words bytes w b : List ℕ) (parts : Trees) (span : Span) : Type
    0 where
  pub defines : (k : Context) (s : State) (p : List ℕ) → Represents k c words bytes s → c.short ≡ false
      → Leads words bytes c.binds.first c.defs.first l path v → resolution words bytes l path v ≡ reaches p
      → Represents k d w b (define (bare_node p parts span) s)
