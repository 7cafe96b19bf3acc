-- The removal of bindings as it goes along their chain.
use Rattle.std.specs.Prelude.{ℕ, ◌+◌, ◌≤◌, ◌≡◌, Bool, true, false, List, [], ◌∷◌, ◌++◌, length}
use Rattle.std.specs.Prelude.{Option as Maybe, Some, None, MatchOption}
use Rattle.std.specs.Borrow.{Bor}
use Rattle.paths_numbers.specs.meaning.Text.{same}
use Rattle.paths_numbers.specs.meaning.Path.{joined}
use Rattle.making.specs.declared.ctx.LowerCtx.{LowerCtx}
use Rattle.making.specs.declared.place.PathAt.{PathAt}
use Rattle.definition_log.specs.meaning.Contents.{Binding}
use Rattle.definition_log.specs.meaning.Record.{one_of, second_text, log_count}
use Rattle.definition_log.specs.meaning.ReadBack.{chain_from, chain_of, binding_at, read_defs}
use Rattle.making.specs.machine.PathPlaces.{path_in}
use Rattle.making.specs.meaning.State.{State}
use Rattle.making.specs.machine.Represents.{Context, with_place, Represents, last_number, Unlinks}
use Rattle.paths_numbers.specs.meaning.Lists.{any}
use Rattle.queries.specs.meaning.Live.{live}
use Rattle.definition_log.specs.machine.ChainLeft.{Stopped, Stepped}
use Rattle.definition_log.specs.declared.chain.Walk.{Walk as Cursor}
use Rattle.items.specs.meaning.Unbind.{binds_label_of, without, unbind}
use Rattle.items.specs.declared.unbind.Base.{Base}
use Rattle.items.specs.declared.unbind.Below.{Below}
use Rattle.items.specs.declared.unbind.Base.TheVariants.{Named, There, Given, Bound, BoundPath}
use Rattle.items.specs.declared.unbind.Unbound.{Unbound}

-- a path as it is read: of a name and a unit address below a place, that of a place, one that is given, a binding's path, or of a name
-- below that
unfoldable pub base_of : ℕ → List ℕ → List ℕ → Base → List ℕ
base_of used words bytes (Named p b) = joined (path_in used bytes p) b.name.now b.unit.now
base_of used words bytes (There p) = path_in used bytes p
base_of used words bytes (Given path) = path.now
base_of used words bytes (Bound r) = second_text words bytes r
base_of used words bytes (BoundPath r b) = joined (second_text words bytes r) b.name.now b.unit.now

-- whether binding r is one of a live node's label to its path, at or under a base
unfoldable pub goes_with : List ℕ → List ℕ → ℕ → List ℕ → ℕ → Bool
goes_with words bytes defs base r = any (binds_label_of (binding_at words bytes r)) (live base (read_defs words bytes defs))

-- a label that is lent, where one is
abbrev pub text_of : Maybe (Bor (List ℕ)) → Maybe (List ℕ)
text_of None = None
text_of (Some l) = Some l.now

-- a walk stops at a binding with this label, where there is one
abbrev pub stop_of : Maybe (List ℕ) → Binding → Bool
stop_of None x = false
stop_of (Some l) x = same x.label l

-- a state with other bindings
abbrev pub with_binds : State → List Binding → State
with_binds s bs = record { defs = s.defs; exts = s.exts; binds = bs; diags = s.diags; records = s.records; bytes = s.bytes }

-- one binding passed: taken out, or left before the next
pub data Passes (c d : LowerCtx) (words bytes w b : List ℕ) (p : List ℕ) (previous r : ℕ) : ℕ → Type 0 where
  takes : goes_with words bytes c.defs.first p r ≡ true → Unlinks c d words bytes w b previous r
      → Passes c d words bytes w b p previous r previous
  leaves : goes_with words bytes c.defs.first p r ≡ false → d ≡ c → w ≡ words → b ≡ bytes → Passes c d words bytes w b p previous r r

-- a binding that is not taken out: it was passed, or the walk stops at its label
pub data Stays (w b : List ℕ) (until : Maybe (List ℕ)) (r : ℕ) (ns ms : List ℕ) : Type 0 where
  passed : one_of r ns ≡ true → Stays w b until r ns ms
  ahead : one_of r ms ≡ true → stop_of until (binding_at w b r) ≡ true → Stays w b until r ns ms

-- what is read as the base is this path, and stays so
pub data BaseAt (k : Context) (w b : List ℕ) (until : Maybe (List ℕ)) (ns ms : List ℕ) (p : List ℕ) : Base → Type 0 where
  at_named : (place : PathAt) (below : Below) (parent : List ℕ) (k' : Context)
      → k ≡ with_place (record { at = place; path = parent }) k' → p ≡ joined parent below.name.now below.unit.now
      → BaseAt k w b until ns ms p (Named place below)
  at_there : (place : PathAt) (k' : Context) → k ≡ with_place (record { at = place; path = p }) k'
      → BaseAt k w b until ns ms p (There place)
  at_given : (path : Bor (List ℕ)) → p ≡ path.now → BaseAt k w b until ns ms p (Given path)
  at_bound : (r : ℕ) → Stays w b until r ns ms → p ≡ second_text w b r → BaseAt k w b until ns ms p (Bound r)
  at_below : (r : ℕ) (below : Below) → Stays w b until r ns ms → p ≡ joined (second_text w b r) below.name.now below.unit.now
      → BaseAt k w b until ns ms p (BoundPath r below)

-- a walk along the bindings of what the log said at first, of which those in `front` are left alone: `previous` and r are the last record
-- passed and the next, of which so many may be left
pub record Walk (base : Base) (until : Maybe (List ℕ)) (k : Context) (s : State) (front : List Binding)
    (p : List ℕ) (d : LowerCtx) (w b : List ℕ) (previous r left : ℕ) : Type 0 where
  pub done : List Binding
  pub todo : List Binding
  pub ns : List ℕ
  pub going : d.short ≡ false
  pub split : s.binds ≡ front ++ (done ++ todo)
  pub now : Represents k d w b (with_binds s ((front ++ without (live p s.defs) done) ++ todo))
  pub chain : chain_of w d.binds.first ≡ ns ++ chain_from left w r
  pub sized : length ns ≡ length (front ++ without (live p s.defs) done)
  pub last_is : previous ≡ last_number ns
  pub room : left + length ns ≤ log_count w
  pub at : BaseAt k w b until ns (chain_from left w r) p base
  pub unlabelled : any (stop_of until) done ≡ false

-- a walk to its end, or to the binding at which it stops
pub record Unbinds (base : Base) (until : Maybe (List ℕ)) (c : LowerCtx) (words bytes w b : List ℕ)
    (previous : ℕ) (from : Cursor) (u : Unbound) : Type 0 where
  pub last : Cursor
  pub walks : (k : Context) (s : State) (front : List Binding) (p : List ℕ)
      → Walk base until k s front p c words bytes previous from.next from.left
      → Walk base until k s front p u.ctx w b u.previous last.next last.left
  pub ends : MatchOption u.here (Stopped w last u.rest) (λ r. Stepped w last u.rest r × (stop_of until (binding_at w b r) ≡ true))

-- all bindings of the live nodes at or under a base
pub record UnbindsAll (base : Base) (c d : LowerCtx) (words bytes w b : List ℕ) : Type 0 where
  pub unbinds : (k : Context) (s : State) (p : List ℕ) → Represents k c words bytes s → c.short ≡ false
      → BaseAt k words bytes None [] (chain_of words c.binds.first) p base
      → Represents k d w b (unbind p s) × (d.short ≡ false)

-- a binding's path, or that of a name below it
abbrev pub bound_base : Maybe Below → ℕ → Base
bound_base None r = Bound r
bound_base (Some b) r = BoundPath r b

abbrev pub bound_path : Maybe Below → List ℕ → List ℕ
bound_path None p = p
bound_path (Some b) p = joined p b.name.now b.unit.now

-- x is the first binding of a label
pub record FirstOfLabel (label : List ℕ) (s : State) (xs : List Binding) (x : Binding) (ys : List Binding) : Type 0 where
  pub binds : s.binds ≡ xs ++ x ∷ ys
  pub others : any (λ (y : Binding). same y.label label) xs ≡ false
  pub labelled : same x.label label ≡ true

-- all but that one
pub record UnbindsOthers (below : Maybe Below) (label : List ℕ) (c d : LowerCtx) (words bytes w b : List ℕ) : Type 0 where
  pub unbinds : (k : Context) (s : State) (xs : List Binding) (x : Binding) (ys : List Binding) → Represents k c words bytes s
      → c.short ≡ false → FirstOfLabel label s xs x ys
      → Represents k d w b (with_binds s (without (live (bound_path below x.path) s.defs) xs ++ x
      ∷ without (live (bound_path below x.path) s.defs) ys)) × (d.short ≡ false)

-- those behind the one at which a walk stopped
pub record UnbindsBehind (below : Maybe Below) (up : Unbound) (d : LowerCtx) (words bytes w b : List ℕ) : Type 0 where
  pub none_here : up.here ≡ None → (d ≡ up.ctx) × (w ≡ words) × (b ≡ bytes)
  pub some_here : (r : ℕ) → up.here ≡ Some r
      → (behind : Unbound) × (Unbinds (bound_base below r) None up.ctx words bytes w b r up.rest behind) × (d ≡ behind.ctx)

-- and that one
pub record UnlinksFirst (label : List ℕ) (c d : LowerCtx) (words bytes w b : List ℕ) : Type 0 where
  pub unlinks : (k : Context) (s : State) (xs : List Binding) (x : Binding) (ys : List Binding) → Represents k c words bytes s
      → FirstOfLabel label s xs x ys
      → Represents k d w b (with_binds s (xs ++ ys))
