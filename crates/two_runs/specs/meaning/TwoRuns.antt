-- Demand 3 over trees and states: run B's description is run A's with two adjacent items more, a new subnode and its deletion by name, and
-- both are "told the same otherwise": the same level. Each
-- premise of the demand is a definition of its own here, in 01's "Words of demand 3"; the claim about what both runs write is built on this
-- one.
use Rattle.std.specs.Prelude.{ℕ, Bool, true, false, not, cond, ◌≡◌, List, [], eqb}
use Rattle.std.proofs.Math.Option.{Option, some, none}
use Rattle.paths_numbers.specs.meaning.Text.{is_empty}
use Rattle.paths_numbers.specs.meaning.Path.{at_or_under, join}
use Rattle.definition_log.specs.meaning.Contents.{Span, Binding}
use Rattle.paths_numbers.specs.meaning.Lists.{any}
use Rattle.queries.specs.meaning.Live.{live}
use Rattle.queries.specs.meaning.History.{history}
use Rattle.input.specs.meaning.GoodName.{good_names_in}
use Rattle.input.specs.meaning.Tree.{Tree, Trees, tree, empty, more, kind_of, w_of, children_of, first_of, has, node_kind, directive_kind}
use Rattle.input.specs.meaning.Tree.{name_kind, unit_address_kind, reference_kind, slash_kind}
use Rattle.input.specs.meaning.Name.{full_name}
use Rattle.making.specs.meaning.State.{State, start, emit}
use Rattle.items.specs.meaning.Lower.{version_directive, plugin_directive, delete_node_directive, at, nowhere, place_of, opened, lower_item}
use Rattle.items.specs.meaning.Lower.{lowered}
use Rattle.post_checks.specs.meaning.Post.{post_checks}

-- a unit address, where there is one, "that holds one", a name
abbrev pub address_named : Option Tree → Bool
address_named none = true
address_named (some u) = has name_kind (children_of u)

-- "Plain name: a name (5), with or without a unit address that holds one, and no slash or reference beside it."
unfoldable pub plain_name : Trees → Bool
plain_name parts =
    cond (has name_kind parts)
    (cond (address_named (first_of unit_address_kind parts)) (cond (has slash_kind parts) false (not (has reference_kind parts))) false)
    false

-- "no node or deletion by reference and no version or plugin directive": a directive of the two. A reference beside the name of a deleted
-- property is let pass: whether that is a deletion by reference or not, the theorem covers it
unfoldable pub quiet_directive : ℕ → Trees → Bool
quiet_directive w parts =
    cond (eqb w version_directive) false
    (cond (eqb w plugin_directive) false
    (cond (eqb w delete_node_directive) (not (has reference_kind parts))
    true))

-- an item of the two, with all that it holds: "All nodes in these two have plain names"
unfoldable mutual
  pub quiet : Tree → Bool
  quiet (tree k text w span parts second) =
      cond (eqb k node_kind) (cond (plain_name parts) (quiet_in second) false)
      (cond (eqb k directive_kind) (quiet_directive w parts) true)

  pub quiet_in : Trees → Bool
  quiet_in empty = true
  quiet_in (more t ts) = cond (quiet t) (quiet_in ts) false

-- the path that an item's name gives it under a parent
pub record Names (parent : List ℕ) (t : Tree) (new : List ℕ) : Type 0 where
  pub name : List ℕ
  pub named : (full_name (children_of t)).result ≡ some name
  pub path : join parent name ≡ new

-- the two items n and d, of a body under the path parent, where run B, at a level, has come to the state s
pub record Pair (level : ℕ) (new parent : List ℕ) (s : State) (n d : Tree) : Type 0 where
  -- they stand in a node's body: the top's parent path is empty
  pub in_body : is_empty parent ≡ false
  -- a subnode, and "The new path is the subnode's"
  pub subnode : kind_of n ≡ node_kind
  pub new_path : Names parent n new
  -- "a delete node directive whose name gives that path"
  pub deletion : kind_of d ≡ directive_kind
  pub deletes_node : w_of d ≡ delete_node_directive
  pub same_path : Names parent d new
  -- plain names, nothing by reference, no version or plugin directive
  pub quiet_node : quiet n ≡ true
  pub quiet_deletion : quiet d ≡ true
  -- they "raise no diagnostic"
  pub silent : (lower_item level d parent (lower_item level n parent s)).diags ≡ s.diags
  -- "before them, nothing live and no binding lies at or under the new path"
  pub nothing_live : live new s.defs ≡ []
  pub nothing_bound : any (λ (b : Binding). at_or_under b.path new) s.binds ≡ false

-- b is a with the two put in, anywhere in a body that enters the main log. Lowering the chain starts in the state s under the path parent;
-- `within` goes into the body of a node that is placed at a path of the log in hand, and so into no body that is dropped or has a log of
-- its own.
-- A body that is not lowered at all (codes 5 and 6, a reference that cannot be read) is neither dropped nor lowered into a log of its own,
-- so that 01 can be read to have it enter the main log. `unlowered` covers that reading too, and asks nothing of the two: whatever the body
-- is in one run and in the other, nothing of it is written
pub data Inserted (level : ℕ) (new : List ℕ) : List ℕ → State → Trees → Trees → Type 0 where
  here : {parent : List ℕ} {s : State} {n d : Tree} {rest : Trees} → Pair level new parent s n d
      → Inserted level new parent s rest (more n (more d rest))
  after : {parent : List ℕ} {s : State} {t : Tree} {a b : Trees} → Inserted level new parent (lower_item level t parent s) a b
      → Inserted level new parent s (more t a) (more t b)
  within : {parent : List ℕ} {s : State} {text : List ℕ} {w : ℕ} {span : Span} {parts body body' rest : Trees} {p : List ℕ}
      → (place_of parent parts span s).place ≡ at p
      → Inserted level new p (opened p parts span (emit (place_of parent parts span s).reports s)) body body'
      → Inserted level new parent s (more (tree node_kind text w span parts body) rest) (more (tree node_kind text w span parts body') rest)
  unlowered : {parent : List ℕ} {s : State} {text : List ℕ} {w : ℕ} {span : Span} {parts body body' rest : Trees}
      → (place_of parent parts span s).place ≡ nowhere
      → Inserted level new parent s (more (tree node_kind text w span parts body) rest) (more (tree node_kind text w span parts body') rest)

-- two results alike in all that the four parts read
pub record Alike (new : List ℕ) (a b : State) : Type 0 where
  pub lives : (base : List ℕ) → live base a.defs ≡ live base b.defs
  pub bindings : a.binds ≡ b.binds
  pub extensions : a.exts ≡ b.exts
  pub diagnostics : a.diags ≡ b.diags
  pub checks : post_checks a ≡ post_checks b
  pub histories : (path : List ℕ) → at_or_under path new ≡ false → history path a.defs ≡ history path b.defs

-- the claim: no premise but those of the pair. That post checks report nothing at the two's definitions, and that no version or plugin
-- directive comes next, is not needed: a node is defined before the two.
unfoldable pub TwoRuns : Type 0
TwoRuns =
    (level : ℕ) (new : List ℕ) (a b : Trees) → good_names_in b ≡ true → Inserted level new [] start a b
    → Alike new (lowered level a) (lowered level b)
