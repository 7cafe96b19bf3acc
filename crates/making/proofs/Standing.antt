-- Where a record of a log in the making stands, by its kind or its chain.
use Prim.Native.Nat.{ℕ, ◌≤◌}
use mathlib.Core.Path.{◌≡◌, refl, sym, ◌∙◌}
use mathlib.Core.Bool.{Bool, true, false, cond}
use mathlib.Core.List.{List, [], ◌∷◌}
use native.Mathlib.Omega.{arith}
use borrow.Author.Tests.{eqb-true, leb-true}
use lib.Dec.{eqb, leb}
use lib.ListN.{length}
use Rattle.paths_numbers.proofs.Texts.{by_test, not_both, both}
use Rattle.definition_log.specs.meaning.Record.{node_kind, property_kind, cell_list_kind, extension_kind, one_of, def_kinds, has_children}
use Rattle.definition_log.specs.meaning.Sound.{kinds_in, below as place_below}
use Rattle.making.specs.machine.Events.{Event, defs_of, exts_of, children_of, first, below}
use Rattle.making.specs.machine.Whole.{There, Stands, in_defs, in_exts, in_bindings, in_diagnostics, in_post, in_children}

-- the numbers of a list lie between two
unfoldable between : ℕ → ℕ → List ℕ → Bool
between low high [] = true
between low high (a ∷ l) = cond (cond (leb low a) (leb a high) false) (between low high l) false

one_between : (low high k : ℕ) (l : List ℕ) → between low high l ≡ true → one_of k l ≡ true → (low ≤ k) × (k ≤ high)
unfolding between one_of
one_between low high k [] b o = absurd (not_both o refl)
one_between low high k (a ∷ l) b o =
    let c = both (cond (leb low a) (leb a high) false) (between low high l) b in
    let d = both (leb low a) (leb a high) c.0 in
    by_test (eqb k a)
    (λ t. rw (eqb-true k a t) (leb-true low a d.0, leb-true a high d.1))
    (λ t. one_between low high k l c.1 (rw t at o))

-- the kinds of definitions, and of children
pub def_range : (k : ℕ) → one_of k def_kinds ≡ true → (1 ≤ k) × (k ≤ 6)
unfolding between
def_range k o = one_between 1 6 k def_kinds refl o

pub child_range : (j k : ℕ) → one_of j (kinds_in (place_below k)) ≡ true → (7 ≤ j) × (j ≤ 12)
unfolding between
child_range j k o = one_between 7 12 j (kinds_in (place_below k)) all o
  where
    all : between 7 12 (kinds_in (place_below k)) ≡ true
    all =
        by_test (eqb k node_kind)
        (λ t. rw t refl)
        (λ t. by_test (eqb k property_kind) (λ u. rw (t, u) refl)
        (λ u. by_test (eqb k cell_list_kind) (λ v. rw (t, u, v) refl)
        (λ v. by_test (eqb k extension_kind) (λ x. rw (t, u, v, x) refl) (λ x. rw (t, u, v, x) refl))))

-- an extension by its kind
pub record Extends (hand : ℕ → Type 0) (es : List Event) (r : ℕ) (e : Event) : Type 0 where
  pub log : ℕ
  pub held : hand log
  pub chain : e.chain ≡ exts_of log
  pub own : hand e.log → ⊥
  pub body : e.m ≡ first (defs_of e.log) 1 es
  pub one : length (below es r) ≡ 1

pub extends : {hand : ℕ → Type 0} {es : List Event} {r : ℕ} {e : Event} → Stands hand es r e → e.kind ≡ extension_kind → Extends hand es r e
extends {e = e} (in_defs l q o) d = absurd (omega (arith, def_range e.kind o))
extends (in_exts {l} z q k n b o) d = record { log = l; held = z; chain = q; own = n; body = b; one = o }
extends (in_bindings q k) d = absurd (omega (arith, sym k ∙ d))
extends (in_diagnostics q k) d = absurd (omega (arith, sym k ∙ d))
extends (in_post q k) d = absurd (omega (arith, sym k ∙ d))
extends {e = e} (in_children {x = x} h q c o) d = absurd (omega (arith, child_range e.kind x.kind o))

-- and by its chain
pub by_chain : (l : ℕ) {hand : ℕ → Type 0} {es : List Event} {r : ℕ} {x : Event} → Stands hand es r x → x.chain ≡ exts_of l
    → x.m ≡ first (defs_of x.log) 1 es
by_chain l (in_defs k q o) c = absurd (omega (arith, sym q ∙ c))
by_chain l (in_exts z q k n b o) c = b
by_chain l (in_bindings q k) c = absurd (omega (arith, sym q ∙ c))
by_chain l (in_diagnostics q k) c = absurd (omega (arith, sym q ∙ c))
by_chain l (in_post q k) c = absurd (omega (arith, sym q ∙ c))
by_chain l (in_children h q k o) c = absurd (omega (arith, sym q ∙ c))

-- a child: the record below which it stands
pub record Owned (es : List Event) (o : ℕ) : Type 0 where
  pub owner : Event
  pub there : There es o owner
  pub children : has_children owner.kind ≡ true

pub owned : {hand : ℕ → Type 0} {es : List Event} {r o : ℕ} {x : Event} → Stands hand es r x → x.chain ≡ children_of o → Owned es o
owned (in_defs l q k) c = absurd (omega (arith, sym q ∙ c))
owned (in_exts z q k n b u) c = absurd (omega (arith, sym q ∙ c))
owned (in_bindings q k) c = absurd (omega (arith, sym q ∙ c))
owned (in_diagnostics q k) c = absurd (omega (arith, sym q ∙ c))
owned (in_post q k) c = absurd (omega (arith, sym q ∙ c))
owned {o = o} (in_children {o = p} {x = y} i q k u) c =
    let e : p ≡ o = omega (arith, sym q ∙ c) in
    record { owner = y; there = rw e at i; children = k }
