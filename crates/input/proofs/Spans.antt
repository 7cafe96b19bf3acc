-- Row 4's rule for spans, of every record of a description; then the name spans that are made of them are in order too.
use Prim.Native.Nat.{ℕ}
use mathlib.Core.Path.{◌≡◌, refl}
use mathlib.Core.Bool.{Bool, true, false, cond}
use mathlib.Core.Option.{Option, some, none}
use native.Mathlib.Omega.{arith}
use borrow.Author.Tests.{le-leb, leb-true}
use lib.Dec.{eqb, leb}
use Rattle.paths_numbers.proofs.Texts.{by_test, both}
use Rattle.definition_log.specs.meaning.Contents.{Span}
use Rattle.definition_log.specs.machine.Good.{in_order}
use Rattle.input.specs.meaning.Tree.{Tree, Trees, tree, empty, more, kind_of, span_of, children_of, first_of, name_kind}
use Rattle.input.specs.machine.Fits.{second_of}
use Rattle.input.specs.meaning.Tree.{unit_address_kind, reference_kind, slash_kind}
use Rattle.input.specs.meaning.Name.{span_to, slash_span, own_span, reference_span, node_name_span, property_name_span}
use Rattle.input.specs.meaning.Place.{InputPlace, fits, w_fits, child_place, second_place, fits_alone}
use Rattle.input.specs.machine.Fits.{fits_place, fits_places}
use Rattle.input.proofs.GoodNames.{never}

-- every span of a tree is in order
unfoldable mutual
  pub spans : Tree → Bool
  spans (tree k text w span parts second) = cond (in_order span) (cond (spans_in parts) (spans_in second) false) false

  pub spans_in : Trees → Bool
  spans_in empty = true
  spans_in (more t ts) = cond (spans t) (spans_in ts) false

-- row 4's rule of a whole tree has this one in it
mutual
  unfolding fits_place fits_places fits_alone spans spans_in

  fit_spans : (t : Tree) (place : InputPlace) → fits_place place t ≡ true → spans t ≡ true
  fit_spans (tree k text w span parts second) place e =
      let h = both (fits_alone place k w span) _ e in
      let own = (both (w_fits k w) (in_order span) (both (fits place k) _ h.0).1).1 in
      let below = both (fits_places (child_place k) parts) _ h.1 in
      rw (own, fits_spans parts (child_place k) below.0, fits_spans second (second_place k) below.1) refl

  pub fits_spans : (ts : Trees) (place : InputPlace) → fits_places place ts ≡ true → spans_in ts ≡ true
  fits_spans empty place e = refl
  fits_spans (more t ts) place e =
      let h = both (fits_place place t) _ e in
      rw (fit_spans t place h.0, fits_spans ts place h.1) refl

-- the spans of a record, of its children, and of a chain's first of a kind
pub own_span_lem : (t : Tree) → spans t ≡ true → in_order (span_of t) ≡ true
unfolding spans
own_span_lem (tree k text w span parts second) e = (both (in_order span) _ e).0

below_spans : (t : Tree) → spans t ≡ true → (spans_in (children_of t) ≡ true) × (spans_in (second_of t) ≡ true)
unfolding spans
below_spans (tree k text w span parts second) e = both (spans_in parts) (spans_in second) (both (in_order span) _ e).1

pub child_spans : (t : Tree) → spans t ≡ true → spans_in (children_of t) ≡ true
child_spans t e = (below_spans t e).0

pub second_spans : (t : Tree) → spans t ≡ true → spans_in (second_of t) ≡ true
second_spans t e = (below_spans t e).1

pub chain_spans : (t : Tree) (ts : Trees) → spans_in (more t ts) ≡ true → (spans t ≡ true) × (spans_in ts ≡ true)
unfolding spans_in
chain_spans t ts e = both (spans t) (spans_in ts) e

pub first_spans : (k : ℕ) (ts : Trees) (t : Tree) → spans_in ts ≡ true → first_of k ts ≡ some t → spans t ≡ true
unfolding first_of
first_spans k empty t e q = never q
first_spans k (more x ts) t e q =
    let h = chain_spans x ts e in
    by_test (eqb (kind_of x) k)
    (λ b. let y : x ≡ t = cc (rw b at q) in rw (← y) h.0)
    (λ b. first_spans k ts t h.1 (rw b at q))

pub first_span : (k : ℕ) (ts : Trees) (t : Tree) → spans_in ts ≡ true → first_of k ts ≡ some t → in_order (span_of t) ≡ true
first_span k ts t e q = own_span_lem t (first_spans k ts t e q)

-- name spans

longer : (s : Span) (o : Option Tree) → in_order s ≡ true → in_order (span_to s o) ≡ true
longer s none e = e
longer s (some u) e =
    let h = leb-true s.from s.to e in
    by_test (leb s.to (span_of u).to)
    (λ b. rw b (le-leb s.from (span_of u).to (omega (arith, h, leb-true s.to (span_of u).to b))))
    (λ b. rw b e)

module _ (parts : Trees) (span : Span) (g : spans_in parts ≡ true) (e : in_order span ≡ true) where
  else_span : (k : ℕ) (o : Option Tree) → first_of k parts ≡ o → in_order (slash_span o span) ≡ true
  else_span k (some x) q = first_span k parts x g q
  else_span k none q = e

  named_span : (o : Option Tree) → first_of name_kind parts ≡ o → in_order (own_span o parts span) ≡ true
  named_span (some n) q = longer (span_of n) (first_of unit_address_kind parts) (first_span name_kind parts n g q)
  named_span none q = else_span slash_kind (first_of slash_kind parts) refl

  pub node_span : in_order (node_name_span parts span) ≡ true
  unfolding node_name_span
  node_span = go (first_of reference_kind parts) refl
    where
      go : (o : Option Tree) → first_of reference_kind parts ≡ o → in_order (reference_span o parts span) ≡ true
      go (some r) q = first_span reference_kind parts r g q
      go none q = named_span (first_of name_kind parts) refl

  pub property_span : in_order (property_name_span parts span) ≡ true
  unfolding property_name_span
  property_span = else_span name_kind (first_of name_kind parts) refl
