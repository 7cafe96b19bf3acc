-- A node's definition with its labels, from the definition made first and the labels added.
use Prim.Native.Nat.{ℕ}
use mathlib.Core.Path.{◌≡◌, refl, sym, ap, subst}
use mathlib.Core.Bool.{Bool, true, false}
use mathlib.Core.List.{List, [], ◌∷◌, ◌++◌}
use native.Mathlib.Omega.{arith}
use lib.ListN.{length}
use Rattle.paths_numbers.specs.meaning.Path.{joined}
use Rattle.paths_numbers.proofs.Texts.{by_test}
use Rattle.making.specs.declared.ctx.LowerCtx.{LowerCtx}
use Rattle.making.specs.declared.place.PathAt.{PathAt}
use Rattle.definition_log.specs.declared.parts.Span.{Span as SpanRead}
use Rattle.making.specs.declared.recs.DefKind.{DefKind}
use Rattle.definition_log.specs.meaning.Contents.{Span, node, Def, Binding}
use Rattle.making.specs.meaning.State.{State, define, bind, emit, texts_bytes}
use Rattle.making.specs.machine.Adding.{on_last, changed, last_is, is_node, in_node}
use Rattle.making.specs.machine.PathPlaces.{path_in}
use Rattle.making.specs.machine.Recs.{bare_value, bare_def}
use Rattle.definition_log.specs.machine.Parts.{meant}
use Rattle.making.specs.machine.Represents.{Context, with_place, Represents, Steps, Newest}
use Rattle.making.proofs.InHand.{place_reads}
use Rattle.input.specs.meaning.Tree.{Trees, has, omit_kind}
use Rattle.input.specs.meaning.Name.{node_name_span, labels_of}
use Rattle.items.specs.meaning.Lower.{label_texts, opened}
use Rattle.items.specs.machine.Labelled.{with_labels, labelled_by, LabelsAt}
use Rattle.items.specs.machine.Opened.{bare_node, Opens, OpensAt}
use Rattle.items.specs.declared.open_node.Opened.{Opened}
use Rattle.items.proofs.Labelled.{same_state}
use Rattle.resolving.proofs.Lowers.{define_grows, stays_over}
use Rattle.items.proofs.Short.{short_anywhere}

-- the last of a list that ends so
last_changed : {A : Type 0} (f : A → A) (l : List A) (a : A) → on_last f (l ++ a ∷ []) ≡ l ++ f a ∷ []
unfolding on_last
last_changed f [] a = refl
last_changed f (x ∷ []) a = refl
last_changed f (x ∷ y ∷ l) a = ap (λ (z : List _). x ∷ z) (last_changed f (y ∷ l) a)

last_is_lem : {A : Type 0} (t : A → Bool) (l : List A) (a : A) → last_is t (l ++ a ∷ []) ≡ t a
unfolding last_is
last_is_lem t [] a = refl
last_is_lem t (x ∷ []) a = refl
last_is_lem t (x ∷ y ∷ l) a = last_is_lem t (y ∷ l) a

as_many : (bs : List Binding) → length (label_texts bs) ≡ length bs
unfolding label_texts
as_many [] = refl
as_many (b ∷ bs) = omega (arith, as_many bs)

module _ (p : List ℕ) (parts : Trees) (span : Span) (s : State) where
  pub opened_labels : labelled_by (labels_of p parts) (define (bare_node p parts span) s) ≡ opened p parts span s
  unfolding opened define bind emit labelled_by texts_bytes
  opened_labels =
      same_state (labelled_by (labels_of p parts) (define (bare_node p parts span) s)) (opened p parts span s)
      (last_changed (changed (with_labels (label_texts (labels_of p parts).made))) s.defs (bare_node p parts span))
      refl refl refl (omega (arith, as_many (labels_of p parts).made)) (omega arith)

  pub in_node_lem : in_node (define (bare_node p parts span) s) ≡ true
  unfolding define
  in_node_lem = last_is_lem (λ (d : Def). is_node d.value) s.defs (bare_node p parts span)

-- the newest definition's place, and the labels bound to it
pub node_opens : {c d : LowerCtx} {words bytes w b : List ℕ} {parts : Trees} {place : PathAt} → Newest c words place
    → LabelsAt place c d words bytes w b (λ (p : List ℕ). labels_of p parts)
    → Opens c words bytes w b parts (record { place = place; ctx = d })
unfolding define
node_opens {c} {bytes = bytes} {parts = parts} {place} n l =
    record {
      opens = λ k p span s r.
          rw (sym (opened_labels p parts span s))
          (l.labels k p (define (bare_node p parts span) s)
          (by_test c.short (λ z. short_anywhere z r) (λ z. n.stands k bytes (define (bare_node p parts span) s) s.defs
          (bare_node p parts span) r z refl))
          (in_node_lem p parts span s));
    }

-- a definition that a node's parts give
pub bare_node_lem : (kind : DefKind) (span name_span : SpanRead) (q p : List ℕ) (parts : Trees) (at : Span) → q ≡ p
    → bare_value kind ≡ node [] (has omit_kind parts) → meant span ≡ at
    → meant name_span ≡ node_name_span parts at → bare_def kind span name_span q ≡ bare_node p parts at
bare_node_lem kind span name_span q p parts at e v x y = rw (e, v, x, y) refl

-- a node defined at a path, and opened
module _ {parent : PathAt} {c d : LowerCtx} {words bytes w₁ b₁ w b : List ℕ} {parts : Trees} {o : Opened} (kind : DefKind)
    (span name_span : SpanRead) (at : Span) (q : List ℕ) (path : List ℕ → List ℕ)
    (made : Steps c d words bytes w₁ b₁ (define (bare_def kind span name_span q))) (labels : Opens d w₁ b₁ w b parts o)
    (value_is : bare_value kind ≡ node [] (has omit_kind parts)) (span_is : meant span ≡ at)
    (name_span_is : meant name_span ≡ node_name_span parts at)
    (path_is : (k : Context) (p : List ℕ) (s : State) → Represents (with_place (record { at = parent; path = p }) k) c words bytes s
    → c.short ≡ false → q ≡ path p) where
  defined : (k : Context) (p : List ℕ) (s : State) → Represents (with_place (record { at = parent; path = p }) k) c words bytes s
      → Represents (with_place (record { at = parent; path = p }) k) d w₁ b₁ (define (bare_node (path p) parts at) s)
  defined k p s r =
      by_test c.short
      (λ z. stays_over (define (bare_node (path p) parts at) s) made.stays z ((define_grows (bare_node (path p) parts at)).records s)
      ((define_grows (bare_node (path p) parts at)).bytes s) r)
      (λ z.
      subst (λ (x : Def). Represents (with_place (record { at = parent; path = p }) k) d w₁ b₁ (define x s))
      (bare_node_lem kind span name_span q (path p) parts at (path_is k p s r z) value_is span_is name_span_is)
      (made.steps (with_place (record { at = parent; path = p }) k) s r z))

  pub defined_opens : OpensAt parent c words bytes w b parts at path o
  defined_opens = record {
    opens = λ k p s r. labels.opens (with_place (record { at = parent; path = p }) k) (path p) at s
        (defined k p s r);
  }

-- under the parent's path
pub below_parent : {parent : PathAt} {c : LowerCtx} {words bytes : List ℕ} (name unit : List ℕ) (k : Context) (p : List ℕ) (s : State)
    → Represents (with_place (record { at = parent; path = p }) k) c words bytes s → c.short ≡ false
    → joined (path_in c.bytes bytes parent) name unit ≡ joined p name unit
below_parent {parent} name unit k p s r z = ap (λ (x : List ℕ). joined x name unit)
    (place_reads {k = k} {p = record { at = parent; path = p }} r z)
