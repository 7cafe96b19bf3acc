-- What one label does, and a chain of parts with labels among them.
use Prim.Native.Nat.{ℕ}
use mathlib.Core.Path.{◌≡◌, refl, sym, ap, subst, ◌∙◌}
use mathlib.Core.List.{List, [], ◌∷◌, append_assoc, append-nil}
use native.Mathlib.Omega.{arith}
use borrow.Author.Tests.{eq-eqb, ne_eqb}
use Rattle.std.specs.Prelude.{Result}
use Rattle.paths_numbers.proofs.Texts.{by_test}
use Rattle.making.specs.declared.ctx.LowerCtx.{LowerCtx}
use Rattle.making.specs.declared.place.PathAt.{PathAt}
use Rattle.definition_log.specs.declared.parts.Span.{Span}
use Rattle.definition_log.specs.meaning.Contents.{Binding, Diag}
use Rattle.making.specs.machine.PathPlaces.{path_in}
use Rattle.making.specs.meaning.State.{State, bind, emit}
use Rattle.making.specs.machine.Adding.{add_part, add_label, in_node}
use Rattle.making.specs.machine.Recs.{binding_made}
use Rattle.making.specs.machine.Represents.{Context, with_place, Represents, Steps, StepsIn}
use Rattle.input.specs.meaning.Tree.{Trees, more, label_kind}
use Rattle.input.specs.meaning.Report.{Got, Made, nothing, and_then}
use Rattle.input.specs.meaning.Name.{name_or_macro, labelled, labels_of}
use Rattle.input.specs.meaning.Input.{kind_at, child_at, chain_at}
use Rattle.input.specs.machine.At.{record_at}
use Rattle.input.specs.machine.Linked.{Linked, At}
use Rattle.input.specs.machine.NameRead.{name_read}
use Rattle.input.specs.declared.report.Report.{Report}
use Rattle.resolving.specs.machine.Lowers.{Lowers}
use Rattle.items.specs.machine.Labelled.{labelled_by, LabelsAt}
use Rattle.input.specs.machine.ChainLeft.{numbers_from, trees_of, AreRecords}
use Rattle.input.proofs.ChainLeft.{chain_is, are_records}
use Rattle.resolving.proofs.Lowers.{bind_grows, stays_over}
use Rattle.items.proofs.Labelled.{labelled_none, labelled_then, labelled_one, labelled_report, labelled_node}
use Rattle.making.proofs.InHand.{place_reads}

-- a label added and bound
module _ {place : PathAt} {c c₁ d : LowerCtx} {words bytes w₁ b₁ w b : List ℕ} (l : List ℕ) (span : Span)
    (added : StepsIn in_node c c₁ words bytes w₁ b₁ (add_label l))
    (bound : Steps c₁ d w₁ b₁ w b (bind (binding_made l (path_in c₁.bytes b₁ place) span ∷ []))) where
  -- the binding, once the label is there
  bound_at : (k : Context) (p : List ℕ) (s : State) → Represents (with_place (record { at = place; path = p }) k) c₁ w₁ b₁ s
      → Represents (with_place (record { at = place; path = p }) k) d w b (bind (binding_made l p span ∷ []) s)
  bound_at k p s r =
      by_test c₁.short
      (λ z. stays_over (bind (binding_made l p span ∷ []) s) bound.stays z ((bind_grows (binding_made l p span ∷ [])).records s)
      ((bind_grows (binding_made l p span ∷ [])).bytes s) r)
      (λ z.
      subst (λ (q : List ℕ). Represents (with_place (record { at = place; path = p }) k) d w b (bind (binding_made l q span ∷ []) s))
      (place_reads {k = k} {p = record { at = place; path = p }} r z)
      (bound.steps (with_place (record { at = place; path = p }) k) s r z))

  pub label_bound : LabelsAt place c d words bytes w b (λ (p : List ℕ). record { made = binding_made l p span ∷ []; reports = [] })
  unfolding add_part
  label_bound =
      record {
        labels = λ k p s r n.
            rw (labelled_one (binding_made l p span) s)
            (bound_at k p (add_label l s)
            (by_test c.short
            (λ z. stays_over (add_label l s) added.stays z (omega arith) (omega arith) r)
            (λ z. added.steps (with_place (record { at = place; path = p }) k) s r z n)));
      }

-- a macro in its name's place reported, or nothing
pub label_reported : {place : PathAt} {c d : LowerCtx} {words bytes w b : List ℕ} (ds : List Diag) → Lowers c d words bytes w b (emit ds)
    → LabelsAt place c d words bytes w b (λ (p : List ℕ). nothing ds)
label_reported {place} ds h =
    record { labels = λ k p s r n. rw (labelled_report ds s) (h.lowers (with_place (record { at = place; path = p }) k) s r) }

pub label_nothing : {place : PathAt} {c : LowerCtx} {words bytes : List ℕ}
    → LabelsAt place c c words bytes words bytes (λ (p : List ℕ). nothing [])
label_nothing = record { labels = λ k p s r n. rw (labelled_none s) r }

-- one chain after another
pub labels_then : {place : PathAt} {c d e : LowerCtx} {words bytes w b v u : List ℕ} {m n : List ℕ → Made Binding}
    → LabelsAt place c d words bytes w b m → LabelsAt place d e w b v u n
    → LabelsAt place c e words bytes v u (λ (p : List ℕ). and_then (m p) (n p))
labels_then {m = m} {n} x y =
    record {
      labels = λ k p s r h. rw (labelled_then (m p) (n p) s)
          (y.labels k p (labelled_by (m p) s) (x.labels k p s r h) (labelled_node (m p) s h));
    }

-- a label of record r by what the reading of its name answers
module _ {place : PathAt} {c d : LowerCtx} {words bytes w b : List ℕ} (input text : List ℕ) (r : ℕ) (x : Result ℕ Report)
    (h : name_read input text x ≡ name_or_macro (chain_at input text (child_at input r))) where
  pub label_read : LabelsAt place c d words bytes w b (λ (p : List ℕ). labelled p (record_at input text r) (name_read input text x))
      → LabelsAt place c d words bytes w b (λ (p : List ℕ). labelled p (record_at input text r)
      (name_or_macro (chain_at input text (child_at input r))))
  label_read m =
      subst (λ (g : Got (List ℕ)). LabelsAt place c d words bytes w b (λ (p : List ℕ). labelled p (record_at input text r) g)) h m

-- the labels of a chain of parts, by its first record
module _ (words text : List ℕ) (r : ℕ) (later : Trees) (p : List ℕ) where
  pub labels_hit : kind_at words r ≡ label_kind
      → labels_of p (more (record_at words text r) later) ≡ and_then (labelled p (record_at words text r)
      (name_or_macro (chain_at words text (child_at words r)))) (labels_of p later)
  unfolding labels_of record_at
  labels_hit e = simp (eq-eqb (kind_at words r) label_kind e)

  pub labels_miss : (kind_at words r ≡ label_kind → ⊥) → labels_of p (more (record_at words text r) later) ≡ labels_of p later
  unfolding labels_of record_at
  labels_miss e = simp (ne_eqb (kind_at words r) label_kind e)

-- what is done before, one record's, and the rest
pub made_assoc : (x y z : Made Binding) → and_then (and_then x y) z ≡ and_then x (and_then y z)
made_assoc x y z = rw (append_assoc x.made y.made z.made, append_assoc x.reports y.reports z.reports) refl

pub made_nothing : (x : Made Binding) → and_then x (nothing []) ≡ x
made_nothing x = rw (append-nil x.made, append-nil x.reports) refl

-- the labels of the records of a chain that were walked: what they make, and with the rest's what the whole chain makes
pub record LabelsTo (place : PathAt) (c d : LowerCtx) (words bytes w b input text : List ℕ) (parts : ℕ) (left : List ℕ) : Type 0 where
  pub at : AreRecords input left
  pub done : List ℕ → Made Binding
  pub labels : LabelsAt place c d words bytes w b done
  pub whole : (p : List ℕ) → and_then (done p) (labels_of p (trees_of input text left)) ≡ labels_of p (chain_at input text parts)

pub labels_start : {place : PathAt} {c : LowerCtx} {words bytes : List ℕ} (input : List ℕ) → Linked input → (text : List ℕ) (parts : ℕ)
    → At input parts → LabelsTo place c c words bytes words bytes input text parts (numbers_from input parts)
labels_start input l text parts a =
    record {
      at = are_records input l parts a;
      done = λ p. nothing [];
      labels = label_nothing;
      whole = λ p. ap (labels_of p) (chain_is input l text parts a);
    }

module _ {place : PathAt} {c d : LowerCtx} {words bytes w b input text : List ℕ} {parts : ℕ} where
  pub labels_whole : LabelsTo place c d words bytes w b input text parts []
      → LabelsAt place c d words bytes w b (λ (p : List ℕ). labels_of p (chain_at input text parts))
  unfolding labels_of
  labels_whole h =
      record {
        labels = λ k p s m n.
            subst (λ (x : Made Binding). Represents (with_place (record { at = place; path = p }) k) d w b (labelled_by x s))
            (sym (made_nothing (h.done p)) ∙ h.whole p)
            (h.labels.labels k p s m n);
      }

  module _ {r : ℕ} {later : List ℕ} (h : LabelsTo place c d words bytes w b input text parts (r ∷ later)) where
    pub labels_other : (kind_at input r ≡ label_kind → ⊥) → LabelsTo place c d words bytes w b input text parts later
    labels_other e =
        record {
          at = h.at.1;
          done = h.done;
          labels = h.labels;
          whole = λ p. ap (and_then (h.done p)) (sym (labels_miss input text r (trees_of input text later) p e)) ∙ h.whole p;
        }

    pub labels_more : {d₁ : LowerCtx} {v u : List ℕ} → kind_at input r ≡ label_kind
        → LabelsAt place d d₁ w b v u (λ (p : List ℕ). labelled p (record_at input text r)
        (name_or_macro (chain_at input text (child_at input r))))
        → LabelsTo place c d₁ words bytes v u input text parts later
    labels_more e m =
        record {
          at = h.at.1;
          done = λ p. and_then (h.done p) (labelled p (record_at input text r) (name_or_macro (chain_at input text (child_at input r))));
          labels = labels_then h.labels m;
          whole = λ p. made_assoc (h.done p) _ _
              ∙ ap (and_then (h.done p)) (sym (labels_hit input text r (trees_of input text later) p e)) ∙ h.whole p;
        }
