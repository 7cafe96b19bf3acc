use mathlib.Core.Path.{refl, sym, ap, ◌∙◌}
use Rattle.input.specs.machine.ChainLeft.{chain_left}
use Rattle.items.proofs.Labels.{labels_start, labels_whole, labels_other, labels_more}
use Rattle.items.proofs.open_node.collect_labels.Goals as goal

pub loop-r-init : goal.loop-r-init
loop-r-init c =
    let p = c.args.parts in
    let e = ap chain_left c.into_iter-r-iterator.ensures.into_iter_gives in
    (refl, refl, rw e (labels_start p.input.words.now p.input.linked p.input.text.now p.next p.at))

pub invariant_of-part : goal.invariant_of-part
invariant_of-part c = record { known = (rw c.in-Some.ensures.steps at c.loop-r.invariant).2.at.0.1 }

pub loop-r-preserved-then-kind_at-eq-LABEL : goal.loop-r-preserved-then-kind_at-eq-LABEL
loop-r-preserved-then-kind_at-eq-LABEL c =
    let inv = rw c.in-Some.ensures.steps at c.loop-r.invariant in (
      c.lower_label-state.auto.out ∙ inv.0,
      c.lower_label-state.auto.bytes ∙ inv.1,
      labels_more inv.2 (sym c.kind_at.ensures ∙ c.if-kind_at-eq-LABEL.true) c.lower_label-state.ensures,
    )

pub loop-r-preserved : goal.loop-r-preserved
loop-r-preserved c =
    let inv = rw c.in-Some.ensures.steps at c.loop-r.invariant in
    (inv.0, inv.1, labels_other inv.2 (λ e. c.if-kind_at-eq-LABEL.false (c.kind_at.ensures ∙ e)))

pub returns : goal.returns
returns c = labels_whole (rw c.in-None.ensures.steps.0 at c.loop-r.invariant).2
