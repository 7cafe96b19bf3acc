-- By the label's first binding (Leading).
use Rattle.resolving.proofs.Leading.{leads_label, no_label, label_in_lem, no_label_in}
use Rattle.resolving.proofs.resolve.resolve_label.Goals as goal

pub returns-in_default : goal.returns-in_default
returns-in_default c =
    let a = c.args in
    (λ p. no_label a.log.words.now a.log.bytes.now a.label.now p a.binds c.in_default.ensures, λ p k. no_label_in)

pub returns : goal.returns
returns c =
    let a = c.args in
    (λ p. leads_label a.log.words.now a.log.bytes.now a.label.now p c.in-Some.ensures, λ p k. label_in_lem c.in-Some.ensures)
