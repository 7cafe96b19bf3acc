-- By the label's first binding, and by what the look-up of the path below it finds (Leading).
use mathlib.Core.Path.{ap, ◌∙◌}
use borrow.Author.Rules.{rules}
use Rattle.std.proofs.Common.{tests}
use Rattle.resolving.specs.declared.resolve.Missing.TheVariants.{NoNodeBelow}
use Rattle.resolving.proofs.Leading.{told, told_missing, no_label_below, no_label_in, answers_below}
use Rattle.resolving.proofs.resolve.resolve_below.Goals as goal

pub returns-in_default : goal.returns-in_default
returns-in_default c =
    let a = c.args in
    (no_label_below a.log.words.now a.log.bytes.now a.label.now a.path.now a.binds c.in_default.ensures _, no_label_in)

pub returns : goal.returns
returns c =
    let n = c.in-Some.found.number in
    answers_below c.in-Some.ensures c.lookup_path-found.result _
    (told (λ code. NoNodeBelow code n) _ c.map_err.ensures.cases (λ e d p. search (rules, tests))
    ∙ ap (told_missing (λ code. NoNodeBelow code n)) c.node_found.ensures)
    (rw c.second_text-base.ensures at c.lookup_path-found.ensures)
