-- By whether the reference is raw (PhandleRead).
use mathlib.Core.Path.{sym, ◌∙◌}
use Rattle.input.proofs.PhandleRead.{raw_label, name_label}
use Rattle.input.proofs.phandle.phandle_label_at.Goals as goal

pub returns-then-number_at-eq-RAW : goal.returns-then-number_at-eq-RAW
returns-then-number_at-eq-RAW c =
    let a = c.args in
    c.phandle_label.ensures ∙ rw c.text_at.ensures
    (raw_label a.words.now a.text.now a.r (sym c.number_at.ensures
    ∙ c.if-number_at-eq-RAW.true))

pub returns : goal.returns
returns c =
    let a = c.args in
    c.text_at-2.ensures ∙ name_label a.words.now a.text.now a.r
    (λ e. c.if-number_at-eq-RAW.false (c.number_at.ensures ∙ e))
