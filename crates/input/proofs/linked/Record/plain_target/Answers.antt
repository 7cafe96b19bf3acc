-- By whether the reference is raw, and else by its text (PhandleRead).
use mathlib.Core.Path.{sym, ap, ◌∙◌}
use borrow.Author.Tests.{eqb-true, eqb-false}
use lib.ListN.{length}
use Rattle.input.proofs.PhandleRead.{raw_is, empty_is, name_is, read_of}
use Rattle.input.proofs.linked.Record.plain_target.Goals as goal

pub returns-then-number_at-eq-RAW : goal.returns-then-number_at-eq-RAW
returns-then-number_at-eq-RAW c =
    let a = c.args in
    rw (c.ok_or.ensures.value, read_of c.lower_phandle.result, c.lower_phandle.ensures, c.text-name.ensures)
    (raw_is a.self.input.words.now a.self.input.text.now a.self.number (sym c.number_at.ensures ∙ c.if-number_at-eq-RAW.true))

pub returns-then-is_empty : goal.returns-then-is_empty
returns-then-is_empty c =
    let a = c.args in
    empty_is a.self.input.words.now a.self.input.text.now a.self.number (λ e. c.if-number_at-eq-RAW.false (c.number_at.ensures ∙ e))
    (sym (ap length c.text-name.ensures) ∙ eqb-true _ _ (sym c.if-is_empty.ensures))

pub returns : goal.returns
returns c =
    let a = c.args in
    name_is a.self.input.words.now a.self.input.text.now a.self.number (λ e. c.if-number_at-eq-RAW.false (c.number_at.ensures ∙ e))
    (λ e. eqb-false _ _ (sym c.if-is_empty.ensures) (ap length c.text-name.ensures ∙ e))
