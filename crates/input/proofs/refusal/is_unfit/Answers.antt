-- By what the record says by itself, then by its child.
use Rattle.input.proofs.RowsTests.{unfit_alone, fit_children, unfit_child}
use Rattle.input.proofs.refusal.is_unfit.Goals as goal

pub returns-then-not-fits_alone : goal.returns-then-not-fits_alone
returns-then-not-fits_alone c =
    let a = c.args in
    unfit_alone a.words.now a.r a.stand _ _ _ _ c.kind_at-kind.ensures c.number_at.ensures c.field.ensures c.field-2.ensures _
    (rw c.from.ensures at c.fits_alone.ensures)
    c.if-not-fits_alone.true

pub returns-then-has_children : goal.returns-then-has_children
returns-then-has_children c =
    let a = c.args in
    fit_children a.words.now a.r a.stand _ _ _ _ c.kind_at-kind.ensures c.number_at.ensures c.field.ensures c.field-2.ensures _
    (rw c.from.ensures at c.fits_alone.ensures)
    c.if-not-fits_alone.false _ c.has_children.ensures c.if-has_children.true

pub returns : goal.returns
returns c =
    let a = c.args in
    unfit_child a.words.now a.r a.stand _ _ _ _ c.kind_at-kind.ensures c.number_at.ensures c.field.ensures c.field-2.ensures _
    (rw c.from.ensures at c.fits_alone.ensures)
    c.if-not-fits_alone.false _ c.has_children.ensures _ c.if-has_children.false c.child_at.ensures
