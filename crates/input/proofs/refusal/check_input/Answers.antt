-- By the rows in turn.
use mathlib.Core.Path.{refl, sym, ap, ◌∙◌}
use native.Mathlib.Omega.{arith}
use Rattle.input.specs.machine.RowsPass.{found_in}
use Rattle.input.proofs.Rows.{sizes}
use Rattle.input.proofs.RowsMarks.{marks_start}
use Rattle.input.proofs.RowsFound.{verdict_one, verdict_two, verdict_later}
use Rattle.input.proofs.refusal.check_input.Goals as goal

pub returns-then-wrong_size : goal.returns-then-wrong_size
returns-then-wrong_size c =
    let a = c.args in
    verdict_one a.words.now a.text.now (sym c.wrong_size.ensures ∙ c.if-wrong_size.true)

-- row 1 leaves as many records as may be
pub overflow_cast-count : goal.overflow_cast-count
overflow_cast-count c =
    let a = c.args in
    let z = sizes a.words.now a.text.now (sym c.wrong_size.ensures ∙ c.if-wrong_size.false) in
    omega (arith, z.most)

pub invariant_of-records : goal.invariant_of-records
invariant_of-records c =
    let a = c.args in
    let z = sizes a.words.now a.text.now (sym c.wrong_size.ensures ∙ c.if-wrong_size.false) in
    record { counted = refl; some = z.least; few = z.most }

pub first_bad_links-requires : goal.first_bad_links-requires
first_bad_links-requires c =
    let a = c.args in
    let z = sizes a.words.now a.text.now (sym c.wrong_size.ensures ∙ c.if-wrong_size.false) in
    marks_start a.words.now _ 2048 refl z.most

pub check_linked-requires : goal.check_linked-requires
check_linked-requires c = sym c.first_bad_links.ensures ∙ ap found_in c.in_default.is

pub returns-in-Some : goal.returns-in-Some
returns-in-Some c =
    let a = c.args in
    verdict_two a.words.now a.text.now _ (sym c.wrong_size.ensures ∙ c.if-wrong_size.false)
    (sym c.first_bad_links.ensures ∙ ap found_in c.in-Some.is)

pub returns : goal.returns
returns c =
    let a = c.args in
    c.check_linked.ensures
    ∙ verdict_later a.words.now a.text.now (sym c.wrong_size.ensures ∙ c.if-wrong_size.false)
    (sym c.first_bad_links.ensures ∙ ap found_in c.in_default.is)
