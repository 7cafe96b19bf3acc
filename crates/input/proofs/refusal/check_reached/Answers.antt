-- The rows in turn.
use mathlib.Core.Path.{refl, sym, ap, ◌∙◌}
use Rattle.input.specs.machine.RowsPass.{found_in, rows_from}
use Rattle.input.proofs.refusal.check_reached.Goals as goal

pub returns-in-Some : goal.returns-in-Some
unfolding rows_from
returns-in-Some c = rw (sym (c.first_bad_text.ensures c.args.stands.now) ∙ ap found_in c.in-Some.is) refl

pub returns-in-Some-first_unfit : goal.returns-in-Some-first_unfit
unfolding rows_from
returns-in-Some-first_unfit c =
    rw (
      sym (c.first_bad_text.ensures c.args.stands.now) ∙ ap found_in c.in_default.is,
      sym (c.first_unfit.ensures c.args.text.now) ∙ ap found_in c.in-Some-first_unfit.is,
    ) refl

pub returns-in-Some-first_misnamed : goal.returns-in-Some-first_misnamed
unfolding rows_from
returns-in-Some-first_misnamed c =
    rw (
      sym (c.first_bad_text.ensures c.args.stands.now) ∙ ap found_in c.in_default.is,
      sym (c.first_unfit.ensures c.args.text.now) ∙ ap found_in c.in_default-first_unfit.is,
      sym c.first_misnamed.ensures ∙ ap found_in c.in-Some-first_misnamed.is,
    ) refl

pub returns-in-Some-first_too_deep : goal.returns-in-Some-first_too_deep
unfolding rows_from
returns-in-Some-first_too_deep c =
    rw (
      sym (c.first_bad_text.ensures c.args.stands.now) ∙ ap found_in c.in_default.is,
      sym (c.first_unfit.ensures c.args.text.now) ∙ ap found_in c.in_default-first_unfit.is,
      sym c.first_misnamed.ensures ∙ ap found_in c.in_default-first_misnamed.is,
      sym (c.first_too_deep.ensures c.args.text.now) ∙ ap found_in c.in-Some-first_too_deep.is,
    ) refl

pub returns : goal.returns
unfolding rows_from
returns c =
    rw (
      sym (c.first_bad_text.ensures c.args.stands.now) ∙ ap found_in c.in_default.is,
      sym (c.first_unfit.ensures c.args.text.now) ∙ ap found_in c.in_default-first_unfit.is,
      sym c.first_misnamed.ensures ∙ ap found_in c.in_default-first_misnamed.is,
      sym (c.first_too_deep.ensures c.args.text.now) ∙ ap found_in c.in_default-first_too_deep.is,
    ) refl
