-- By the cases of the reference.
use Rattle.std.proofs.lemmas.Result.{err_from_is_err_and}
use Rattle.input.specs.meaning.Property.{reference_value}
use mathlib.Core.Path.{ap}
use Rattle.input.proofs.linked.Record.reference_value.Goals as goal

pub returns-in_err-kind : goal.returns-in_err-kind
returns-in_err-kind c =
    let p = err_from_is_err_and c.from_residual.result c.from_residual.ensures.1 in
    λ level. rw (p.1, p.2) (ap reference_value c.in_err-kind.ensures)

pub returns : goal.returns
returns c = λ level. ap reference_value c.in_ok-kind.ensures
