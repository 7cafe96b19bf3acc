-- By the cases of the reference, and whether the width is 32.
use Rattle.std.proofs.lemmas.Result.{err_from_is_err_and}
use Rattle.input.specs.meaning.Property.{reference_cell}
use Rattle.input.specs.meaning.Input.{span_at}
use mathlib.Core.Path.{ap}
use Rattle.input.proofs.linked.Record.reference_cell.Goals as goal

pub returns-in_err-kind : goal.returns-in_err-kind
returns-in_err-kind c =
    let p = err_from_is_err_and c.from_residual.result c.from_residual.ensures.1 in
    rw (p.1, p.2) (ap (reference_cell c.args.size (span_at c.args.self.input.words.now c.args.self.number)) c.in_err-kind.ensures)
