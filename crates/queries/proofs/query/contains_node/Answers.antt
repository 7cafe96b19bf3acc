-- Rows 8 and 9 first, then 1 or 0 (QueryAnswers).
use mathlib.Core.Path.{refl}
use Rattle.std.proofs.lemmas.Result.{err_from_is_err_and}
use Rattle.definition_log.proofs.Answers.{refused_number}
use Rattle.queries.proofs.QueryAnswers.{contains_refused, contains_answered}
use Rattle.queries.proofs.query.contains_node.Goals as goal

pub returns-in_err-refused : goal.returns-in_err-refused
returns-in_err-refused c =
    let a = c.args in
    let p = err_from_is_err_and c.from_residual.result c.from_residual.ensures.1 in
    rw (p.1, p.2) (contains_refused a.log.words.now a.log.bytes.now a.path.now _ c.in_err-refused.ensures (refused_number _))

pub returns : goal.returns
returns c =
    let a = c.args in
    contains_answered a.log.words.now a.log.bytes.now a.path.now _ _ _ c.in_ok-refused.ensures refl c.out_field-first.ensures
    c.contains_node_in.ensures
