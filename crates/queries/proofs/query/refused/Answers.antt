-- Row 8, then row 9 (QueryAnswers).
use mathlib.Core.Path.{refl}
use Rattle.std.proofs.lemmas.Result.{err_from_is_err_and}
use Rattle.definition_log.proofs.Answers.{refused_number}
use Rattle.queries.proofs.QueryAnswers.{refused_log_lem, refused_path_lem}
use Rattle.queries.proofs.query.refused.Goals as goal

pub returns-in_err-log_refused : goal.returns-in_err-log_refused
returns-in_err-log_refused c =
    let a = c.args in
    let p = err_from_is_err_and c.from_residual.result c.from_residual.ensures.1 in
    rw (p.1, p.2) (refused_log_lem a.log.words.now a.log.bytes.now a.path.now _ c.in_err-log_refused.ensures (refused_number _))

pub returns : goal.returns
returns c =
    let a = c.args in
    refused_path_lem a.log.words.now a.log.bytes.now a.path.now _ c.in_ok-log_refused.ensures _ refl c.path_refused.ensures
