-- Rows 8 and 9 first, then row 10 (QueryAnswers).
use mathlib.Core.Path.{refl, ap, ◌∙◌}
use lib.ListN.{length}
use Rattle.std.proofs.lemmas.Result.{err_from_is_err_and}
use Rattle.definition_log.proofs.Answers.{refused_number}
use Rattle.queries.specs.meaning.Query.{history_answers}
use Rattle.queries.specs.machine.Table.{fitted}
use Rattle.queries.proofs.QueryAnswers.{refused_answer, refused_out, listed_answer, fitted_out, history_of}
use Rattle.queries.proofs.query.history.Goals as goal

pub returns-in_err-refused : goal.returns-in_err-refused
returns-in_err-refused c =
    let a = c.args in
    let x = history_answers a.log.words.now a.log.bytes.now a.path.now in
    let e = c.in_err-refused.ensures in
    let p = err_from_is_err_and c.from_residual.result c.from_residual.ensures.1 in
    record {
      result_value = rw (p.1, p.2) (refused_answer a.log.words.now a.log.bytes.now a.path.now a.list.now x _ e (refused_number _));
      list_after = refused_out a.log.words.now a.log.bytes.now a.path.now a.list.now x _ e (refused_number _);
    }

pub returns : goal.returns
returns c =
    let a = c.args in
    let of = history_of a.log.words.now a.log.bytes.now a.path.now _ c.out_field-first.ensures in
    let e = c.in_ok-refused.ensures in
    let l = c.history_list-count in record {
      result_value = listed_answer a.log.words.now a.log.bytes.now a.path.now a.list.now _ _ e _ _ _ refl (l.ensures.0 ∙ ap length of)
          l.auto.list c.list_answer.ensures;
      list_after = fitted_out a.log.words.now a.log.bytes.now a.path.now a.list.now _ _ e _ refl (l.ensures.1 ∙ ap (fitted a.list.now) of);
    }
