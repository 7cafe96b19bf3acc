-- The nesting suffices for the operands (Read: some_nesting, parts_shallow).
use Rattle.input.proofs.Read.{some_nesting, parts_shallow}
use Rattle.levels.specs.meaning.Rules.{signed_rules}
use Rattle.input.proofs.Levels.{expression_at}
use Rattle.input.specs.machine.OfRecord.{span_in, parts_of}
use Rattle.input.specs.meaning.Property.{number_cell, outcome_cell}
use Rattle.paths_numbers.specs.meaning.Cell.{bits_of, expr_cell}
use Rattle.paths_numbers.proofs.Integers.{read}
use Rattle.std.proofs.lemmas.Result.{err_from_is_err_and}
use native.Mathlib.Omega.{arith}
use mathlib.Core.Path.{◌∙◌, ap}
use Rattle.input.proofs.linked.Record.expression_cell.Goals as goal

pub returns-then-nesting-eq0 : goal.returns-then-nesting-eq0
returns-then-nesting-eq0 c =
    absurd (omega (arith, some_nesting c.args.self c.args.nesting c.requires.shallow, c.if-nesting-eq0.true))

pub eval_first-requires : goal.eval_first-requires
eval_first-requires c =
    record {
      shallow = rw (c.parts.ensures.input, c.parts.ensures.next) (parts_shallow c.args.self c.args.nesting c.requires.shallow);
    }

pub returns-in_err-z : goal.returns-in_err-z
returns-in_err-z c =
    let a = c.args in
    let r = a.self in
    let p = err_from_is_err_and c.from_residual.result c.from_residual.ensures.1 in
    rw (p.1, p.2)
    (ap (outcome_cell signed_rules a.size (span_in r)) (rw (c.parts.ensures.input, c.parts.ensures.next) at c.in_err-z.ensures)
    ∙ (expression_at a.level a.size (span_in r) (parts_of r)))

pub returns : goal.returns
returns c =
    let a = c.args in
    let r = a.self in
    c.number_cell.ensures r.input.words.now r.input.text.now
    ∙ ap (number_cell (span_in r)) (c.expr_cell.ensures
    ∙ ap (expr_cell (bits_of a.size)) (read (record { sfits = omega arith })))
    ∙ ap (outcome_cell signed_rules a.size (span_in r)) (rw (c.parts.ensures.input, c.parts.ensures.next) at c.in_ok-z.ensures)
    ∙ (expression_at a.level a.size (span_in r) (parts_of r))
