-- In a state that ran short nothing; else by what the reference is read as (Directives).
use mathlib.Core.Option.{some}
use Rattle.definition_log.specs.machine.Parts.{meant}
use Rattle.input.specs.machine.OfRecord.{tree_of}
use Rattle.items.proofs.Deleting.{short_lowers}
use Rattle.items.proofs.Directives.{reference_grows, a_reference_lem}
use Rattle.items.proofs.item.delete_referenced.Goals as goal

pub returns-then-ctx : goal.returns-then-ctx
returns-then-ctx c =
    let a = c.args in
    short_lowers c.if-ctx.true (reference_grows (meant a.span) (some (tree_of a.reference)))

pub returns-in-Ok : goal.returns-in-Ok
returns-in-Ok c =
    let a = c.args in
    a_reference_lem a.reference (meant a.span) _ c.lower_phandle.ensures (rw c.in-Ok.is c.delete_target.ensures)

pub returns-in-Err : goal.returns-in-Err
returns-in-Err c =
    let a = c.args in
    a_reference_lem a.reference (meant a.span) _ c.lower_phandle.ensures (rw c.in-Err.is c.emit_report.ensures)
