-- Rows 1 to 6 refuse, or 14 does, and all is left; or the accepted input is lowered, whose links go up, of files that are few.
use mathlib.Core.Path.{refl, sym, ◌∙◌}
use Rattle.std.proofs.Common.{rules}
use Rattle.std.proofs.lemmas.Result.{err_from_is_err_and}
use Rattle.files.proofs.Starts.{good_few}
use Rattle.input.proofs.Rows.{accepted_linked}
use Rattle.lowering.specs.meaning.Lowered.{turned_down}
use Rattle.lowering.proofs.lower.lower.Goals as goal

pub invariant_of-lower_files : goal.invariant_of-lower_files
invariant_of-lower_files c =
    let a = c.args in
    record { linked = accepted_linked a.words.now a.text.now (sym c.in_ok-check_input.ensures) }

pub invariant_of-lower_files-2 : goal.invariant_of-lower_files-2
invariant_of-lower_files-2 c = record { few = good_few c.args.starts.now (sym c.good_files.ensures ∙ c.if-not-good_files.false) }

pub returns-in_err-check_input-clause-lowered : goal.returns-in_err-check_input-clause-lowered
returns-in_err-check_input-clause-lowered c =
    let p = err_from_is_err_and c.from_residual.result c.from_residual.ensures.1 in
    rw (p.1, p.2) (turned_down (search rules) (sym c.in_err-check_input.ensures) refl refl refl)
