-- A number that names no kind of reference is neither that of a label nor that of a label and a path.
use mathlib.Core.Path.{refl, ◌∙◌}
use borrow.Author.Tests.{ne_eqb}
use Rattle.definition_log.specs.meaning.Record.{n_of}
use Rattle.paths_numbers.specs.declared.phandle.MirPhandleTarget.TheVariants as K
use Rattle.post_checks.proofs.check_phandles.target_place.Goals as goal

pub returns-in-Err : goal.returns-in-Err
returns-in-Err c =
    let n = n_of c.args.out.now c.args.r in
    let a = ne_eqb n 1 (λ q. c.in-Err.ensures K.Label (c.out_field.ensures ∙ q)) in
    let b = ne_eqb n 2 (λ q. c.in-Err.ensures K.LabelPath (c.out_field.ensures ∙ q)) in
    rw (a, b) refl
