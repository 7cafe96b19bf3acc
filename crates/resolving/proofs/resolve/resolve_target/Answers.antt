-- By what the number of the reference names (Targets).
use mathlib.Core.Path.{ap, ◌∙◌}
use Rattle.definition_log.specs.meaning.Record.{second_text}
use Rattle.paths_numbers.specs.meaning.Reference.{kind_number}
use Rattle.paths_numbers.specs.declared.phandle.MirPhandleTarget.TheVariants as K
use Rattle.resolving.proofs.Targets.{answers_label, answers_both, answers_path, answers_none}
use Rattle.resolving.proofs.resolve.resolve_target.Goals as goal

pub returns-in-Ok-Label : goal.returns-in-Ok-Label
returns-in-Ok-Label c = let a = c.args in
    let l = c.first_text-label.ensures in
    let t = second_text a.log.words.now a.log.bytes.now a.r in
    answers_label a.log.words.now a.log.bytes.now a.r _ c.out_field-n.ensures a.binds a.defs _
    (c.in-Ok-Label.ensures ∙ ap kind_number c.in-Ok-Label.field-0-is)
    (rw l at (c.resolve_label.ensures.0 t)) (rw l at (c.resolve_label.ensures.1 t a.defs))

pub returns-in-Ok-LabelPath : goal.returns-in-Ok-LabelPath
returns-in-Ok-LabelPath c = let a = c.args in
    let l = c.first_text-label.ensures in
    let p = c.second_text-path.ensures in
    answers_both a.log.words.now a.log.bytes.now a.r _ c.out_field-n.ensures a.binds a.defs _
    (c.in-Ok-LabelPath.ensures ∙ ap kind_number c.in-Ok-LabelPath.field-0-is)
    (rw (l, p) at c.resolve_below.ensures.0) (rw (l, p) at c.resolve_below.ensures.1)

pub returns-in-Ok-Path : goal.returns-in-Ok-Path
returns-in-Ok-Path c = let a = c.args in
    let p = c.second_text-path.ensures in
    answers_path a.log.words.now a.log.bytes.now a.r _ c.out_field-n.ensures a.binds a.defs _
    (c.in-Ok-Path.ensures ∙ ap kind_number c.in-Ok-Path.field-0-is)
    (λ l. rw p at (c.resolve_path.ensures.0 l)) (λ l k. rw p at (c.resolve_path.ensures.1 l k))

pub returns-in-Err : goal.returns-in-Err
returns-in-Err c = let a = c.args in
    answers_none a.log.words.now a.log.bytes.now a.r _ c.out_field-n.ensures a.binds a.defs
    (c.in-Err.ensures K.Label) (c.in-Err.ensures K.LabelPath) (c.in-Err.ensures K.Path)
