-- By whether the log ran short (LoweredWhole).
use mathlib.Core.Path.{refl, ◌∙◌}
use Rattle.lowering.proofs.LoweredWhole.{lowered_short, lowered_done, made_within}
use Rattle.lowering.proofs.lower.lower_files.Goals as goal

pub returns-then-checked : goal.returns-then-checked
returns-then-checked c =
    let s = c in
    let made = c.lower_top-lowered in
    let checks = c.check_mir_post-checked in
    lowered_short s.args.level s.args.files.starts.now s.args.input.words.now s.args.input.text.now made.ensures
    c.start_checks.ensures
    checks.ensures s.requires.level_value s.requires.text_value s.requires.files_value
    (checks.auto.out ∙ made.auto.out)
    (checks.auto.bytes ∙ made.auto.bytes)
    _ c.if-checked.true refl c.clear.ensures.words_after c.clear.ensures.bytes_after

pub put_files-requires : goal.put_files-requires
put_files-requires c =
    let a = c.args in
    made_within a.level a.files.starts.now a.input.words.now a.input.text.now c.lower_top-lowered.ensures
    c.start_checks.ensures c.check_mir_post-checked.ensures c.if-checked.false c.finish.ensures

pub returns : goal.returns
returns c =
    let s = c in
    let made = c.lower_top-lowered in
    let checks = c.check_mir_post-checked in
    lowered_done s.args.level s.args.files.starts.now s.args.input.words.now s.args.input.text.now made.ensures
    c.start_checks.ensures checks.ensures
    s.requires.level_value s.requires.text_value s.requires.files_value
    (checks.auto.out ∙ made.auto.out)
    (checks.auto.bytes ∙ made.auto.bytes)
    _ c.if-checked.false refl c.finish.ensures c.put_files.ensures
