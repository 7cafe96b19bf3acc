-- By what the reading of its name answers (Labels).
use Rattle.input.specs.machine.At.{record_at}
use Rattle.items.proofs.Labels.{label_bound, label_reported, label_read}
use Rattle.items.proofs.open_node.lower_label.Goals as goal

pub returns-in-Ok : goal.returns-in-Ok
unfolding record_at
returns-in-Ok c =
    let a = c.args in
    label_read a.part.input.words.now a.part.input.text.now a.part.number
    c.name_or_macro.result
    (rw (c.parts.ensures.input, c.parts.ensures.next) at (c.name_or_macro.ensures a.part.input.text.now))
    (rw c.in-Ok.is (rw (
      c.text_at-label.ensures,
      c.span-span.ensures,
    )
    at (label_bound _ _ c.add_label-added.ensures
    c.bind.ensures)))

pub returns-in-Err : goal.returns-in-Err
returns-in-Err c =
    let a = c.args in
    label_read a.part.input.words.now a.part.input.text.now a.part.number
    c.name_or_macro.result
    (rw (c.parts.ensures.input, c.parts.ensures.next) at (c.name_or_macro.ensures a.part.input.text.now))
    (rw c.in-Err.is (label_reported _ c.emit_report.ensures))
