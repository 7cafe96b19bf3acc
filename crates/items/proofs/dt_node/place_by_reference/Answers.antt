-- By what the reference is read as (NodeReferenced).
use mathlib.Core.Path.{refl}
use Rattle.input.specs.machine.PhandleRead.{phandle_read}
use Rattle.items.specs.machine.AtRecord.{named_at}
use Rattle.items.proofs.NodeReferenced.{read_named, read_nowhere}
use Rattle.items.proofs.dt_node.place_by_reference.Goals as goal

pub returns-in-Ok : goal.returns-in-Ok
returns-in-Ok c =
    let a = c.args in
    λ parent. read_named _ (phandle_read a.node.input.words.now a.node.input.text.now a.number c.lower_phandle.result)
    c.lower_phandle.ensures (named_at c.in-Ok.kind a.node.input.words.now a.node.input.text.now a.number)
    (rw c.in-Ok.is refl) (c.place_resolved.ensures parent)

pub returns-in-Err : goal.returns-in-Err
returns-in-Err c =
    let a = c.args in
    λ parent. rw c.placed_nowhere.ensures
    (read_nowhere _ (phandle_read a.node.input.words.now a.node.input.text.now a.number c.lower_phandle.result)
    c.lower_phandle.ensures (rw c.in-Err.is refl) (rw c.in-Err.is c.emit_report-told.ensures))
