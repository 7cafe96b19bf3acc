-- By the kind of the cell (References).
use Rattle.post_checks.proofs.References.{cell_other, cell_target}
use Rattle.definition_log.specs.machine.Parts.{meant}
use Rattle.post_checks.specs.machine.Checks.{said}
use Rattle.post_checks.proofs.check_phandles.check_cell.Goals as goal

pub returns-then-kind_of-ne-REFERENCE : goal.returns-then-kind_of-ne-REFERENCE
returns-then-kind_of-ne-REFERENCE c = let a = c.args in cell_other a.ctx a.out.now a.bytes.now
    (said a.ctx a.out.now a.bytes.now) (meant a.span) a.r _
    c.kind_of.ensures c.if-kind_of-ne-REFERENCE.true

pub returns : goal.returns
returns c = let a = c.args in cell_target
    a.ctx a.out.now a.bytes.now (said a.ctx a.out.now a.bytes.now) (meant a.span) a.r _
    c.kind_of.ensures
    c.if-kind_of-ne-REFERENCE.false c.check_phandle.ensures
