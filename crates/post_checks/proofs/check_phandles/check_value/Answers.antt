-- By the kind of the value (References).
use Rattle.std.proofs.Common.{rules}
use Rattle.definition_log.specs.meaning.ReadBack.{read_cells}
use Rattle.post_checks.proofs.References.{value_other, value_target, value_cells}
use Rattle.post_checks.proofs.check_phandles.check_value.Goals as goal

pub returns-in-9 : goal.returns-in-9
unfolding read_cells
returns-in-9 c = let a = c.args in
    value_cells a.ctx a.out.now a.bytes.now _ _ a.r _ c.kind_of.ensures c.in-9.is _ c.child_of-first.ensures c.check_parts.ensures

pub returns-in-12 : goal.returns-in-12
returns-in-12 c = let a = c.args in
    value_target a.ctx a.out.now a.bytes.now _ _ a.r _ c.kind_of.ensures c.in-12.is c.check_phandle.ensures

pub returns-in_default : goal.returns-in_default
returns-in_default c = let a = c.args in
    value_other a.ctx a.out.now a.bytes.now _ _ a.r _ c.kind_of.ensures (search rules) (search rules)
