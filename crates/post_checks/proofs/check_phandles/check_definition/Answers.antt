-- By the kind of the definition (References).
use Rattle.definition_log.specs.meaning.ReadBack.{read_values}
use Rattle.post_checks.proofs.References.{def_other, def_values}
use Rattle.post_checks.proofs.check_phandles.check_definition.Goals as goal

pub returns-then-kind_of-ne-PROPERTY : goal.returns-then-kind_of-ne-PROPERTY
returns-then-kind_of-ne-PROPERTY c = let a = c.args in def_other a.ctx a.out.now a.bytes.now _ _ a.r _
    c.kind_of.ensures c.if-kind_of-ne-PROPERTY.true

pub returns : goal.returns
unfolding read_values
returns c = let a = c.args in def_values a.ctx a.out.now a.bytes.now _ _ a.r _
    c.kind_of.ensures
    c.if-kind_of-ne-PROPERTY.false _
    c.child_of-first.ensures
    (rw c.name_span_of-span.ensures at
    c.check_parts.ensures)
