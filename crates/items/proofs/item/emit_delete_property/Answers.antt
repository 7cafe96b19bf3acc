-- By whether there is a name (Directives).
use Rattle.items.proofs.Directives.{no_property, a_property}
use Rattle.items.proofs.item.emit_delete_property.Goals as goal

pub returns-in_default : goal.returns-in_default
returns-in_default c = no_property c.args.parts _ c.first_of.ensures c.args.span c.in_default.is

pub returns : goal.returns
returns c =
    a_property c.args.parts _ c.first_of.ensures c.args.span _ c.in-Some.is c.text_at.ensures c.no_text.ensures c.define.ensures
