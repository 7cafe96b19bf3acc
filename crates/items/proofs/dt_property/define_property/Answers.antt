-- A definition of the log, where there is a name (PropertyMade).
use Rattle.items.proofs.PropertyMade.{property_kept_at, property_dropped_at}
use Rattle.items.proofs.dt_property.define_property.Goals as goal

pub returns-in_default : goal.returns-in_default
returns-in_default c = let a = c.args in property_dropped_at a.property a.named c.in_default.is

pub returns : goal.returns
returns c = let a = c.args in
    property_kept_at a.property _ a.named
    c.in-Some.is
    c.span-span.ensures
    (rw (c.parts.ensures.input, c.parts.ensures.next) at
    (c.property_name_span-name_span.ensures a.property.input.text.now))
    c.define.ensures
