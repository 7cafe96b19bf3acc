-- By whether there is a unit address (NameRead).
use Rattle.input.proofs.NameRead.{full_alone, full_addressed}
use Rattle.input.proofs.linked.Chain.full_name.Goals as goal

pub returns-in_default : goal.returns-in_default
returns-in_default c = full_alone _ c.name_or_macro-name.result c.name_or_macro-name.ensures _
    c.first_of.ensures c.in_default.is

pub returns : goal.returns
returns c =
    let s = c.args.self in
    let name = c.name_or_macro-name in
    full_addressed s name.result name.ensures _ c.first_of.ensures
    _ c.in-Some.is c.name_or_macro.result
    (λ text. rw (c.parts.ensures.input, c.parts.ensures.next) at (c.name_or_macro.ensures text))
