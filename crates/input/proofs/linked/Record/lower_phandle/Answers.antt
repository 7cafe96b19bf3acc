-- By whether there is a macro (PhandleRead).
use mathlib.Core.Path.{◌∙◌}
use Rattle.input.proofs.Read.{part_missing, part_there}
use Rattle.input.proofs.PhandleRead.{macro_is, no_macro}
use Rattle.input.proofs.linked.Record.lower_phandle.Goals as goal

pub returns-in-Some : goal.returns-in-Some
returns-in-Some c =
    let i = c.args.self.input in
    let p = c.parts.ensures in
    macro_is i.words.now i.text.now c.args.self.number _
    (part_there i c.args.self.number _ p.input p.next _ _ c.first_of.ensures i.text.now _ c.in-Some.is)

pub returns : goal.returns
returns c =
    let i = c.args.self.input in
    let p = c.parts.ensures in
    c.plain_target.ensures ∙ no_macro i.words.now i.text.now c.args.self.number
    (part_missing i c.args.self.number _ p.input p.next _ _ c.first_of.ensures i.text.now c.in_default.is)
