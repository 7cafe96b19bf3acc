-- By the reference among the parts, else by the name (NodePlaced).
use Rattle.input.proofs.Read.{part_missing, part_there}
use Rattle.items.proofs.NodePlaced.{without_reference, by_reference}
use Rattle.items.proofs.dt_node.place_node.Goals as goal

pub returns-in-Some : goal.returns-in-Some
returns-in-Some c =
    let i = c.args.node.input in
    let p = c.parts.ensures in
    by_reference _ _ _ (part_there i c.args.node.number _ p.input p.next _ _ c.first_of.ensures i.text.now _ c.in-Some.is)
    (c.place_by_reference.ensures c.args.parent)

pub returns-in-None : goal.returns-in-None
returns-in-None c =
    let i = c.args.node.input in
    let p = c.parts.ensures in
    without_reference _ _ (part_missing i c.args.node.number _ p.input p.next _ _ c.first_of.ensures i.text.now c.in-None.is)
    c.place_by_name.ensures
