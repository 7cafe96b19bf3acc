-- The empty log, then the top items under the empty path (LoweredWhole); what they ask of the input is what rows 1 to 6 leave (Rows).
use Rattle.input.specs.meaning.Input.{description}
use Rattle.input.proofs.Rows.{accepted_names, accepted_at, accepted_depth}
use Rattle.lowering.proofs.LoweredWhole.{top_lowered}
use Rattle.lowering.proofs.lower.lower_top.Goals as goal

pub chain-items-requires : goal.chain-items-requires
chain-items-requires c =
    let a = c.args in
    record { at = rw c.child_at.ensures (accepted_at a.input.words.now a.input.text.now c.requires) }

pub lower_items-requires-clause-shallow : goal.lower_items-requires-clause-shallow
unfolding description
lower_items-requires-clause-shallow c =
    let a = c.args in
    rw (c.chain-items.ensures.input, c.chain-items.ensures.next, c.child_at.ensures)
    (accepted_depth a.input.words.now a.input.text.now c.requires)

pub lower_items-requires-clause-good : goal.lower_items-requires-clause-good
unfolding description
lower_items-requires-clause-good c =
    let a = c.args in
    rw (c.chain-items.ensures.input, c.chain-items.ensures.next, c.child_at.ensures)
    (accepted_names a.input.words.now a.input.text.now c.requires)

pub returns : goal.returns
returns c =
    let a = c.args in
    top_lowered a.level a.input.words.now a.input.text.now
    c.start-ctx.ensures
    (rw (c.chain-items.ensures.input, c.chain-items.ensures.next, c.child_at.ensures) at c.lower_items.ensures)
