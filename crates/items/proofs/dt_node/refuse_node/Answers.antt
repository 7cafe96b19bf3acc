-- One diagnostic (Reported).
use mathlib.Core.Path.{refl, ◌∙◌}
use mathlib.Core.List.{[]}
use Rattle.items.proofs.Reported.{reported}
use Rattle.items.proofs.dt_node.refuse_node.Goals as goal

pub returns : goal.returns
returns c = reported _ [] _ (c.node_name_span-span.ensures c.args.node.input.text.now
    ∙ rw (c.parts.ensures.input, c.parts.ensures.next, c.span.ensures) refl)
    c.emit.ensures
