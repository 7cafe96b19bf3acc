-- By the three readings.
use mathlib.Core.Path.{◌∙◌, refl}
use Rattle.items.proofs.open_node.node_head.Goals as goal

pub returns : goal.returns
returns c =
    let text = c.args.node.input.text.now in
    let part = c.parts-parts.ensures in
    record {
      kind = rw (part.input, part.next) at (c.node_kind.ensures text);
      span = c.span-span.ensures;
      name_span = c.node_name_span.ensures text ∙ rw (part.input, part.next, c.span-span.ensures) refl;
    }
