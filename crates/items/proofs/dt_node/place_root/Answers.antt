-- Inside a node, or on top (NodePlaced).
use mathlib.Core.Bool.{true, false}
use Rattle.std.proofs.Common.{rules}
use mathlib.Core.List.{[], ◌∷◌}
use Rattle.paths_numbers.specs.meaning.Path.{root}
use Rattle.input.specs.meaning.Report.{report}
use Rattle.input.specs.meaning.Name.{node_name_span}
use Rattle.items.specs.meaning.Lower.{placed_as}
use Rattle.input.specs.meaning.Input.{child_at, span_at, chain_at}
use Rattle.items.proofs.NodePlaced.{places_at, places_nowhere, root_inside_lem, root_on_top}
use Rattle.items.proofs.dt_node.place_root.Goals as goal

pub returns-then-not-is_top : goal.returns-then-not-is_top
returns-then-not-is_top c =
    let s = c in
    let words = s.args.node.input.words.now in
    let text = s.args.node.input.text.now in
    let name_span = node_name_span (chain_at words text (child_at words s.args.node.number)) (span_at words s.args.node.number) in
    rw c.placed_nowhere.ensures (places_nowhere (λ p. placed_as p root name_span []) (report 6 [] name_span ∷ []) false
    (search rules)
    (λ p q. root_inside_lem name_span p q) c.refuse_node.ensures)

pub returns : goal.returns
returns c =
    let s = c in
    let words = s.args.node.input.words.now in
    let text = s.args.node.input.text.now in
    let name_span = node_name_span (chain_at words text (child_at words s.args.node.number)) (span_at words s.args.node.number) in
    rw c.placed_at.ensures (places_at (λ p. placed_as p root name_span []) true (search rules)
    (λ p q. root_on_top name_span p q) (c.define_there.ensures s.args.parent))
