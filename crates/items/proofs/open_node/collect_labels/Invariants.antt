-- Loop invariant: the labels of the records walked, and with the rest's those of the whole chain (Labels: LabelsTo).
use mathlib.Core.Path.{◌≡◌}
use lib.ListN.{length}
use Rattle.input.specs.machine.ChainLeft.{chain_left}
use Rattle.items.proofs.Labels.{LabelsTo}
use Rattle.items.proofs.open_node.collect_labels.Given as goal

abbrev pub invariant-loop-r : goal.invariant-loop-r
invariant-loop-r l =
    (length l.out ≡ length l.initial.out) × (length l.bytes ≡ length l.initial.bytes)
    × LabelsTo l.place l.initial.state l.state l.initial.out l.initial.bytes l.out l.bytes l.parts.input.words.now l.parts.input.text.now
    l.parts.next (chain_left l.r-iterator)
