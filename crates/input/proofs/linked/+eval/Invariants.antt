-- An expression and what it is made of call each other as the nesting runs out.
use Rattle.std.proofs.Common.{◌+◌, ◌*◌}
use Rattle.input.proofs.linked.+eval.Given as goal

abbrev pub decreases-Record::eval : goal.decreases-Record::eval
decreases-Record::eval l = l.nesting * 4

abbrev pub decreases-Chain::eval_binary : goal.decreases-Chain::eval_binary
decreases-Chain::eval_binary l = l.nesting * 4 + 2

abbrev pub decreases-Chain::eval_conditional_at : goal.decreases-Chain::eval_conditional_at
decreases-Chain::eval_conditional_at l = l.nesting * 4 + 1

abbrev pub decreases-Chain::eval_first : goal.decreases-Chain::eval_first
decreases-Chain::eval_first l = l.nesting * 4 + 1

abbrev pub decreases-Record::eval_infix_at : goal.decreases-Record::eval_infix_at
decreases-Record::eval_infix_at l = l.nesting * 4 + 3

abbrev pub decreases-Record::eval_prefix_at : goal.decreases-Record::eval_prefix_at
decreases-Record::eval_prefix_at l = l.nesting * 4 + 2

abbrev pub decreases-Record::eval_second : goal.decreases-Record::eval_second
decreases-Record::eval_second l = l.nesting * 4 + 1
