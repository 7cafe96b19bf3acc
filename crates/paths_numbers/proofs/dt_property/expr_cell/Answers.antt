-- The expression cell: the cast of a number that is not negative, and of -1 minus one that is (Casts), against the largest of the width
-- (Cells).
use Rattle.std.proofs.Common.{ap, ◌∙◌}
use Rattle.paths_numbers.specs.meaning.Cell.{bits_of, expr_cell}
use Rattle.paths_numbers.proofs.Casts.{plain_is, less_cast_is}
use Rattle.paths_numbers.proofs.Cells.{some_bit, positive_in, positive_out, negative_in, negative_out}
use Rattle.paths_numbers.proofs.dt_property.expr_cell.Goals as goal

pub returns-then-n-most : goal.returns-then-n-most
returns-then-n-most c =
    let s = c.args.size in
    positive_in _ _ _ (some_bit s) c.most-most.ensures c.if-n-most.true
    ∙ ap (expr_cell (bits_of s)) (plain_is c.args.num c.ranges.num c.if-num-ge0.true)

pub returns-then-num-ge0 : goal.returns-then-num-ge0
returns-then-num-ge0 c =
    let s = c.args.size in
    positive_out _ _ _ (some_bit s) c.most-most.ensures c.if-n-most.false
    ∙ ap (expr_cell (bits_of s)) (plain_is c.args.num c.ranges.num c.if-num-ge0.true)

pub returns-then-n-most-2 : goal.returns-then-n-most-2
returns-then-n-most-2 c =
    let s = c.args.size in
    negative_in _ _ _ (some_bit s) c.most-most.ensures c.if-n-most-2.true
    ∙ ap (expr_cell (bits_of s)) (less_cast_is c.args.num c.ranges.num c.if-num-ge0.false)

pub returns : goal.returns
returns c =
    let s = c.args.size in
    negative_out _ _ _ (some_bit s) c.most-most.ensures c.if-n-most-2.false
    ∙ ap (expr_cell (bits_of s)) (less_cast_is c.args.num c.ranges.num c.if-num-ge0.false)
