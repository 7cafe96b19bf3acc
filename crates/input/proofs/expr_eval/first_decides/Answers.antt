-- The number of the operator picks its case of the definition.
use Rattle.std.proofs.Common.{arith}
use mathlib.Core.Path.{refl}
use borrow.Author.Tests.{ne_eqb}
use Rattle.paths_numbers.proofs.Integers.{read}
use Rattle.input.specs.machine.Evaluation.{decides}
use Rattle.paths_numbers.specs.meaning.Expression.{and_op, or_op}
use Rattle.input.proofs.expr_eval.first_decides.Goals as goal

pub returns-in-11 : goal.returns-in-11
unfolding decides
returns-in-11 c = rw (c.in-11.is, c.is_true.ensures, read c.ranges.a) refl

pub returns-in-12 : goal.returns-in-12
unfolding decides
returns-in-12 c = rw (c.in-12.is, c.is_true-in-12.ensures, read c.ranges.a) refl

pub returns-in_default : goal.returns-in_default
unfolding decides
returns-in_default c =
    simp (ne_eqb c.args.op and_op (λ e. omega arith), ne_eqb c.args.op or_op (λ e. omega arith))
