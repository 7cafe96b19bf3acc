-- By the first of the two.
use mathlib.Core.Path.{refl}
use borrow.Author.Tests.{ne_eqb}
use Rattle.paths_numbers.specs.meaning.Expression.{and_op}
use Rattle.input.specs.machine.Evaluation.{is_logical}
use Rattle.input.proofs.expr_eval.is_logical.Goals as goal

pub returns-then-op-eq-AND : goal.returns-then-op-eq-AND
unfolding is_logical
returns-then-op-eq-AND c = rw c.if-op-eq-AND.true refl

pub returns-else-op-eq-AND : goal.returns-else-op-eq-AND
unfolding is_logical
returns-else-op-eq-AND c = rw (ne_eqb c.args.op and_op c.if-op-eq-AND.false) refl
