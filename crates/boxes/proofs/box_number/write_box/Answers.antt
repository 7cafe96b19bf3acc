-- A length that is one is at most 8; a number that does not fit its length is refused after that is tried.
use mathlib.Core.Path.{sym, ◌∙◌}
use Rattle.std.proofs.Common.{arith}
use Rattle.std.proofs.lemmas.Grind.{common_steps}
use Rattle.boxes.specs.meaning.Box.{write_number, write_answer}
use Rattle.boxes.proofs.Limits.{length_most}
use Rattle.boxes.proofs.box_number.write_box.Goals as goal

pub fits-requires : goal.fits-requires
fits-requires c = length_most _ (sym c.is_length.ensures ∙ c.if-not-is_length.false)

pub returns-then-not-fits-clause-result_value : goal.returns-then-not-fits-clause-result_value
unfolding write_answer write_number
returns-then-not-fits-clause-result_value c = grind (arith, common_steps)
