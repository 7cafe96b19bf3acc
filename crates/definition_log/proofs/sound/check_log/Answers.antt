-- By the count of words.
use mathlib.Core.Path.{refl, sym, ◌∙◌}
use Rattle.definition_log.specs.meaning.Sound.{soundness}
use Rattle.definition_log.proofs.Reached.{count_most}
use Rattle.definition_log.proofs.sound.check_log.Goals as goal

pub returns-then-wrong_count : goal.returns-then-wrong_count
unfolding soundness
returns-then-wrong_count c = let e = sym c.wrong_count.ensures ∙ c.if-wrong_count.true in rw e refl

pub check_within-requires-2-clause-room : goal.check_within-requires-2-clause-room
check_within-requires-2-clause-room c = count_most c.args.log.words.now
