-- The last byte is a suffix, or the text has none left.
use Rattle.std.proofs.Common.{sym, ◌∙◌, arith}
use Rattle.std.proofs.lemmas.Bool.Decides.{nat_tests}
use Rattle.paths_numbers.specs.meaning.Number.{is_suffix}
use Rattle.paths_numbers.proofs.Suffixes.{trimmed_suffix, trimmed_other, trimmed_empty}
use Rattle.paths_numbers.proofs.expr_eval.trim_suffixes.Goals as goal

pub loop-s-preserved : goal.loop-s-preserved
unfolding is_suffix
loop-s-preserved c = c.loop-s.invariant ∙ trimmed_suffix _ c.in-117.len_at_least (grind (arith, nat_tests))

pub returns-in_default : goal.returns-in_default
returns-in_default c = trimmed_empty _ c.in_default.len_below ∙ sym c.loop-s.invariant

pub returns-in_default-2 : goal.returns-in_default-2
unfolding is_suffix
returns-in_default-2 c = trimmed_other _ c.in_default.len_at_least (grind (arith, nat_tests)) ∙ sym c.loop-s.invariant
