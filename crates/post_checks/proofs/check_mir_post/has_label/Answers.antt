use Rattle.std.proofs.Common.{rules, tests}
use Rattle.definition_log.specs.meaning.ReadBack.{binding_at}
use Rattle.post_checks.proofs.check_mir_post.has_label.Goals as goal

pub returns : goal.returns
unfolding binding_at
returns c = search (rules, tests)
