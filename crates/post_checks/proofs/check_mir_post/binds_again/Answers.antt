-- One of the bindings binds the label again (Chain: any_map).
use mathlib.Core.Path.{◌∙◌}
use borrow.Author.Rules.{rules}
use Rattle.std.proofs.Common.{tests}
use Rattle.std.proofs.lemmas.Iterator.Search.{any_from_yields_List}
use Rattle.std.proofs.lemmas.Iterator.Consumers.{YieldsList-from_first}
use Rattle.definition_log.specs.meaning.ReadBack.{binding_at}
use Rattle.definition_log.specs.machine.ChainLeft.{chain_left, walk_left}
use Rattle.definition_log.proofs.ChainLeft.{any_map}
use Rattle.post_checks.specs.machine.Checks.{again}
use Rattle.post_checks.proofs.check_mir_post.binds_again.Goals as goal

pub returns : goal.returns
returns c =
    let a = c.args in
    let b = binding_at a.log.words.now a.log.bytes.now in
    any_from_yields_List (λ x. again (b a.r) (b x)) c.any.new.self _ _ c.any.ensures.ran
    (YieldsList-from_first (λ x. x) chain_left (walk_left a.log.words.now a.walk) c.chain_of_most.ensures)
    (λ x b q k. search (rules, tests))
    ∙ any_map (again (b a.r)) b (walk_left a.log.words.now a.walk)
