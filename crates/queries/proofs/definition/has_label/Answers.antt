-- One of the labels is the same (Chain: any_map).
use mathlib.Core.Path.{◌∙◌}
use borrow.Author.Rules.{rules}
use Rattle.std.proofs.Common.{tests}
use Rattle.std.proofs.lemmas.Iterator.Search.{any_from_yields_List}
use Rattle.std.proofs.lemmas.Iterator.Consumers.{YieldsList-from_first}
use Rattle.definition_log.specs.meaning.Record.{first_text}
use Rattle.definition_log.specs.meaning.ReadBack.{read_labels, chain_of}
use Rattle.definition_log.specs.machine.ChainLeft.{chain_left}
use Rattle.paths_numbers.specs.meaning.Text.{same}
use Rattle.queries.proofs.Chain.{any_map}
use Rattle.queries.proofs.definition.has_label.Goals as goal

pub returns : goal.returns
unfolding read_labels
returns c =
    let a = c.args in
    any_from_yields_List (λ r. same a.label.now (first_text a.log.words.now a.log.bytes.now r)) c.any.new.self _ _ c.any.ensures.ran
    (YieldsList-from_first (λ x. x) chain_left (chain_of a.log.words.now a.first) c.chain.ensures)
    (λ x b q k. search (rules, tests))
    ∙ any_map (same a.label.now) (first_text a.log.words.now a.log.bytes.now) (chain_of a.log.words.now a.first)
