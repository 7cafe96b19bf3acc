-- One of the definitions is a plugin directive (Chain: any_map).
use mathlib.Core.Path.{◌∙◌}
use borrow.Author.Rules.{rules}
use Rattle.std.proofs.Common.{tests}
use Rattle.std.proofs.lemmas.Iterator.Search.{any_from_yields_List}
use Rattle.std.proofs.lemmas.Iterator.Consumers.{YieldsList-from_first}
use Rattle.definition_log.specs.meaning.Contents.{Def}
use Rattle.definition_log.specs.meaning.ReadBack.{chain_of, def_at, read_defs}
use Rattle.definition_log.specs.machine.ChainLeft.{chain_left}
use Rattle.queries.specs.meaning.Kind.{is_plugin, sets_overlay}
use Rattle.queries.proofs.Chain.{any_map}
use Rattle.queries.proofs.Records.{plugin_kind_lem}
use Rattle.queries.proofs.mir.sets_overlay_in.Goals as goal

pub returns : goal.returns
unfolding sets_overlay read_defs
returns c = λ bytes.
    let a = c.args in
    any_from_yields_List (λ r. is_plugin (def_at a.words.now bytes r).value) c.any.new.self _ _ c.any.ensures.ran
    (YieldsList-from_first (λ x. x) chain_left (chain_of a.words.now a.first) c.chain.ensures)
    (λ x b q k. rw (plugin_kind_lem a.words.now bytes x) (search (rules, tests)))
    ∙ any_map (λ (d : Def). is_plugin d.value) (def_at a.words.now bytes) (chain_of a.words.now a.first)
