-- The exact node first, then the second rule.
use mathlib.Core.Path.{refl, sym, ◌∙◌}
use mathlib.Core.List.{[]}
use Rattle.paths_numbers.specs.meaning.Path.{joined}
use Rattle.definition_log.specs.meaning.ReadBack.{read_defs}
use Rattle.short_paths.proofs.Form.{front_joined}
use Rattle.queries.proofs.LookedUp.{exact, no_form, short}
use Rattle.queries.proofs.lookup.lookup_path.Goals as goal

pub returns-then-contains_node_in : goal.returns-then-contains_node_in
returns-then-contains_node_in c =
    let a = c.args in
    let p = joined a.parent.now a.name.now [] in
    let d = read_defs a.log.words.now a.log.bytes.now a.first in
    (exact p d (sym c.contains_node_in.ensures ∙ c.if-contains_node_in.true), refl)

pub returns-then-not-has_components : goal.returns-then-not-has_components
returns-then-not-has_components c =
    let a = c.args in
    let p = joined a.parent.now a.name.now [] in
    let d = read_defs a.log.words.now a.log.bytes.now a.first in
    let n = sym c.contains_node_in.ensures ∙ c.if-contains_node_in.false in
    (no_form p d n (sym c.has_components.ensures ∙ c.if-not-has_components.true), refl)

pub returns : goal.returns
returns c =
    let a = c.args in
    let p = joined a.parent.now a.name.now [] in
    let d = read_defs a.log.words.now a.log.bytes.now a.first in
    let n = sym c.contains_node_in.ensures ∙ c.if-contains_node_in.false in
    let f = sym c.has_components.ensures ∙ c.if-not-has_components.false in
    short a.log.words.now a.log.bytes.now a.first p _ c.short_node.result (front_joined a.parent.now a.name.now f) n f
    c.short_node.ensures
