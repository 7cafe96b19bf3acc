-- The exact node first, then the second rule, for the root and what is behind its "/".
use mathlib.Core.Path.{refl, sym, ◌∙◌}
use native.Mathlib.Omega.{arith}
use Rattle.std.proofs.lemmas.Bool.Decides.{nat_tests}
use Rattle.definition_log.specs.meaning.ReadBack.{read_defs}
use Rattle.short_paths.proofs.Form.{root_front, root_form, no_slash}
use Rattle.queries.proofs.Fronts.{first_slash}
use Rattle.queries.proofs.LookedUp.{exact, no_form, short}
use Rattle.queries.proofs.lookup.lookup_in.Goals as goal

pub returns-then-contains_node_in : goal.returns-then-contains_node_in
returns-then-contains_node_in c =
    let a = c.args in (
      exact a.path.now (read_defs a.log.words.now a.log.bytes.now a.first)
          (sym c.contains_node_in.ensures ∙ c.if-contains_node_in.true),
      refl,
    )

pub returns-in_default : goal.returns-in_default
returns-in_default c =
    let a = c.args in
    let d = read_defs a.log.words.now a.log.bytes.now a.first in
    let n = sym c.contains_node_in.ensures ∙ c.if-contains_node_in.false in
    (no_form a.path.now d n (no_slash a.path.now (λ l. absurd (omega (arith, l, c.in_default.len_below)))), refl)

pub returns-in_default-2 : goal.returns-in_default-2
returns-in_default-2 c =
    let a = c.args in
    let d = read_defs a.log.words.now a.log.bytes.now a.first in
    let n = sym c.contains_node_in.ensures ∙ c.if-contains_node_in.false in
    (no_form a.path.now d n (no_slash a.path.now (λ l e. grind (arith, nat_tests))), refl)

pub returns-then-not-has_components : goal.returns-then-not-has_components
returns-then-not-has_components c =
    let a = c.args in
    let d = read_defs a.log.words.now a.log.bytes.now a.first in
    let n = sym c.contains_node_in.ensures ∙ c.if-contains_node_in.false in
    let f = first_slash a.path.now (λ z. omega (arith, z, c.in-47.len_at_least)) (grind (arith, nat_tests)) in
    let r = rw f.1 at (root_form a.path.now f.0) in
    (no_form a.path.now d n (sym r ∙ sym c.has_components.ensures ∙ c.if-not-has_components.true), refl)

pub returns : goal.returns
returns c =
    let a = c.args in
    let n = sym c.contains_node_in.ensures ∙ c.if-contains_node_in.false in
    let f = first_slash a.path.now (λ z. omega (arith, z, c.in-47.len_at_least)) (grind (arith, nat_tests)) in
    let r = rw f.1 at (root_form a.path.now f.0) in
    let o = rw f.1 at (root_front a.path.now f.0) in
    short a.log.words.now a.log.bytes.now a.first a.path.now _ c.short_node.result (sym o) n
    (sym r ∙ sym c.has_components.ensures ∙ c.if-not-has_components.false) c.short_node.ensures
