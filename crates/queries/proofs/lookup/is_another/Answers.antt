-- By each test in turn.
use mathlib.Core.Path.{refl, sym, ap, ◌∙◌}
use mathlib.Core.List.{◌∷◌, ◌++◌}
use Prim.Native.Nat.{ℕ}
use borrow.Author.Tests.{eq-eqb, ne_eqb}
use lib.Dec.{eqb}
use Rattle.paths_numbers.specs.meaning.Byte.{slash}
use Rattle.short_paths.specs.machine.Front.{front_of}
use Rattle.definition_log.specs.meaning.ReadBack.{read_defs}
use Rattle.queries.proofs.Another.{by_tests_lem}
use Rattle.queries.proofs.lookup.is_another.Goals as goal

pub returns-then-kind_of-ne-NODE : goal.returns-then-kind_of-ne-NODE
returns-then-kind_of-ne-NODE c =
    let a = c.args in
    let t = by_tests_lem a.log.words.now a.log.bytes.now (read_defs a.log.words.now a.log.bytes.now a.first)
    (front_of a.parent.now ++ slash ∷ a.name.now) a.found a.r in
    let k = ap (λ (x : ℕ). eqb x 1) (sym c.kind_of.ensures) ∙ ne_eqb _ 1 c.if-kind_of-ne-NODE.true in
    sym (t ∙ rw k refl)

pub returns-then-not-is_elsewhere : goal.returns-then-not-is_elsewhere
returns-then-not-is_elsewhere c =
    let a = c.args in
    let t = by_tests_lem a.log.words.now a.log.bytes.now (read_defs a.log.words.now a.log.bytes.now a.first)
    (front_of a.parent.now ++ slash ∷ a.name.now) a.found a.r in
    let k = ap (λ (x : ℕ). eqb x 1) (sym c.kind_of.ensures)
    ∙ eq-eqb _ 1 c.if-kind_of-ne-NODE.false in
    let w = c.first_text-path.ensures in
    let e = sym (rw w at c.is_elsewhere.ensures) ∙ c.if-not-is_elsewhere.true in
    sym (t ∙ rw (k, e) refl)

pub returns-then-not-may_mean : goal.returns-then-not-may_mean
returns-then-not-may_mean c =
    let a = c.args in
    let t = by_tests_lem a.log.words.now a.log.bytes.now (read_defs a.log.words.now a.log.bytes.now a.first)
    (front_of a.parent.now ++ slash ∷ a.name.now) a.found a.r in
    let k = ap (λ (x : ℕ). eqb x 1) (sym c.kind_of.ensures)
    ∙ eq-eqb _ 1 c.if-kind_of-ne-NODE.false in
    let w = c.first_text-path.ensures in
    let e = sym (rw w at c.is_elsewhere.ensures) ∙ c.if-not-is_elsewhere.false in
    let m = sym (rw w at c.may_mean.ensures) ∙ c.if-not-may_mean.true in
    sym (t ∙ rw (k, e, m) refl)

pub returns-then-not-lies_under : goal.returns-then-not-lies_under
returns-then-not-lies_under c =
    let a = c.args in
    let t = by_tests_lem a.log.words.now a.log.bytes.now (read_defs a.log.words.now a.log.bytes.now a.first)
    (front_of a.parent.now ++ slash ∷ a.name.now) a.found a.r in
    let k = ap (λ (x : ℕ). eqb x 1) (sym c.kind_of.ensures)
    ∙ eq-eqb _ 1 c.if-kind_of-ne-NODE.false in
    let w = c.first_text-path.ensures in
    let e = sym (rw w at c.is_elsewhere.ensures)
    ∙ c.if-not-is_elsewhere.false in
    let m = sym (rw w at c.may_mean.ensures) ∙ c.if-not-may_mean.false in
    let u = sym (rw w at c.lies_under.ensures) ∙ c.if-not-lies_under.true in
    sym (t ∙ rw (k, e, m, u) refl)

pub returns : goal.returns
returns c =
    let a = c.args in
    let t = by_tests_lem a.log.words.now a.log.bytes.now (read_defs a.log.words.now a.log.bytes.now a.first)
    (front_of a.parent.now ++ slash ∷ a.name.now) a.found a.r in
    let k = ap (λ (x : ℕ). eqb x 1) (sym c.kind_of.ensures) ∙ eq-eqb _ 1 c.if-kind_of-ne-NODE.false in
    let w = c.first_text-path.ensures in
    let e = sym (rw w at c.is_elsewhere.ensures)
    ∙ c.if-not-is_elsewhere.false in
    let m = sym (rw w at c.may_mean.ensures)
    ∙ c.if-not-may_mean.false in
    let u = sym (rw w at c.lies_under.ensures) ∙ c.if-not-lies_under.false in
    rw w at c.contains_node_in.ensures ∙ sym (t ∙ rw (k, e, m, u) refl)
