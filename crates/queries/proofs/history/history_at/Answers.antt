-- A definition at the path, else a deletion above it while the path is defined.
use Prim.Native.Nat.{ℕ}
use mathlib.Core.Bool.{true, false}
use mathlib.Core.Path.{◌≡◌, refl, sym, ap, ◌∙◌}
use mathlib.Core.List.{List}
use Rattle.paths_numbers.specs.meaning.Text.{same}
use Rattle.paths_numbers.proofs.Texts.{by_test}
use Rattle.definition_log.specs.meaning.ReadBack.{def_at}
use Rattle.queries.specs.meaning.Live.{deletes}
use Rattle.queries.specs.machine.Pass.{is_listed, defined_after}
use Rattle.queries.proofs.Records.{path_at_lem}
use Rattle.queries.proofs.history.history_at.Goals as goal

pub returns-then-equals : goal.returns-then-equals
unfolding is_listed defined_after
returns-then-equals c =
    let a = c.args in
    let s : same (def_at a.log.words.now a.log.bytes.now a.r).path a.path.now ≡ true = ap (λ (p : List ℕ). same p a.path.now)
    (path_at_lem a.log.words.now a.log.bytes.now a.r ∙ sym c.first_text.ensures)
    ∙ sym c.equals.ensures ∙ c.if-equals.true in
    rw (s, c.defined_by.ensures) refl

pub returns-then-not-defined : goal.returns-then-not-defined
unfolding is_listed defined_after
returns-then-not-defined c =
    let a = c.args in
    let s : same (def_at a.log.words.now a.log.bytes.now a.r).path a.path.now ≡ false = ap (λ (p : List ℕ). same p a.path.now)
    (path_at_lem a.log.words.now a.log.bytes.now a.r ∙ sym c.first_text.ensures)
    ∙ sym c.equals.ensures ∙ c.if-equals.false in
    rw (s, c.if-not-defined.true) refl

pub returns : goal.returns
unfolding is_listed defined_after
returns c =
    let a = c.args in
    let s : same (def_at a.log.words.now a.log.bytes.now a.r).path a.path.now ≡ false = ap (λ (p : List ℕ). same p a.path.now)
    (path_at_lem a.log.words.now a.log.bytes.now a.r ∙ sym c.first_text.ensures)
    ∙ sym c.equals.ensures ∙ c.if-equals.false in
    rw (s, c.if-not-defined.false, c.deletes_above-deleted.ensures)
    (by_test (deletes a.path.now (def_at a.log.words.now a.log.bytes.now a.r)) (λ t. rw t refl) (λ t. rw t refl))
