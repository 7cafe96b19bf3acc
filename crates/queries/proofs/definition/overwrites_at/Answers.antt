-- By whether the kind is that of a property or a deleted property.
use mathlib.Core.Path.{◌≡◌, refl, ◌∙◌}
use native.Mathlib.Omega.{arith}
use borrow.Author.Tests.{eq-eqb, ne_eqb, eqb-false}
use lib.Dec.{eqb}
use Rattle.paths_numbers.proofs.Texts.{by_test}
use Rattle.queries.proofs.Records.{overwrites_at}
use Rattle.queries.proofs.definition.overwrites_at.Goals as goal

pub returns-in-2 : goal.returns-in-2
returns-in-2 c =
    let a = c.args in
    c.equals.ensures ∙ rw (overwrites_at a.log.words.now a.log.bytes.now a.r a.path.now, c.first_text.ensures, ← c.kind_of.ensures)
    (by_test (eqb c.kind_of.result 2)
    (λ t. rw t refl)
    (λ t. let n = eqb-false _ _ t in let e : c.kind_of.result ≡ 4 = omega arith in rw (t, eq-eqb _ _ e) refl))

pub returns-in_default : goal.returns-in_default
returns-in_default c =
    let a = c.args in
    rw (overwrites_at a.log.words.now a.log.bytes.now a.r a.path.now, ← c.kind_of.ensures)
    (simp (ne_eqb c.kind_of.result 2 (λ e. grind arith), ne_eqb c.kind_of.result 4 (λ e. grind arith)))
