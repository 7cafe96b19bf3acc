-- The links are followed in order, the last first.
use mathlib.Core.Path.{refl, ap, ◌∙◌}
use native.Mathlib.Omega.{arith}
use borrow.Author.Tests.{eq-eqb}
use Rattle.input.specs.meaning.Place.{child_place, second_place}
use Rattle.input.specs.machine.RowsPass.{number_of, led_on}
use Rattle.input.proofs.RowsTests.{in_places}
use Rattle.input.proofs.RowsStands.{led_three}
use Rattle.input.proofs.refusal.lead_on.Goals as goal

pub returns-then-stand-eq0 : goal.returns-then-stand-eq0
unfolding led_on
returns-then-stand-eq0 c = rw (eq-eqb _ _ c.if-stand-eq0.true) refl

pub overflow_add-deeper-2 : goal.overflow_add-deeper-2
overflow_add-deeper-2 c =
    omega (arith, c.from.ensures ∙ ap number_of c.second_place.ensures, (in_places (second_place c.kind_at-kind.result)).most)

pub overflow_add-deeper-3 : goal.overflow_add-deeper-3
overflow_add-deeper-3 c =
    omega (
      arith,
      c.from-2.ensures ∙ ap number_of c.child_place.ensures,
      (in_places (child_place
          c.kind_at-kind.result)).most,
    )

pub returns : goal.returns
returns c =
    let a = c.args in
    led_three a.words.now a.r a.stand a.stands.now _ _ _ _ _ _ _ _ _
    c.kind_at-kind.ensures
    c.next_at.ensures
    c.child_at.ensures
    c.second_at.ensures
    (c.from.ensures ∙ ap number_of c.second_place.ensures)
    (c.from-2.ensures ∙ ap number_of c.child_place.ensures)
    c.if-stand-eq0.false
    c.store.ensures
    c.store-2.ensures c.store-3.ensures
