-- By the tests in turn.
use mathlib.Core.Path.{refl, sym, ◌∙◌}
use Rattle.input.specs.meaning.Place.{fits_alone}
use Rattle.input.proofs.place.fits_alone.Goals as goal

pub returns-then-not-fits_place : goal.returns-then-not-fits_place
unfolding fits_alone
returns-then-not-fits_place c = rw (sym c.fits_place.ensures ∙ c.if-not-fits_place.true) refl

pub returns-then-not-w_fits : goal.returns-then-not-w_fits
unfolding fits_alone
returns-then-not-w_fits c =
    rw (
      sym c.fits_place.ensures ∙ c.if-not-fits_place.false,
      sym c.w_fits.ensures
          ∙ c.if-not-w_fits.true,
    ) refl

pub returns : goal.returns
unfolding fits_alone
returns c =
    rw (
      sym c.fits_place.ensures ∙ c.if-not-fits_place.false,
      sym c.w_fits.ensures
          ∙ c.if-not-w_fits.false,
    ) refl
