-- A kind is among those of its place (RowsLoops).
use mathlib.Core.Path.{ap, ◌∙◌}
use Prim.Native.Nat.{ℕ}
use mathlib.Core.List.{List}
use lib.Dec.{eqb}
use Rattle.paths_numbers.specs.meaning.Lists.{any}
use Rattle.input.specs.meaning.Place.{fits}
use Rattle.input.proofs.RowsLoops.{any_contains}
use Rattle.input.proofs.place.fits_place.Goals as goal

pub returns : goal.returns
unfolding fits
returns c =
    c.contains.ensures.value ∙ any_contains c.args.kind _ ∙ ap (λ (l : List ℕ). any (eqb c.args.kind) l) c.kinds.ensures
