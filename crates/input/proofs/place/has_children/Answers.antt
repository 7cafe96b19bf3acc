-- By the kinds that fit the place of the children (RowsTests).
use Prim.Native.Nat.{ℕ}
use mathlib.Core.Path.{ap, ◌∙◌}
use mathlib.Core.Bool.{not}
use mathlib.Core.List.{List}
use Rattle.paths_numbers.specs.meaning.Text.{is_empty}
use Rattle.input.specs.meaning.Place.{InputPlace, kinds_in, has_children}
use Rattle.input.proofs.RowsTests.{empty_is}
use Rattle.input.proofs.place.has_children.Goals as goal

pub returns : goal.returns
unfolding has_children
returns c =
    ap not (c.is_empty.ensures ∙ empty_is c.kinds.result.now
    ∙ ap (λ (l : List ℕ). is_empty l) c.kinds.ensures ∙ ap (λ (p : InputPlace). is_empty (kinds_in p)) c.child_place.ensures)
