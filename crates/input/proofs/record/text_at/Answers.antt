-- From the two words that say where the text is.
use mathlib.Core.Path.{refl, ◌∙◌}
use Rattle.input.specs.meaning.Input.{text_at}
use Rattle.input.proofs.record.text_at.Goals as goal

pub returns : goal.returns
unfolding text_at
returns c = c.text_in.ensures ∙ rw (c.field.ensures, c.field-2.ensures) refl
