-- By where the text ends.
use mathlib.Core.Path.{refl}
use Rattle.input.specs.meaning.Rows.{bad_text}
use Rattle.input.proofs.refusal.bad_text.Goals as goal

pub returns : goal.returns
unfolding bad_text
returns c = rw (c.field.ensures, c.field-2.ensures) refl
