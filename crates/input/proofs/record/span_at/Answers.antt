-- From the two words of the span.
use mathlib.Core.Path.{refl}
use Rattle.input.proofs.record.span_at.Goals as goal

pub returns : goal.returns
returns c = rw (c.field.ensures, c.field-2.ensures) refl
