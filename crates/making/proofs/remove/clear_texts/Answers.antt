-- One text after the other.
use mathlib.Core.Path.{refl, ◌∙◌}
use Rattle.making.specs.machine.Removed.{cleared_texts}
use Rattle.making.proofs.remove.clear_texts.Goals as goal

pub returns : goal.returns
unfolding cleared_texts
returns c = c.clear_text-2.ensures ∙ rw (
  c.clear_text.ensures,
  c.out_field-4.ensures,
  c.out_field-3.ensures,
  c.out_field-2.ensures,
  c.out_field.ensures,
) refl
