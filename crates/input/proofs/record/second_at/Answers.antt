-- By the kind.
use mathlib.Core.Path.{refl, sym, ap, ◌∙◌}
use Rattle.input.specs.meaning.Input.{links_by_w, second_at}
use Rattle.input.proofs.record.second_at.Goals as goal

pub returns-then-links_by_w : goal.returns-then-links_by_w
unfolding second_at
returns-then-links_by_w c =
    c.w_at.ensures ∙ rw (ap links_by_w (sym c.kind_at.ensures) ∙ sym c.links_by_w.ensures ∙ c.if-links_by_w.true) refl

pub returns : goal.returns
unfolding second_at
returns c =
    rw (ap links_by_w (sym c.kind_at.ensures) ∙ sym c.links_by_w.ensures ∙ c.if-links_by_w.false) refl
