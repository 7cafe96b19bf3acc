-- By whether the name is there.
use mathlib.Core.Path.{sym, ◌∙◌}
use Rattle.items.proofs.unbind.named_below.Goals as goal

pub returns-then-not-is_named : goal.returns-then-not-is_named
returns-then-not-is_named c =
    let a = c.args in
    sym (c.is_named.ensures a.words.now a.text.now) ∙ c.if-not-is_named.true

pub returns : goal.returns
returns c =
    let a = c.args in
    (sym (c.is_named.ensures a.words.now a.text.now) ∙ c.if-not-is_named.false, c.name_text.ensures, c.unit_text.ensures)
