-- By whether the binding goes.
use mathlib.Core.Path.{refl, sym, ◌∙◌}
use Rattle.items.specs.machine.Unbinding.{takes, leaves}
use Rattle.items.proofs.unbind.unbind_one.Goals as goal

pub returns-then-goes_with : goal.returns-then-goes_with
returns-then-goes_with c = takes (sym c.goes_with.ensures
    ∙ c.if-goes_with.true) c.unlink_binding.ensures

pub returns : goal.returns
returns c = leaves (sym c.goes_with.ensures ∙ c.if-goes_with.false) refl refl refl
