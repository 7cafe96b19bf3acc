use Rattle.std.proofs.Common.{sym, refl}
use Rattle.short_paths.specs.machine.Front.{front_of}
use Rattle.short_paths.proofs.short.front.Goals as goal

pub returns-then-is_root : goal.returns-then-is_root
unfolding front_of
returns-then-is_root c = rw (sym c.if-is_root.ensures) refl

pub returns : goal.returns
unfolding front_of
returns c = rw (sym c.if-is_root.ensures) refl
