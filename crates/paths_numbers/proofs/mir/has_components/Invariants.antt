-- Two "/" in a row were found, or what is left of the path, behind the byte before it, decides (Good: first_byte, next_byte, were_doubled,
-- at_end).
use Rattle.std.proofs.Common.{◌≡◌, ◌-◌, false, cond, eqb, get_or, drop}
use Rattle.paths_numbers.specs.meaning.Byte.{slash}
use Rattle.paths_numbers.specs.meaning.Path.{components}
use Rattle.paths_numbers.proofs.mir.has_components.Given as goal

abbrev pub invariant-loop-i : goal.invariant-loop-i
invariant-loop-i l = components false l.path ≡ cond l.doubled false (components (eqb (get_or l.path (l.i - 1) 0) slash) (drop l.i l.path))
