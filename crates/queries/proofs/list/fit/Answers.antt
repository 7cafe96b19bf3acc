-- The numbers are written one by one if they fit (Numbers).
use Prim.Native.Nat.{◌≤◌}
use mathlib.Core.Path.{refl, sym, ◌∙◌}
use native.Mathlib.Omega.{arith}
use lib.ListN.{length, drop_of_length-le, length-set}
use Rattle.paths_numbers.proofs.Written.{written_nil}
use Rattle.queries.proofs.Numbers.{written_next, fitted_full, fitted_short}
use Rattle.queries.proofs.list.fit.Goals as goal

pub loop-i-init : goal.loop-i-init
loop-i-init c = (refl, refl)

pub loop-i-preserved : goal.loop-i-preserved
loop-i-preserved c =
    let l = c.loop-i in
    (simp length-set l.invariant.0, written_next l.list c.args.numbers.now _ l.i l.invariant.1 (omega arith) (omega arith))

pub returns-after-loop-i : goal.returns-after-loop-i
returns-after-loop-i c =
    let l = c.loop-i in
    let k : length c.args.numbers.now ≤ l.i = omega arith in
    sym (l.invariant.1 ∙ rw (drop_of_length-le c.args.numbers.now k) (written_nil l.list l.i))
    ∙ fitted_full _ _ c.if-numbers-list.true

pub returns-else-numbers-list : goal.returns-else-numbers-list
returns-else-numbers-list c = fitted_short _ _ c.if-numbers-list.false
