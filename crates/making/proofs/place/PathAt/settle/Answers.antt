-- By where the bytes end (PathPlaces).
use Rattle.std.proofs.Common.{le-leb, refl}
use Rattle.making.specs.machine.PathPlaces.{settled, stands}
use Rattle.making.proofs.PathPlaces.{settled_behind, settled_outside}
use Rattle.making.proofs.place.PathAt.settle.Goals as goal
use Rattle.making.proofs.place.PathAt.settle.Goals.{else-end-used-via-then-end-used+else-end-bytes, else-end-used-via-else-end-used}

pub returns-in_default : goal.returns-in_default
unfolding settled
returns-in_default c = rw c.in_default.is refl

pub returns-then-end-bytes : goal.returns-then-end-bytes
unfolding settled stands
returns-then-end-bytes c = rw c.in-Bytes.is (simp (le-leb _ _ c.if-end-used.true, le-leb _ _ c.if-end-bytes.true))

pub returns : goal.returns
returns c =
    let a = c.args in
    rw c.in-Bytes.is
    (elim c.else-end-used.branch [
      | else-end-used-via-then-end-used+else-end-bytes w ↦ settled_outside a.used a.bytes.now _ _ w.if-end-bytes.false
      | else-end-used-via-else-end-used w ↦ settled_behind a.used a.bytes.now _ _ w.if-end-used.false
    ])
