-- The bytes of the name, "@", the bytes of the unit address, and 0 (Joined: name_first, name_end_lem, name_sign, name_unit).
use Rattle.std.proofs.Common.{sym, ◌∙◌, arith}
use lib.ListN.{get_or-eq_default}
use Rattle.paths_numbers.proofs.Joined.{name_first, name_end_lem, name_sign, name_unit}
use Rattle.paths_numbers.proofs.dt_node.name_byte.Goals as goal

pub returns-then-i-name : goal.returns-then-i-name
returns-then-i-name c = name_first _ _ _ c.if-i-name.true

pub returns-then-unit-eq0 : goal.returns-then-unit-eq0
returns-then-unit-eq0 c = name_end_lem _ _ _ c.if-i-name.false c.if-unit-eq0.true

pub returns-then-j-eq0 : goal.returns-then-j-eq0
returns-then-j-eq0 c = name_sign _ _ _ (omega arith) c.if-unit-eq0.false

pub returns-then-j-unit : goal.returns-then-j-unit
returns-then-j-unit c = name_unit _ _ _ (omega arith) c.if-unit-eq0.false

pub returns : goal.returns
returns c =
    let a = c.args in
    sym (get_or-eq_default a.unit.now 0 c.if-j-unit.false) ∙ name_unit _ _ _ (omega arith) c.if-unit-eq0.false
