-- A name, "@" and a unit address are written one behind another (Written: written_joined).
use Rattle.std.proofs.Common.{◌+◌, [], ◌∷◌, length, sym, ap, ◌∙◌, arith, eqb-true}
use borrow.Author.Tests.{eqb-false}
use Rattle.paths_numbers.specs.meaning.Byte.{at_sign}
use Rattle.paths_numbers.specs.meaning.Text.{written}
use Rattle.paths_numbers.proofs.Written.{written_joined, written_length}
use Rattle.paths_numbers.proofs.Joined.{unit_none, unit_some, unit_length, name_within}
use Rattle.paths_numbers.proofs.dt_node.write_name.Goals as goal

pub put-requires : goal.put-requires
put-requires c = let a = c.args in omega (arith, c.requires, name_within a.name.now a.unit.now)

pub returns-then-is_empty : goal.returns-then-is_empty
returns-then-is_empty c =
    let a = c.args in
    c.put.ensures ∙ ap (written a.out.now a.at) (sym (unit_none _ _ (eqb-true _ _ (sym c.if-is_empty.ensures))))

pub put-requires-2 : goal.put-requires-2
put-requires-2 c =
    let a = c.args in
    let n = unit_length a.name.now a.unit.now (eqb-false _ _ (sym c.if-is_empty.ensures)) in
    let k = written_length a.out.now a.at a.name.now (omega (arith, c.requires, n)) in
    rw c.put.ensures (omega (arith, c.requires, n, k))

pub put-requires-3 : goal.put-requires-3
put-requires-3 c =
    let a = c.args in
    let n = unit_length a.name.now a.unit.now (eqb-false _ _ (sym c.if-is_empty.ensures)) in
    let k = written_length a.out.now a.at a.name.now (omega (arith, c.requires, n)) in
    let m = written_length (written a.out.now a.at a.name.now) (a.at + length a.name.now) (at_sign ∷ []) (omega (arith, c.requires, n, k)) in
    rw (c.put-2.ensures, c.put.ensures) (omega (arith, c.requires, n, k, m))

pub returns : goal.returns
returns c =
    let a = c.args in
    let x = eqb-false _ _ (sym c.if-is_empty.ensures) in
    rw (c.put-3.ensures, c.put-2.ensures, c.put.ensures)
    (written_joined a.out.now a.at a.name.now at_sign a.unit.now (omega (arith, c.requires, unit_length a.name.now a.unit.now x))
    ∙ ap (written a.out.now a.at) (sym (unit_some a.name.now a.unit.now x)))
