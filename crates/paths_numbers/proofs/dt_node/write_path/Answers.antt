-- The stem of the parent, "/" and the name are written one behind another (Joined: joined_root, joined_plain; Written: written_joined).
use Rattle.std.proofs.Common.{◌+◌, [], ◌∷◌, length, sym, ap, ◌∙◌, arith}
use Rattle.paths_numbers.specs.meaning.Byte.{slash}
use Rattle.paths_numbers.specs.meaning.Text.{written}
use Rattle.paths_numbers.specs.meaning.Path.{with_unit}
use Rattle.paths_numbers.specs.machine.Limits.{stem}
use Rattle.paths_numbers.proofs.Written.{written_joined, written_length}
use Rattle.paths_numbers.proofs.Joined.{joined_root, joined_plain, joined_length, stem_taken}
use Rattle.paths_numbers.proofs.dt_node.write_path.Goals as goal

pub put-requires : goal.put-requires
put-requires c =
    let a = c.args in
    let e = joined_root a.path.parent.now a.path.name.now a.path.unit.now (sym c.if-name_is_root.ensures) in
    rw e at c.requires

pub returns-then-name_is_root : goal.returns-then-name_is_root
returns-then-name_is_root c =
    let a = c.args in
    c.put.ensures ∙ ap (written a.out.now a.at) (sym (joined_root a.path.parent.now a.path.name.now a.path.unit.now (sym c.if-name_is_root.ensures)))

pub put-requires-2 : goal.put-requires-2
put-requires-2 c =
    let a = c.args in
    let n = joined_length a.path.parent.now a.path.name.now a.path.unit.now (sym c.if-name_is_root.ensures) in
    rw (c.before_slash-k.ensures, stem_taken a.path.parent.now) (omega (arith, c.requires, n))

pub put-requires-3 : goal.put-requires-3
put-requires-3 c =
    let a = c.args in
    let n = joined_length a.path.parent.now a.path.name.now a.path.unit.now (sym c.if-name_is_root.ensures) in
    let k = written_length a.out.now a.at (stem a.path.parent.now) (omega (arith, c.requires, n)) in
    rw (c.put-2.ensures, c.before_slash-k.ensures, stem_taken a.path.parent.now) (omega (arith, c.requires, n, k))

pub write_name-requires : goal.write_name-requires
write_name-requires c =
    let a = c.args in
    let p = stem a.path.parent.now in
    let n = joined_length a.path.parent.now a.path.name.now a.path.unit.now (sym c.if-name_is_root.ensures) in
    let k = written_length a.out.now a.at p (omega (arith, c.requires, n)) in
    let m = written_length (written a.out.now a.at p) (a.at + length p) (slash ∷ []) (omega (arith, c.requires, n, k)) in
    rw (c.put-3.ensures, c.put-2.ensures, c.before_slash-k.ensures, stem_taken a.path.parent.now) (omega (arith, c.requires, n, k, m))

pub returns : goal.returns
returns c =
    let a = c.args in
    let p = stem a.path.parent.now in
    let e = sym c.if-name_is_root.ensures in
    let n = joined_length a.path.parent.now a.path.name.now a.path.unit.now e in
    rw (c.write_name.ensures, c.put-3.ensures, c.put-2.ensures, c.before_slash-k.ensures, stem_taken a.path.parent.now)
    (written_joined a.out.now a.at p slash (with_unit a.path.name.now a.path.unit.now) (omega (arith, c.requires, n))
    ∙ ap (written a.out.now a.at) (sym (joined_plain a.path.parent.now a.path.name.now a.path.unit.now e)))
