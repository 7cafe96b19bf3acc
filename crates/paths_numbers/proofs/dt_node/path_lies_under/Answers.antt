-- As mir::lies_under (Strip), with a length that may be cut (Lengths: uncut, other).
use Rattle.std.proofs.Common.{ℕ, eqb, length, sym, ap, ◌∙◌, arith}
use Rattle.paths_numbers.specs.meaning.Byte.{slash}
use Rattle.paths_numbers.specs.meaning.Path.{joined_path, largest_usize}
use Rattle.paths_numbers.proofs.Texts.{begins_length}
use Rattle.paths_numbers.proofs.Lengths.{uncut, other}
use Rattle.paths_numbers.proofs.Strip.{under_no, under_whole, under_root, under_next}
use Rattle.paths_numbers.proofs.dt_node.path_lies_under.Goals as goal

pub returns-then-not-path_begins_with : goal.returns-then-not-path_begins_with
returns-then-not-path_begins_with c =
    let a = c.args in
    sym (under_no (joined_path a.path) a.base.now (sym c.if-not-path_begins_with.ensures))

pub returns-then-path_len-n : goal.returns-then-path_len-n
returns-then-path_len-n c =
    let a = c.args in
    let p = joined_path a.path in
    let n = uncut largest_usize (length p) _ c.path_len.ensures (omega arith) in
    sym (under_whole p a.base.now (sym c.if-not-path_begins_with.ensures) (omega (arith, n, c.if-path_len-n.true)))

pub returns-then-is_root : goal.returns-then-is_root
returns-then-is_root c =
    let a = c.args in
    let p = joined_path a.path in
    let e = sym c.if-not-path_begins_with.ensures in
    let n = other largest_usize (length p) _ _ c.path_len.ensures (omega arith) c.if-path_len-n.false in
    c.if-is_root.true ∙ sym (under_root p a.base.now e (omega (arith, begins_length p a.base.now e, n)) (sym c.if-is_root.ensures))

pub returns-else-is_root : goal.returns-else-is_root
returns-else-is_root c =
    let a = c.args in
    let p = joined_path a.path in
    let e = sym c.if-not-path_begins_with.ensures in
    let n = other largest_usize (length p) _ _ c.path_len.ensures (omega arith) c.if-path_len-n.false in
    ap (λ (b : ℕ). eqb b slash) c.path_byte.ensures
    ∙ sym (under_next p a.base.now e (omega (arith, begins_length p a.base.now e, n)) (sym c.if-is_root.ensures))
