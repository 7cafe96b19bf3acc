-- As mir::lies_under (Strip); what a slice begins with is not longer, so its length is not cut (Lengths: kept).
use Rattle.std.proofs.Common.{ℕ, eqb, length, get_or, sym, ap, ◌∙◌, arith}
use Rattle.paths_numbers.specs.meaning.Byte.{slash}
use Rattle.paths_numbers.specs.meaning.Path.{joined_path, largest_usize}
use Rattle.paths_numbers.proofs.Texts.{begins_length}
use Rattle.paths_numbers.proofs.Lengths.{kept}
use Rattle.paths_numbers.proofs.Strip.{under_no, under_whole, under_root, under_next}
use Rattle.paths_numbers.proofs.dt_node.lies_under_path.Goals as goal

pub returns-then-not-begins_with_path : goal.returns-then-not-begins_with_path
returns-then-not-begins_with_path c =
    let a = c.args in
    sym (under_no a.this.now (joined_path a.path) (sym c.if-not-begins_with_path.ensures))

pub returns-in-None : goal.returns-in-None
returns-in-None c =
    let a = c.args in
    let p = joined_path a.path in
    let e = sym c.if-not-begins_with_path.ensures in
    let n = c.path_len.ensures ∙ kept largest_usize (length p) (omega (arith, begins_length a.this.now p e)) in
    sym (under_whole a.this.now p e (omega (arith, c.in-None.ensures.lookup.3, n)))

pub returns-then-path_is_root : goal.returns-then-path_is_root
returns-then-path_is_root c =
    let a = c.args in
    let p = joined_path a.path in
    let e = sym c.if-not-begins_with_path.ensures in
    let n = c.path_len.ensures ∙ kept largest_usize (length p) (omega (arith, begins_length a.this.now p e)) in
    c.if-path_is_root.true ∙ sym (under_root a.this.now p e (omega (arith, c.in-Some.ensures.lookup.3.0, n)) (sym c.if-path_is_root.ensures))

pub returns-else-path_is_root : goal.returns-else-path_is_root
returns-else-path_is_root c =
    let a = c.args in
    let p = joined_path a.path in
    let e = sym c.if-not-begins_with_path.ensures in
    let g = c.in-Some.ensures.lookup.3 in
    let n = c.path_len.ensures ∙ kept largest_usize (length p) (omega (arith, begins_length a.this.now p e)) in
    ap (λ (b : ℕ). eqb b slash) (g.1 0 ∙ ap (λ (i : ℕ). get_or a.this.now i 0) n)
    ∙ sym (under_next a.this.now p e (omega (arith, g.0, n)) (sym c.if-path_is_root.ensures))
