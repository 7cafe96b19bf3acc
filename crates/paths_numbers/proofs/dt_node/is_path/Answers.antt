-- As text::equals, with a length that may be cut (Texts: same_lengths, begins_same; Lengths: uncut, other).
use Rattle.std.proofs.Common.{length, sym, ◌∙◌, arith, ne_eqb}
use Rattle.paths_numbers.specs.meaning.Path.{joined_path, largest_usize}
use Rattle.paths_numbers.proofs.Texts.{same_lengths, begins_same}
use Rattle.paths_numbers.proofs.Lengths.{uncut, other}
use Rattle.paths_numbers.proofs.dt_node.is_path.Goals as goal

pub returns-then-this-path_len : goal.returns-then-this-path_len
returns-then-this-path_len c =
    let a = c.args in
    let p = joined_path a.path in
    let n = uncut largest_usize (length p) _ c.path_len.ensures (omega arith) in
    c.begins_with_path.ensures ∙ begins_same a.this.now p (c.if-this-path_len.true ∙ n)

pub returns-else-this-path_len : goal.returns-else-this-path_len
returns-else-this-path_len c =
    let a = c.args in
    let p = joined_path a.path in
    let n = other largest_usize (length p) _ (length a.this.now) c.path_len.ensures (omega arith)
    (λ e. c.if-this-path_len.false (sym e)) in
    ne_eqb _ _ c.if-this-path_len.false ∙ sym (same_lengths a.this.now p (λ e. n (sym e)))
