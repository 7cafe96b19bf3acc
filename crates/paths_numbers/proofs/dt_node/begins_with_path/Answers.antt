-- A slice is shorter than a length that is cut, so that its bytes are compared with all of the path (Lengths: cut_le, uncut).
use Rattle.std.proofs.Common.{◌≡◌, false, leb, length, take, sym, ap, ◌∙◌, arith}
use Rattle.paths_numbers.specs.meaning.Text.{begins}
use Rattle.paths_numbers.specs.meaning.Path.{joined_path, largest_usize}
use Rattle.paths_numbers.proofs.Texts.{begins_short}
use Rattle.paths_numbers.proofs.Compared.{begins_taken}
use Rattle.paths_numbers.proofs.Lengths.{cut_le, uncut}
use Rattle.paths_numbers.proofs.dt_node.begins_with_path.Goals as goal

pub returns-then-n-this : goal.returns-then-n-this
returns-then-n-this c =
    let a = c.args in
    let p = joined_path a.path in
    let n = uncut largest_usize (length p) _ c.path_len-n.ensures (omega arith) in
    c.has_front.ensures ∙ ap (λ k. begins p (take k a.this.now)) n ∙ begins_taken a.this.now p (omega arith)

pub returns-else-n-this : goal.returns-else-n-this
returns-else-n-this c =
    let a = c.args in
    let p = joined_path a.path in
    let longer : leb c.path_len-n.result (length a.this.now) ≡ false = grind arith in
    longer ∙ sym (begins_short a.this.now p (omega (arith, cut_le largest_usize (length p) _ c.path_len-n.ensures)))
