-- A path that is as long as a slice after the cut is as long before it (Lengths: uncut).
use Rattle.std.proofs.Common.{◌≡◌, false, leb, length, sym, ◌∙◌, arith}
use Rattle.paths_numbers.specs.meaning.Path.{joined_path, largest_usize}
use Rattle.paths_numbers.proofs.Texts.{begins_short}
use Rattle.paths_numbers.proofs.Lengths.{uncut}
use Rattle.paths_numbers.proofs.dt_node.path_begins_with.Goals as goal

pub returns-else-base-path_len : goal.returns-else-base-path_len
returns-else-base-path_len c =
    let a = c.args in
    let p = joined_path a.path in
    let longer : leb (length a.base.now) c.path_len.result ≡ false = grind arith in
    longer ∙ sym (begins_short p a.base.now (omega (arith, uncut largest_usize (length p) _ c.path_len.ensures (omega arith))))
