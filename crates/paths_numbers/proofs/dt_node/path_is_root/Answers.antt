-- A joined path of one byte is "/" (Joined: joined_one; Lengths: cut_test).
use Rattle.std.proofs.Common.{ℕ, eqb, length, ap, ◌∙◌, arith}
use Rattle.paths_numbers.specs.meaning.Path.{largest_usize, joined_path}
use Rattle.paths_numbers.proofs.Joined.{joined_one}
use Rattle.paths_numbers.proofs.Lengths.{cut_test}
use Rattle.paths_numbers.proofs.dt_node.path_is_root.Goals as goal

pub returns : goal.returns
returns c =
    let a = c.args in
    ap (λ (n : ℕ). eqb n 1) c.path_len.ensures
    ∙ cut_test largest_usize (length (joined_path a.path)) 1 (omega arith)
    ∙ joined_one a.path.parent.now a.path.name.now a.path.unit.now
