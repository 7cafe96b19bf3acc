-- The texts stand in the front of the bytes, and the path is built at the start of the rest (Written: built_behind).
use Rattle.std.proofs.Common.{arith}
use Rattle.paths_numbers.proofs.Written.{built_behind}
use Rattle.making.proofs.PathPlaces.{path_front, piece_front}
use Rattle.making.proofs.text.write_joined.Goals as goal

pub returns : goal.returns
returns c =
    let a = c.args in
    let p = path_front a.bytes.now a.used a.at a.path (omega arith) (omega arith) in
    let q = piece_front a.bytes.now a.used a.at a.name (omega arith) (omega arith) in
    let cut = c.split_at_mut-front.ensures in
    rw (c.build_path.ensures.out_after, c.joined_in.ensures, cut.front, cut.back, p, q) (built_behind _ a.bytes.now a.at c.requires.1)
