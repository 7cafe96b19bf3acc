-- There is room where the path's length fits behind `at`; a length that is cut fits in no slice (Lengths: cut_le, uncut).
use Rattle.std.proofs.Common.{length, arith, ◌∙◌}
use Rattle.paths_numbers.specs.meaning.Path.{joined_path, largest_usize}
use Rattle.paths_numbers.proofs.Lengths.{cut_le, uncut}
use Rattle.paths_numbers.proofs.Written.{no_room_lem, room}
use Rattle.paths_numbers.proofs.dt_node.build_path.Goals as goal

pub returns-in_err-room : goal.returns-in_err-room
returns-in_err-room c =
    let a = c.args in
    let f = c.in_err-room.ensures in
    let told = no_room_lem (joined_path a.path) a.out.now a.at (omega arith) in
    record { result_value = c.from_residual.ensures ∙ told.0; out_after = told.1 }

pub returns-then-room-n : goal.returns-then-room-n
returns-then-room-n c =
    let a = c.args in
    let p = joined_path a.path in
    let told = no_room_lem p a.out.now a.at (omega (arith, cut_le largest_usize (length p) _ c.path_len-n.ensures)) in
    record { result_value = told.0; out_after = told.1 }

pub write_path-requires : goal.write_path-requires
write_path-requires c =
    let a = c.args in
    let p = joined_path a.path in
    omega (arith, uncut largest_usize (length p) _ c.path_len-n.ensures (omega arith))

pub returns : goal.returns
returns c =
    let a = c.args in
    let p = joined_path a.path in
    let n = uncut largest_usize (length p) _ c.path_len-n.ensures (omega arith) in
    let told = room p a.out.now a.at _ _ n c.write_path.ensures (omega (arith, n)) in
    record { result_value = told.0; out_after = told.1 }
