-- "/" is one byte long; any other path is as long as the stem, "/" and the name, cut as their sum is (Joined: joined_root, joined_length;
-- Lengths: cut_min, cut_sum).
use Rattle.std.proofs.Common.{◌+◌, length, sym, refl, ap, ◌∙◌}
use Rattle.paths_numbers.specs.meaning.Path.{largest_usize, at_most, with_unit}
use Rattle.paths_numbers.specs.machine.Limits.{stem}
use Rattle.paths_numbers.proofs.Joined.{joined_root, joined_length}
use Rattle.paths_numbers.proofs.Lengths.{cut_min, cut_sum}
use Rattle.paths_numbers.proofs.dt_node.path_len.Goals as goal

pub returns-then-name_is_root : goal.returns-then-name_is_root
returns-then-name_is_root c =
    let a = c.args in
    rw (joined_root a.path.parent.now a.path.name.now a.path.unit.now (sym c.name_is_root.ensures ∙ c.if-name_is_root.true)) refl

pub returns : goal.returns
returns c =
    let a = c.args in
    let e = sym c.name_is_root.ensures ∙ c.if-name_is_root.false in
    let k = length (stem a.path.parent.now) + 1 in
    let n = length (with_unit a.path.name.now a.path.unit.now) in
    c.saturating_add-2.ensures
    ∙ cut_min largest_usize _
    ∙ cut_sum largest_usize k n _ _ (rw c.before_slash.ensures at (c.saturating_add.ensures ∙ cut_min largest_usize _))
    c.name_len.ensures
    ∙ ap (at_most largest_usize) (sym (joined_length a.path.parent.now a.path.name.now a.path.unit.now e))
