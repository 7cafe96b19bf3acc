-- The lengths of the name, "@" and the unit address, cut as their sum is (Joined: unit_none, unit_length; Lengths: kept, cut_min, cut_sum).
use Rattle.std.proofs.Common.{◌+◌, length, sym, ap, ◌∙◌, arith, eqb-true}
use borrow.Author.Tests.{eqb-false}
use Rattle.paths_numbers.specs.meaning.Path.{largest_usize, at_most}
use Rattle.paths_numbers.proofs.Joined.{unit_none, unit_length}
use Rattle.paths_numbers.proofs.Lengths.{kept, cut_min, cut_sum}
use Rattle.paths_numbers.proofs.dt_node.name_len.Goals as goal

pub returns-then-is_empty : goal.returns-then-is_empty
returns-then-is_empty c =
    rw (unit_none _ _ (eqb-true _ _ (sym c.if-is_empty.ensures))) (sym (kept largest_usize (length c.args.name.now) (omega arith)))

pub returns : goal.returns
returns c =
    let a = c.args in
    let n = length a.name.now + 1 in
    let u = length a.unit.now in
    c.saturating_add-2.ensures
    ∙ cut_min largest_usize _
    ∙ cut_sum largest_usize n u _ _ (c.saturating_add.ensures ∙ cut_min largest_usize n) (sym (kept largest_usize u (omega arith)))
    ∙ ap (at_most largest_usize) (sym (unit_length _ _ (eqb-false _ _ (sym c.if-is_empty.ensures))))
