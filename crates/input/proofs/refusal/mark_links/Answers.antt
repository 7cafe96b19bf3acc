-- The links are marked in order.
use Rattle.input.proofs.RowsMarks.{mark_three}
use Rattle.input.proofs.refusal.mark_links.Goals as goal

pub returns : goal.returns
returns c =
    let a = c.args in
    mark_three a.words.now a.r a.marks.now _ _ _ _ _ _
    c.store.ensures
    c.store-2.ensures c.store-3.ensures
    c.next_at.ensures
    c.child_at.ensures
    c.second_at.ensures
