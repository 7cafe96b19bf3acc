-- By the links in order.
use Rattle.input.proofs.RowsMarks.{links_first, links_second, links_third}
use Rattle.input.proofs.refusal.bad_links.Goals as goal

pub returns-then-bad_link : goal.returns-then-bad_link
returns-then-bad_link c =
    let a = c.args in
    links_first a.records.words.now a.r _ _ c.next_at-next.ensures
    c.child_at-child.ensures _ c.bad_link.ensures c.if-bad_link.true

pub returns-then-bad_link-2 : goal.returns-then-bad_link-2
returns-then-bad_link-2 c =
    let a = c.args in
    links_second a.records.words.now a.r _ _ c.next_at-next.ensures
    c.child_at-child.ensures _ c.bad_link.ensures _
    c.bad_link-2.ensures c.if-bad_link.false c.if-bad_link-2.true

pub returns : goal.returns
returns c =
    let a = c.args in
    links_third a.records.words.now a.r _ _
    c.next_at-next.ensures
    c.child_at-child.ensures _
    c.bad_link.ensures _
    c.bad_link-2.ensures _ _ c.second_at.ensures c.bad_link-3.ensures
    c.if-bad_link.false c.if-bad_link-2.false
