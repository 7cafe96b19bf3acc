-- The sixteen words are written, then the link is set (Records).
use Rattle.std.proofs.Common.{arith}
use Rattle.paths_numbers.proofs.Written.{put_written}
use Rattle.making.proofs.Records.{record_linked, record_alone}
use Rattle.making.proofs.ctx.put_record.Goals as goal

pub returns-then-link-ne0 : goal.returns-then-link-ne0
returns-then-link-ne0 c =
    let a = c.args in
    record_linked a.words.now _ a.number a.at a.first a.second a.link a.rec _ _
    (put_written a.words.now _ _ _ _ c.copy_from_slice.ensures.after (omega arith))
    c.start_of.ensures
    c.start_of-2.ensures
    c.if-link-ne0.true

pub returns-else-link-ne0 : goal.returns-else-link-ne0
returns-else-link-ne0 c =
    let a = c.args in
    record_alone a.words.now _ a.number a.at a.first a.second a.link a.rec _ _
    (put_written a.words.now _ _ _ _ c.copy_from_slice.ensures.after (omega arith))
    c.start_of.ensures
    c.start_of-2.ensures
    c.if-link-ne0.false
