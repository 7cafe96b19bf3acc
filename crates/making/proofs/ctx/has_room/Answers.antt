-- By each limit in turn.
use Rattle.std.proofs.Common.{◌≡◌, ◌+◌, ◌<◌, arith, le-leb}
use borrow.Author.Tests.{lt-ltb, le-ltb, lt-leb}
use Rattle.definition_log.specs.meaning.Record.{log_count, most_bytes}
use Rattle.making.specs.machine.Made.{has_room}
use Rattle.making.proofs.ctx.has_room.Goals as goal

pub returns-then-log_count-ctx : goal.returns-then-log_count-ctx
unfolding has_room
returns-then-log_count-ctx c = simp (le-ltb _ _ (rw c.log_count.ensures at c.if-log_count-ctx.true))

pub returns-then-end-le-MOST_BYTES : goal.returns-then-end-le-MOST_BYTES
unfolding has_room
returns-then-end-le-MOST_BYTES c =
    let a = c.args in
    let h : a.ctx.records < log_count a.words.now = rw c.log_count.ensures at c.if-log_count-ctx.false in
    let e : c.saturating_add-end.result ≡ a.ctx.bytes + a.size = omega arith in
    rw e (simp (lt-ltb _ _ h, le-leb (a.ctx.bytes + a.size) most_bytes (omega arith)))

pub returns-else-end-le-MOST_BYTES : goal.returns-else-end-le-MOST_BYTES
unfolding has_room
returns-else-end-le-MOST_BYTES c =
    let a = c.args in
    let h : a.ctx.records < log_count a.words.now = rw c.log_count.ensures at c.if-log_count-ctx.false in
    simp (lt-ltb _ _ h, lt-leb (a.ctx.bytes + a.size) most_bytes (omega arith), lt-leb _ _ c.if-end-le-MOST_BYTES.false)
