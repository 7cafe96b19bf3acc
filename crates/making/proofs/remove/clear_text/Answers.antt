-- By whether the text lies in the bytes.
use Rattle.std.proofs.Common.{sym, ◌∙◌, arith, le-leb}
use borrow.Author.Tests.{lt-leb}
use Rattle.making.specs.machine.Removed.{cleared_text}
use Rattle.making.proofs.Puts.{filled}
use Rattle.making.proofs.remove.clear_text.Goals as goal

pub returns-then-end-bytes : goal.returns-then-end-bytes
unfolding cleared_text
returns-then-end-bytes c =
    let a = c.args in
    filled a.bytes.now a.start a.size _ _ (c.fill.ensures.after (λ y h. h)) (omega arith) c.if-end-bytes.true
    ∙ sym (simp (le-leb _ _ c.if-end-bytes.true))

pub returns-else-end-bytes : goal.returns-else-end-bytes
unfolding cleared_text
returns-else-end-bytes c = simp (lt-leb _ _ c.if-end-bytes.false)
