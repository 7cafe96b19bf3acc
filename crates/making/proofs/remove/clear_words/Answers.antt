-- By whether the record lies in the words.
use Rattle.std.proofs.Common.{sym, ◌∙◌, arith, le-leb}
use borrow.Author.Tests.{lt-leb}
use Rattle.making.specs.machine.Removed.{cleared_words}
use Rattle.making.proofs.Puts.{filled}
use Rattle.making.proofs.remove.clear_words.Goals as goal

pub returns-then-end-words : goal.returns-then-end-words
unfolding cleared_words
returns-then-end-words c =
    filled c.args.words.now _ 16 _ _ (c.fill.ensures.after (λ y h. h)) (omega arith) c.if-end-words.true
    ∙ sym (simp (le-leb _ _ c.if-end-words.true))

pub returns-else-end-words : goal.returns-else-end-words
unfolding cleared_words
returns-else-end-words c = simp (lt-leb _ _ c.if-end-words.false)
