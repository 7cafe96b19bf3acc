-- The tests are those of `finished`, and the words are written at once (Ending).
use Rattle.std.proofs.Common.{refl, sym, ◌∙◌}
use borrow.Author.Tests.{lt-ltb, le-ltb}
use Rattle.making.specs.machine.Finished.{finished, head16}
use Rattle.making.proofs.Ending.{finishing}
use Rattle.making.proofs.Puts.{front_written}
use Rattle.making.proofs.ctx.LowerCtx.finish.Goals as goal
use Rattle.making.proofs.ctx.LowerCtx.finish.Goals.{then-self-via-then-self, then-self-via-else-self+then-words-lt-RECORD_WORDS}

pub returns-then-self : goal.returns-then-self
unfolding finished
returns-then-self c =
    let a = c.args in
    finishing a.self a.words.now _ a.diags
    (elim c.then-self.branch [
      | then-self-via-then-self w ↦ simp w.if-self.true
      | then-self-via-else-self+then-words-lt-RECORD_WORDS w ↦ simp (w.if-self.false, lt-ltb _ _ w.if-words-lt-RECORD_WORDS.true)
    ])

pub returns : goal.returns
unfolding finished head16
returns c =
    let a = c.args in
    finishing a.self a.words.now _ a.diags
    (front_written a.words.now 16 _ _ c.copy_from_slice.ensures.after refl
    ∙ sym (simp (c.if-self.false, le-ltb _ _ c.if-words-lt-RECORD_WORDS.false)))
