-- By whether there is a record, and whether it lies in the words.
use Rattle.std.proofs.Common.{sym}
use borrow.Author.Tests.{eq-eqb, ne_eqb}
use lib.Seq.{set_out}
use Rattle.making.specs.machine.Removed.{set_next}
use Rattle.making.proofs.remove.set_next.Goals as goal
use Rattle.making.proofs.remove.set_next.Goals.{else-r-ne0-via-then-r-ne0+else-at-words, else-r-ne0-via-else-r-ne0}

pub returns-then-at-words : goal.returns-then-at-words
unfolding set_next
returns-then-at-words c = simp (ne_eqb _ _ c.if-r-ne0.true)

pub returns-else-r-ne0 : goal.returns-else-r-ne0
unfolding set_next
returns-else-r-ne0 c =
    elim c.else-r-ne0.branch [
      | else-r-ne0-via-then-r-ne0+else-at-words w ↦ simp (ne_eqb _ _ w.if-r-ne0.true) (sym (set_out _ _ _ w.if-at-words.false))
      | else-r-ne0-via-else-r-ne0 w ↦ simp (eq-eqb _ _ w.if-r-ne0.false)
    ]
