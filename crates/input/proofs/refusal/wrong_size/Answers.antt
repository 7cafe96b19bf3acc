-- By the sizes in turn.
use mathlib.Core.Path.{refl}
use borrow.Author.Tests.{eq-eqb, ne_eqb, le-leb, lt-leb}
use Rattle.input.specs.meaning.Rows.{wrong_size}
use Rattle.input.proofs.refusal.wrong_size.Goals as goal

pub returns-then-words-n : goal.returns-then-words-n
unfolding wrong_size
returns-then-words-n c = rw (ne_eqb _ _ c.if-words-n.true) refl

pub returns-then-n-lt1 : goal.returns-then-n-lt1
unfolding wrong_size
returns-then-n-lt1 c = rw (eq-eqb _ _ c.if-words-n.false, lt-leb _ _ c.if-n-lt1.true) refl

pub returns-then-n-gt-MOST_RECORDS : goal.returns-then-n-gt-MOST_RECORDS
unfolding wrong_size
returns-then-n-gt-MOST_RECORDS c =
    rw (eq-eqb _ _ c.if-words-n.false, le-leb _ _ c.if-n-lt1.false, lt-leb _ _ c.if-n-gt-MOST_RECORDS.true) refl

pub returns : goal.returns
unfolding wrong_size
returns c =
    rw (eq-eqb _ _ c.if-words-n.false, le-leb _ _ c.if-n-lt1.false, le-leb _ _ c.if-n-gt-MOST_RECORDS.false) refl
