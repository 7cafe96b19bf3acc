use borrow.Author.Rules.{rules}
use mathlib.Core.Path.{refl, sym, ◌∙◌}
use native.Mathlib.Omega.{arith}
use Rattle.making.proofs.Dropping.{drop_start, drop_next, drop_end, length_words_left, length_bytes_left}
use Rattle.making.proofs.drop.drop_records.Goals as goal

pub loop-r-init : goal.loop-r-init
loop-r-init c =
    let a = c.args in
    (search rules, refl, refl, λ used es p l b. rw (drop_start a.mark es p) l)

pub loop-r-preserved : goal.loop-r-preserved
loop-r-preserved c =
    let a = c.args in
    let l = c.loop-r in (
      omega arith,
      rw c.drop_record.ensures.words_after (length_words_left l.words l.r ∙ l.invariant.1),
      rw c.drop_record.ensures.bytes_after (length_bytes_left l.words l.bytes l.r ∙ l.invariant.2),
      λ used es p lay b. rw (c.drop_record.ensures.words_after, c.drop_record.ensures.bytes_after) (drop_next a.mark l.r es p l.invariant.0 (omega (arith, lay.records_are)) b
          (l.invariant.3 used es p lay b)),
    )

pub returns : goal.returns
returns c =
    let a = c.args in
    let l = c.loop-r in
    record {
      layout = λ used es p lay b. rw (sym (drop_end a.mark l.r es (omega (arith, lay.records_are))))
          (l.invariant.3 used es p lay b);
    }
