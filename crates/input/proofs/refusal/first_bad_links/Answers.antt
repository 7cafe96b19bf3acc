use Prim.Native.Nat.{ℕ}
use mathlib.Core.Path.{ap, ◌∙◌}
use Rattle.input.specs.meaning.Rows.{bad_links, lowest, row_two}
use Rattle.input.proofs.RowsLoops.{lowest_starts, lowest_here, lowest_later, lowest_done}
use Rattle.input.proofs.RowsMarks.{marks_more}
use Rattle.input.proofs.refusal.first_bad_links.Goals as goal

pub loop-r-init : goal.loop-r-init
loop-r-init c = (c.requires, lowest_starts (bad_links c.args.records.words.now) c.args.records.count)

pub bad_links-requires : goal.bad_links-requires
bad_links-requires c = c.loop-r.invariant.0

pub returns-then-bad_links : goal.returns-then-bad_links
unfolding row_two
returns-then-bad_links c =
    let test = bad_links c.args.records.words.now in
    let l = c.loop-r in
    lowest_here test _ l.r _ l.invariant.1 _ c.loop-r-test.true c.bad_links.ensures c.if-bad_links.true
    ∙ ap (λ (k : ℕ). lowest test k 0) c.args.records.counted

pub loop-r-preserved : goal.loop-r-preserved
loop-r-preserved c =
    let w = c.args.records.words.now in
    let l = c.loop-r in (
      marks_more w l.r _ _ l.invariant.0 c.mark_links.ensures,
      lowest_later (bad_links w) _ l.r _ l.invariant.1 _ c.loop-r-test.true c.bad_links.ensures c.if-bad_links.false,
    )

pub returns : goal.returns
unfolding row_two
returns c =
    let test = bad_links c.args.records.words.now in
    let l = c.loop-r in
    lowest_done test _ l.r _ l.invariant.1 c.loop-r-test.false
    ∙ ap (λ (k : ℕ). lowest test k 0) c.args.records.counted
