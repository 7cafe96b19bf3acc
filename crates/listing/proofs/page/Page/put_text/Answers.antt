use Rattle.listing.proofs.Pages.{put_left, put_all}
use Rattle.listing.proofs.page.Page.put_text.Goals as goal

pub loop-b-preserved : goal.loop-b-preserved
loop-b-preserved c =
    let l = c.loop-b in
    put_left c.args.text.now l.b-index _ _ l.invariant c.loop-b-test.true _ c.put_byte.ensures

pub returns : goal.returns
returns c =
    let l = c.loop-b in
    record { gives = put_all c.args.text.now l.b-index _ _ l.invariant c.loop-b-test.false }
