-- What was written is what is printed for all that the reader had (Sizes: whole_printed).
use lib.ListN.{take}
use Rattle.listing.proofs.Sizes.{whole_printed, on_ok}
use Rattle.listing.proofs.list.Goals as goal

pub returns : goal.returns
returns g c =
    let r = c.in_ok-n.ensures in
    let p = c.list_whole.new.page in
    on_ok c.write_all.result
    (whole_printed (g.R.Read.remaining c.args.input.now) (g.R.Read.remaining c.read_full.new.input) (g.W.Write.contents c.args.out.now)
    (g.W.Write.contents c.write_all.new.self) c.read_full.new.buf (take p.at p.bytes) c.in_ok-n.n r.in_bounds r.bytes r.end
    c.list_whole.ensures.by_index)
    c.write_all.ensures.bytes
