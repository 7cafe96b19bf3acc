-- Cleared buffers hold the empty log (Empty).
use lib.ListN.{length}
use Rattle.making.proofs.Empty.{starts}
use Rattle.making.proofs.start.start.Goals as goal

pub returns : goal.returns
returns c = let a = c.args in starts _ _
    (length a.words.now) (length a.bytes.now) _ c.clear.ensures.words_after
    c.clear.ensures.bytes_after c.log_count.ensures
