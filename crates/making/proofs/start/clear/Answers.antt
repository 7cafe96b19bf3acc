-- Each buffer is filled.
use Rattle.making.proofs.start.clear.Goals as goal

pub returns : goal.returns
returns c = record { words_after = c.fill.ensures.after (λ y h. h); bytes_after = c.fill-2.ensures.after (λ y h. h) }
