-- The four bytes stand where the word is read (InputWords: word_bytes_lem).
use native.Mathlib.Omega.{arith}
use Rattle.listing.proofs.InputWords.{word_bytes_lem}
use Rattle.listing.proofs.reading.word_at.Goals as goal

pub returns : goal.returns
returns c = omega (arith, word_bytes_lem c.args.s.now c.args.at, c.from_le_bytes.ensures)
