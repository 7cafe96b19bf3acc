-- Cut short, of too many records, or with all of them (Sizes: printed_short, printed_many).
use native.Mathlib.Omega.{arith}
use Rattle.listing.proofs.Sizes.{printed_short, printed_many}
use Rattle.listing.proofs.records_of.Goals as goal

pub returns-then-input-lt-WORD_BYTES : goal.returns-then-input-lt-WORD_BYTES
returns-then-input-lt-WORD_BYTES c = record { count = tt; refusal = printed_short c.args.input.now (omega arith) }

pub returns-then-input-from : goal.returns-then-input-from
returns-then-input-from c = record { count = tt; refusal = printed_short c.args.input.now (omega (arith, c.word_at-count.ensures)) }

pub returns-then-count-gt-MOST_RECORDS : goal.returns-then-count-gt-MOST_RECORDS
returns-then-count-gt-MOST_RECORDS c = record {
  count = tt;
  refusal = printed_many c.args.input.now (omega (arith, c.word_at-count.ensures)) (omega (arith, c.word_at-count.ensures));
}

pub returns : goal.returns
returns c = record { count = (c.word_at-count.ensures, omega arith, omega arith); refusal = tt }
