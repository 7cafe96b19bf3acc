-- Refused, or read (Sizes: printed_read).
use mathlib.Core.Path.{refl}
use Rattle.listing.proofs.Pages.{puts_same}
use Rattle.listing.proofs.Sizes.{printed_read}
use Rattle.listing.proofs.list_input.Goals as goal

pub returns-in-Err : goal.returns-in-Err
returns-in-Err c = puts_same (rw c.in-Err.is at c.records_of.ensures.refusal) c.put_refusal.ensures

pub returns-in-Ok : goal.returns-in-Ok
returns-in-Ok c =
    let r = rw c.in-Ok.is at c.records_of.ensures.count in
    puts_same (printed_read c.args.input.now _ _ r.0 refl r.1) c.list_records.ensures
