-- Its parts, one behind the other.
use mathlib.Core.Path.{ap}
use Rattle.listing.specs.meaning.Listing.{ascii, decimal, refusal_line}
use Rattle.listing.proofs.Pages.{puts_same, then_puts}
use Rattle.listing.proofs.lines.put_refusal.Goals as goal

pub returns : goal.returns
unfolding refusal_line ascii
returns c =
    let number = puts_same (ap decimal c.number.ensures) c.put_number.ensures in
    let returned = puts_same (ap decimal c.returned.ensures) c.put_number-2.ensures in
    then_puts (then_puts (then_puts (then_puts c.put_text.ensures number) c.put_byte.ensures) returned) c.put_byte-2.ensures
