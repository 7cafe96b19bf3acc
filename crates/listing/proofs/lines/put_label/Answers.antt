-- Its parts, one behind the other.
use Rattle.listing.specs.meaning.Listing.{ascii, label_line}
use Rattle.listing.proofs.Pages.{then_puts}
use Rattle.listing.proofs.lines.put_label.Goals as goal

pub returns : goal.returns
unfolding label_line ascii
returns c = then_puts (then_puts c.put_text.ensures c.put_text-2.ensures) c.put_byte.ensures
