-- Its parts, one behind the other.
use Rattle.listing.proofs.Pages.{then_puts}
use Rattle.listing.specs.meaning.Listing.{span_field}
use Rattle.listing.proofs.page.Page.put_span.Goals as goal

pub returns : goal.returns
unfolding span_field
returns c = then_puts (then_puts (then_puts c.put_byte.ensures c.put_number.ensures) c.put_byte-2.ensures) c.put_number-2.ensures
