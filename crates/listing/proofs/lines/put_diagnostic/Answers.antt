-- Its parts, one behind the other, each read from the record; its text is not among them.
use mathlib.Core.Path.{ap}
use Rattle.definition_log.specs.meaning.ReadBack.{diag_at}
use Rattle.listing.specs.meaning.Listing.{ascii, decimal, span_field, diagnostic_line}
use Rattle.listing.proofs.Pages.{puts_same, then_puts}
use Rattle.listing.proofs.lines.put_diagnostic.Goals as goal

pub returns : goal.returns
unfolding diagnostic_line diag_at ascii
returns c =
    let code = puts_same (ap decimal c.out_field.ensures) c.put_number.ensures in
    let span = puts_same (ap span_field c.span_of.ensures) c.put_span.ensures in
    then_puts (then_puts (then_puts c.put_text.ensures code) span) c.put_byte.ensures
