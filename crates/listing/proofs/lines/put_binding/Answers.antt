-- Its parts, one behind the other, each read from the record.
use mathlib.Core.Path.{ap}
use Rattle.definition_log.specs.meaning.ReadBack.{binding_at}
use Rattle.listing.specs.meaning.Listing.{ascii, span_field, binding_line}
use Rattle.listing.proofs.Pages.{puts_same, then_puts}
use Rattle.listing.proofs.lines.put_binding.Goals as goal

pub returns : goal.returns
unfolding binding_line binding_at ascii
returns c =
    let label = puts_same c.first_text.ensures c.put_text-2.ensures in
    let path = puts_same c.second_text.ensures c.put_text-3.ensures in
    let span = puts_same (ap span_field c.span_of.ensures) c.put_span.ensures in
    then_puts (then_puts (then_puts (then_puts (then_puts c.put_text.ensures label) c.put_byte.ensures) path) span) c.put_byte-2.ensures
