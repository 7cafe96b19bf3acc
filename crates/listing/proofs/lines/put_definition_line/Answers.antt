-- Its parts, one behind the other, each read from the record.
use Prim.Native.Nat.{ℕ}
use Prim.Native.Char.{code}
use mathlib.Core.List.{[], ◌∷◌}
use mathlib.Core.Path.{ap}
use Rattle.definition_log.specs.meaning.ReadBack.{def_at}
use Rattle.listing.specs.meaning.Listing.{span_field, path_field, definition_line}
use Rattle.listing.proofs.Pages.{puts_same, then_puts}
use Rattle.listing.proofs.lines.put_definition_line.Goals as goal

pub returns : goal.returns
unfolding definition_line def_at
returns c =
    let letter = ap (λ (l : ℕ). code "D" ∷ code " " ∷ l ∷ code " " ∷ []) (c.letter_of.ensures c.args.log.bytes.now) in
    let head = puts_same letter c.put_text.ensures in
    let path = puts_same (ap path_field c.first_text.ensures) c.put_path.ensures in
    let span = puts_same (ap span_field c.span_of.ensures) c.put_span.ensures in
    let name = puts_same (ap span_field c.name_span_of.ensures) c.put_span-2.ensures in
    then_puts (then_puts (then_puts (then_puts head path) span) name) c.put_byte.ensures
