use mathlib.Core.Path.{refl, ap}
use Rattle.definition_log.specs.meaning.Record.{first_text}
use Rattle.definition_log.specs.meaning.ReadBack.{read_labels}
use Rattle.listing.specs.meaning.Listing.{label_line}
use Rattle.listing.proofs.Pages.{puts_same}
use Rattle.listing.proofs.Walks.{lines_next, lines_end, lines_of}
use Rattle.listing.proofs.lines.put_labels.Invariants.{label}
use Rattle.listing.proofs.lines.put_labels.Goals as goal

pub loop-r-init : goal.loop-r-init
unfolding read_labels
loop-r-init c =
    let a = c.args in
    let text = first_text a.log.words.now a.log.bytes.now in
    rw (c.into_iter-r-iterator.ensures.into_iter_gives, c.chain-r-items.ensures, lines_of label_line text) refl

pub loop-r-preserved : goal.loop-r-preserved
loop-r-preserved c =
    let a = c.args in
    lines_next (label a.log.words.now a.log.bytes.now) _ _ _ c.loop-r.invariant _ _ c.in-Some.ensures.steps _
    (puts_same (ap label_line c.first_text.ensures) c.put_label.ensures)

pub returns : goal.returns
returns c =
    let a = c.args in
    record { gives = lines_end (label a.log.words.now a.log.bytes.now) _ _ _ c.loop-r.invariant c.in-None.ensures.steps.0 }
