-- By the name, else by the reference (Directives).
use mathlib.Core.Path.{ap, ◌∙◌}
use mathlib.Core.Option.{Option}
use Rattle.definition_log.specs.machine.Parts.{meant}
use Rattle.making.specs.meaning.State.{emit}
use Rattle.input.specs.meaning.Tree.{Tree}
use Rattle.items.specs.meaning.Lower.{delete_referenced}
use Rattle.input.specs.machine.NameRead.{full_read}
use Rattle.input.proofs.Read.{first_missing, first_there}
use Rattle.resolving.proofs.Lowers.{lowers_then}
use Rattle.resolving.proofs.Under.{lowers_under, under_then}
use Rattle.items.proofs.Directives.{under_as, by_name_lem, by_reference}
use Rattle.items.proofs.item.emit_delete_node.Goals as goal

pub returns-in-Some : goal.returns-in-Some
returns-in-Some c =
    let a = c.args in
    let i = a.parts.input in
    let f = c.full_name-full in
    let k = rw c.in-Some.is at c.named_below.ensures in
    under_as (by_name_lem i.words.now i.text.now a.parts.next f.result f.ensures (meant a.span)
    c.requires.parts_value k.0)
    (under_then (lowers_under
    c.emit_name-told.ensures) (rw (k.1, k.2) at c.delete_named.ensures))

pub returns-in_default-first_of : goal.returns-in_default-first_of
returns-in_default-first_of c =
    let a = c.args in
    let i = a.parts.input in
    let f = c.full_name-full in
    under_as
    (λ p s. by_reference i.words.now i.text.now a.parts.next f.result f.ensures (meant a.span)
    (rw c.in_default.is at c.named_below.ensures) s p
    ∙ ap (λ (o : Option Tree). delete_referenced (meant a.span) o
    (emit (full_read i.words.now i.text.now f.result).reports s))
    (first_missing a.parts _ _ c.first_of.ensures i.text.now c.in_default-first_of.is))
    (lowers_under c.emit_name-told.ensures)

pub returns : goal.returns
returns c =
    let a = c.args in
    let i = a.parts.input in
    let f = c.full_name-full in
    under_as
    (λ p s. by_reference i.words.now i.text.now a.parts.next f.result f.ensures (meant a.span)
    (rw c.in_default.is at c.named_below.ensures) s p
    ∙ ap (λ (o : Option Tree). delete_referenced (meant a.span) o
    (emit (full_read i.words.now i.text.now f.result).reports s))
    (first_there a.parts _ _ c.first_of.ensures i.text.now _ c.in-Some-first_of.is))
    (lowers_under (lowers_then
    c.emit_name-told.ensures c.delete_referenced.ensures))
