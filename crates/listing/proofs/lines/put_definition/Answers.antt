-- Only a node has labels (Letters: node_lines, plain_lines).
use Prim.Native.Nat.{ℕ}
use mathlib.Core.List.{flat_map}
use mathlib.Core.Path.{ap, sym, ◌∙◌}
use borrow.Author.Tests.{eq-eqb, ne_eqb}
use Rattle.definition_log.specs.meaning.ReadBack.{read_labels}
use Rattle.listing.specs.meaning.Listing.{label_line}
use Rattle.listing.proofs.Letters.{node_lines, plain_lines}
use Rattle.listing.proofs.Pages.{puts_same}
use Rattle.listing.proofs.lines.put_definition.Goals as goal

pub returns-then-kind_of-eq-NODE : goal.returns-then-kind_of-eq-NODE
returns-then-kind_of-eq-NODE c =
    let a = c.args in
    node_lines a.log.words.now a.log.bytes.now a.r c.put_definition_line.ensures
    (eq-eqb _ _ (sym c.kind_of.ensures ∙ c.if-kind_of-eq-NODE.true))
    (puts_same (ap (λ (first : ℕ). flat_map label_line (read_labels a.log.words.now a.log.bytes.now first)) c.child_of.ensures)
    c.put_labels.ensures)

pub returns-else-kind_of-eq-NODE : goal.returns-else-kind_of-eq-NODE
returns-else-kind_of-eq-NODE c =
    let a = c.args in
    plain_lines a.log.words.now a.log.bytes.now a.r c.put_definition_line.ensures
    (ne_eqb _ _ (λ e. c.if-kind_of-eq-NODE.false (c.kind_of.ensures ∙ e)))
