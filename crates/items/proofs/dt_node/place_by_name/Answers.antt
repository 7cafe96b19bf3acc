-- By the name, by the slash, or dropped (NodePlaced).
use mathlib.Core.Path.{sym, ap, ◌∙◌}
use Prim.Native.Nat.{ℕ}
use mathlib.Core.List.{List}
use Rattle.input.specs.meaning.Report.{Got}
use Rattle.input.specs.meaning.Name.{full_name, node_name_span}
use Rattle.input.specs.meaning.Input.{child_at, span_at, chain_at}
use Rattle.input.specs.machine.NameRead.{is_there}
use Rattle.items.proofs.Reported.{same_reports}
use Rattle.items.proofs.NodePlaced.{name_decides, slash_decides, nothing_decides, there_some, not_there}
use Rattle.items.proofs.dt_node.place_by_name.Goals as goal

pub returns-then-is_named : goal.returns-then-is_named
returns-then-is_named c =
    let s = c in
    let words = s.args.node.input.words.now in
    let text = s.args.node.input.text.now in
    let parts = chain_at words text (child_at words s.args.node.number) in
    let read = (rw (c.parts-parts.ensures.input, c.parts-parts.ensures.next) at c.full_name-full.ensures).read text in
    let there = there_some (full_name parts).result (sym (ap (λ (x : Got (List ℕ)). is_there x.result) read)
    ∙ sym (c.is_named.ensures words text)
    ∙ c.if-is_named.true) in
    name_decides parts (span_at words s.args.node.number) (node_name_span parts (span_at words s.args.node.number)) (full_name parts).reports
    (same_reports (ap (λ (x : Got (List ℕ)). x.reports) read)
    c.emit_name-reported.ensures)
    there.0 there.1 (c.place_below.ensures there.0 there.1)

pub returns-then-has_kind : goal.returns-then-has_kind
returns-then-has_kind c =
    let s = c in
    let words = s.args.node.input.words.now in
    let text = s.args.node.input.text.now in
    let parts = chain_at words text (child_at words s.args.node.number) in
    let read = (rw (c.parts-parts.ensures.input, c.parts-parts.ensures.next) at c.full_name-full.ensures).read text in
    let none-there = not_there (full_name parts).result (sym (ap (λ (x : Got (List ℕ)). is_there x.result) read)
    ∙ sym (c.is_named.ensures words text)
    ∙ c.if-is_named.false) in
    slash_decides parts (span_at words s.args.node.number) (node_name_span parts (span_at words s.args.node.number)) (full_name parts).reports
    (same_reports (ap (λ (x : Got (List ℕ)). x.reports) read)
    c.emit_name-reported.ensures) none-there
    (sym (rw (c.parts-parts.ensures.input, c.parts-parts.ensures.next) at (c.has_kind.ensures text))
    ∙ c.if-has_kind.true) c.place_root.ensures

pub returns : goal.returns
returns c =
    let s = c in
    let words = s.args.node.input.words.now in
    let text = s.args.node.input.text.now in
    let parts = chain_at words text (child_at words s.args.node.number) in
    let read = (rw (c.parts-parts.ensures.input, c.parts-parts.ensures.next) at c.full_name-full.ensures).read text in
    let none-there = not_there (full_name parts).result (sym (ap (λ (x : Got (List ℕ)). is_there x.result) read)
    ∙ sym (c.is_named.ensures words text) ∙ c.if-is_named.false) in
    nothing_decides parts (span_at words s.args.node.number) (node_name_span parts (span_at words s.args.node.number)) (full_name parts).reports
    (same_reports (ap (λ (x : Got (List ℕ)). x.reports) read)
    c.emit_name-reported.ensures) none-there
    (sym (rw (c.parts-parts.ensures.input, c.parts-parts.ensures.next) at (c.has_kind.ensures text)) ∙ c.if-has_kind.false)
