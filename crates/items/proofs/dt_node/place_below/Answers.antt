-- Outside a node, or under its parent (NodePlaced).
use mathlib.Core.Path.{sym, ap, ◌∙◌}
use mathlib.Core.Bool.{true, false}
use mathlib.Core.List.{List, [], ◌∷◌}
use Prim.Native.Nat.{ℕ}
use Rattle.paths_numbers.proofs.Good.{plain_not_root}
use Rattle.input.specs.meaning.Report.{report}
use Rattle.input.specs.meaning.Name.{node_name_span}
use Rattle.items.specs.meaning.Lower.{at, placed_as}
use Rattle.input.specs.meaning.Input.{child_at, span_at, chain_at}
use Rattle.input.proofs.GoodNames.{full_plain}
use Rattle.input.proofs.NameRead.{full_joined}
use Rattle.items.proofs.NodePlaced.{places_at, places_nowhere, named_outside, named_below}
use Rattle.items.proofs.dt_node.place_below.Goals as goal

pub returns-then-is_top : goal.returns-then-is_top
returns-then-is_top c =
    let s = c in
    let words = s.args.node.input.words.now in
    let text = s.args.node.input.text.now in
    let parts = chain_at words text (child_at words s.args.node.number) in
    let name_span = node_name_span parts (span_at words s.args.node.number) in
    λ n e.
    rw c.placed_nowhere.ensures (places_nowhere (λ p. placed_as p n name_span []) (report 5 [] name_span ∷ []) true
    (sym c.is_top.ensures
    ∙ c.if-is_top.true)
    (λ p q. named_outside n name_span p (plain_not_root n (full_plain parts n s.requires.good e).slashless) q)
    c.refuse_node.ensures)

pub returns : goal.returns
returns c =
    let s = c in
    let words = s.args.node.input.words.now in
    let text = s.args.node.input.text.now in
    let first = child_at words s.args.node.number in
    let parts = chain_at words text first in
    let name_span = node_name_span parts (span_at words s.args.node.number) in
    λ n e.
    rw c.placed_at.ensures (places_at (λ p. placed_as p n name_span []) false (sym
    c.is_top.ensures
    ∙ c.if-is_top.false)
    (λ p q.
    named_below n name_span p (plain_not_root n (full_plain parts n s.requires.good e).slashless) q
    ∙ ap (λ (x : List ℕ). record { place = at x; reports = [] })
    (full_joined words text first s.args.full s.requires.read s.requires.good p n e))
    c.define_below.ensures)
