-- By whether the state ran short and whether the path is empty; else the definition, its values and its name's reports (PropertyMade).
use Rattle.items.proofs.PropertyMade.{property_short, property_top, property_lowers}
use Rattle.input.proofs.Read.{some_nesting, contents_shallow}
use Rattle.input.specs.meaning.Input.{child_at, second_at, span_at, chain_at}
use mathlib.Core.Path.{sym, ◌∙◌}
use native.Mathlib.Omega.{arith}
use Rattle.items.proofs.dt_property.lower_dt_property.Goals as goal

pub returns-then-ctx : goal.returns-then-ctx
returns-then-ctx c = let a = c.args in
    let words = a.property.input.words.now in
    property_short a.level (chain_at words a.property.input.text.now (child_at words a.property.number)) (chain_at words a.property.input.text.now (second_at words a.property.number))
    (span_at words a.property.number) c.if-ctx.true

pub returns-then-is_top : goal.returns-then-is_top
returns-then-is_top c = let a = c.args in
    let words = a.property.input.words.now in
    property_top a.level (chain_at words a.property.input.text.now (child_at words a.property.number)) (chain_at words a.property.input.text.now (second_at words a.property.number))
    (span_at words a.property.number) c.if-ctx.false
    (sym c.is_top.ensures
    ∙ c.if-is_top.true) c.emit_code.ensures

pub overflow_sub-nesting : goal.overflow_sub-nesting
overflow_sub-nesting c =
    omega (arith, some_nesting c.args.property c.args.nesting c.requires.shallow)

pub lower_prop_values-filled-requires : goal.lower_prop_values-filled-requires
lower_prop_values-filled-requires c =
    record { shallow = rw (c.contents.ensures.input, c.contents.ensures.next) (contents_shallow c.args.property c.args.nesting c.requires.shallow) }

pub returns : goal.returns
returns c = let s = c
    in
    let words = s.args.property.input.words.now in
    let text = s.args.property.input.text.now in
    property_lowers s.args.level s.args.property
    c.full_name-name.result
    (rw (c.parts.ensures.input, c.parts.ensures.next) at
    c.full_name-name.ensures) s.requires.good
    c.named_below-named.result
    c.named_below-named.ensures
    c.define_property-made.ensures (rw
    (c.is_some.ensures, c.contents.ensures.input, c.contents.ensures.next) at
    c.lower_prop_values-filled.ensures)
    c.emit_name.ensures
    c.if-ctx.false
    (sym c.is_top.ensures
    ∙ c.if-is_top.false)
