use mathlib.Core.Path.{refl, sym, ap, ◌∙◌}
use native.Mathlib.Omega.{arith}
use Rattle.input.specs.machine.OfRecord.{contents_of}
use Rattle.items.specs.meaning.Lower.{lower_items}
use Rattle.input.specs.machine.ChainLeft.{chain_left}
use Rattle.input.proofs.Read.{some_nesting, contents_shallow}
use Rattle.items.proofs.ChainWalked.{record_there, record_shallow}
use Rattle.lowering.proofs.CountsGrow.{node_grows}
use Rattle.items.proofs.Short.{short_lowers}
use Rattle.items.proofs.NodeLowered.{node_at_lem, node_aside, node_discarded, node_nowhere}
use Rattle.lowering.proofs.ItemsLowered.{items_start, items_whole, item_good, items_more, is_node_lem, is_property_lem}
use Rattle.lowering.proofs.ItemsLowered.{is_directive_lem, is_preprocessor, is_other, parts_good, body_good}
use Rattle.lowering.proofs.lower_item.+nesting.Goals as goal

pub lower_dt_node-returns-then-ctx : goal.lower_dt_node-returns-then-ctx
lower_dt_node-returns-then-ctx t c = short_lowers (λ p. node_grows _ _ _ _ p) c.if-ctx.true

pub lower_dt_node-place_node-placed-requires : goal.lower_dt_node-place_node-placed-requires
lower_dt_node-place_node-placed-requires t c = record { good = parts_good _ _ _ c.requires.good }

pub lower_dt_node-overflow_sub-deeper : goal.lower_dt_node-overflow_sub-deeper
lower_dt_node-overflow_sub-deeper t c =
    omega (arith, some_nesting c.args.node c.args.nesting c.requires.shallow)

pub lower_dt_node-lower_items-requires : goal.lower_dt_node-lower_items-requires
lower_dt_node-lower_items-requires t c =
    let h = c.requires.shallow in
    let b = c.contents-body.ensures in (
      omega (arith, some_nesting c.args.node c.args.nesting h),
      (rw (b.input, b.next) (contents_shallow c.args.node c.args.nesting h), rw (b.input, b.next) (body_good _ _ _ c.requires.good)),
    )

pub lower_dt_node-lower_items-apart-requires : goal.lower_dt_node-lower_items-apart-requires
lower_dt_node-lower_items-apart-requires t c =
    let h = c.requires.shallow in
    let b = c.contents-body.ensures in (
      omega (arith, some_nesting c.args.node c.args.nesting h),
      (rw (b.input, b.next) (contents_shallow c.args.node c.args.nesting h), rw (b.input, b.next) (body_good _ _ _ c.requires.good)),
    )

pub lower_dt_node-lower_items-apart-requires-in-Dropped : goal.lower_dt_node-lower_items-apart-requires-in-Dropped
lower_dt_node-lower_items-apart-requires-in-Dropped t c =
    let h = c.requires.shallow in
    let b = c.contents-body.ensures in (
      omega (arith, some_nesting c.args.node c.args.nesting h),
      (rw (b.input, b.next) (contents_shallow c.args.node c.args.nesting h), rw (b.input, b.next) (body_good _ _ _ c.requires.good)),
    )

pub lower_dt_node-returns-in-At : goal.lower_dt_node-returns-in-At
lower_dt_node-returns-in-At t c = node_at_lem
    (λ q u. lower_items c.args.level (contents_of c.args.node) q u)
    c.if-ctx.false
    c.place_node-placed.ensures c.in-At.is
    (rw (c.contents-body.ensures.input, c.contents-body.ensures.next) at c.lower_items.ensures)

pub lower_dt_node-returns-in-Aside : goal.lower_dt_node-returns-in-Aside
lower_dt_node-returns-in-Aside t c = node_aside
    (λ q u. lower_items c.args.level (contents_of c.args.node) q u)
    c.if-ctx.false
    c.place_node-placed.ensures _ _
    c.in-Aside.is
    c.enter-inner.ensures
    (rw (c.contents-body.ensures.input, c.contents-body.ensures.next) at c.lower_items-apart.ensures)
    c.settle_aside.ensures

pub lower_dt_node-returns-in-Dropped : goal.lower_dt_node-returns-in-Dropped
lower_dt_node-returns-in-Dropped t c = node_discarded
    (λ q u. lower_items c.args.level (contents_of c.args.node) q u)
    c.if-ctx.false
    c.place_node-placed.ensures
    c.in-Dropped.is
    c.enter-inner-in-Dropped.ensures
    (rw (c.contents-body.ensures.input, c.contents-body.ensures.next) at c.lower_items-apart-in-Dropped.ensures)
    c.leave_dropped.ensures

pub lower_dt_node-returns-in-Nowhere : goal.lower_dt_node-returns-in-Nowhere
lower_dt_node-returns-in-Nowhere t c = node_nowhere
    (λ q u. lower_items c.args.level (contents_of c.args.node) q u)
    c.if-ctx.false
    c.place_node-placed.ensures c.in-Nowhere.is

pub lower_item-returns-in-1 : goal.lower_item-returns-in-1
lower_item-returns-in-1 t c = let a = c.args in
    is_node_lem a.level a.item.input.words.now a.item.input.text.now a.item.number (sym c.kind-kind.ensures ∙ c.in-1.is) c.lower_dt_node.ensures

pub lower_item-lower_dt_property-requires-clause-good : goal.lower_item-lower_dt_property-requires-clause-good
lower_item-lower_dt_property-requires-clause-good t c = parts_good _ _ _ c.requires.good

pub lower_item-returns-in-2 : goal.lower_item-returns-in-2
lower_item-returns-in-2 t c = let a = c.args in
    is_property_lem a.level a.item.input.words.now a.item.input.text.now a.item.number
    (sym c.kind-kind.ensures ∙ c.in-2.is) c.lower_dt_property.ensures

pub lower_item-handle_dts_directive-requires : goal.lower_item-handle_dts_directive-requires
lower_item-handle_dts_directive-requires t c = record { good = parts_good _ _ _ c.requires.good }

pub lower_item-returns-in-3 : goal.lower_item-returns-in-3
lower_item-returns-in-3 t c = let a = c.args in
    is_directive_lem a.level a.item.input.words.now a.item.input.text.now a.item.number
    (sym c.kind-kind.ensures ∙ c.in-3.is) c.handle_dts_directive.ensures

pub lower_item-returns-in-4 : goal.lower_item-returns-in-4
lower_item-returns-in-4 t c = let a = c.args in
    is_preprocessor a.level a.item.input.words.now a.item.input.text.now a.item.number
    (sym c.kind-kind.ensures ∙ c.in-4.is) c.emit_code.ensures

pub lower_item-returns-in_default : goal.lower_item-returns-in_default
lower_item-returns-in_default t c = let a = c.args in
    is_other a.level a.item.input.words.now a.item.input.text.now a.item.number (λ e. omega arith) (λ e. omega arith) (λ e. omega arith) (λ e. omega arith)

pub lower_items-loop-r-init : goal.lower_items-loop-r-init
lower_items-loop-r-init t c =
    let a = c.args in
    let e = ap chain_left c.into_iter-r-iterator.ensures.into_iter_gives in (
      refl,
      refl,
      rw e (items_start a.level a.items a.nesting c.requires.shallow c.requires.good),
    )

pub lower_items-invariant_of-item : goal.lower_items-invariant_of-item
lower_items-invariant_of-item t c =
    let inv = rw c.in-Some.ensures.steps at c.loop-r.invariant in
    record { known = record_there inv.2.chain }

pub lower_items-lower_item-state-requires : goal.lower_items-lower_item-state-requires
lower_items-lower_item-state-requires t c =
    let inv = rw c.in-Some.ensures.steps at c.loop-r.invariant in
    (omega arith, (record_shallow inv.2.chain, item_good inv.2))

pub lower_items-loop-r-preserved : goal.lower_items-loop-r-preserved
lower_items-loop-r-preserved t c =
    let inv = rw c.in-Some.ensures.steps at c.loop-r.invariant in (
      c.lower_item-state.auto.out ∙ inv.0,
      c.lower_item-state.auto.bytes ∙ inv.1,
      items_more inv.2 c.lower_item-state.ensures,
    )

pub lower_items-returns : goal.lower_items-returns
lower_items-returns t c = items_whole (rw c.in-None.ensures.steps.0 at c.loop-r.invariant).2
