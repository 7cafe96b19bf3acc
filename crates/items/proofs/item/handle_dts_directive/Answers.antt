-- By the directive's W (Directives).
use native.Mathlib.Omega.{arith}
use Rattle.input.proofs.ChainLeft.{parts_left}
use Rattle.items.proofs.Directives.{is_version, is_plugin_lem, is_include, is_delete_node, is_delete_property, is_other}
use Rattle.items.proofs.item.handle_dts_directive.Goals as goal

pub returns-in-1 : goal.returns-in-1
returns-in-1 c =
    let a = c.args in
    is_version a.directive.input.words.now a.directive.input.text.now a.directive.number _
    c.number_at.ensures
    c.span-span.ensures
    c.in-1.is c.define_at.ensures

pub returns-in-2 : goal.returns-in-2
returns-in-2 c =
    let a = c.args
    in
    is_plugin_lem a.directive.input.words.now a.directive.input.text.now a.directive.number _
    c.number_at.ensures
    c.span-span.ensures
    c.in-2.is c.define_at-in-2.ensures

pub returns-in-3 : goal.returns-in-3
returns-in-3 c =
    let a = c.args in
    is_include a.directive.input.words.now a.directive.input.text.now a.directive.number _
    c.number_at.ensures
    c.span-span.ensures
    c.in-3.is
    c.no_text.ensures c.emit.ensures

pub returns-in-4 : goal.returns-in-4
returns-in-4 c =
    let a = c.args in
    is_delete_node a.directive.input.words.now a.directive.input.text.now a.directive.number _
    c.number_at.ensures
    c.span-span.ensures
    c.in-4.is
    (parts_left a.directive.input a.directive.number c.parts-parts.result c.parts-parts.ensures.input c.parts-parts.ensures.next)
    c.emit_delete_node.ensures

pub returns-in-5 : goal.returns-in-5
returns-in-5 c =
    let a = c.args in
    is_delete_property a.directive.input.words.now a.directive.input.text.now a.directive.number _
    c.number_at.ensures
    c.span-span.ensures
    c.in-5.is
    (parts_left a.directive.input a.directive.number c.parts-parts.result c.parts-parts.ensures.input c.parts-parts.ensures.next)
    c.emit_delete_property.ensures

pub returns-in_default : goal.returns-in_default
returns-in_default c =
    let a = c.args in
    is_other a.directive.input.words.now a.directive.input.text.now a.directive.number _ c.number_at.ensures
    (λ e. omega arith) (λ e. omega arith)
    (λ e. omega arith) (λ e. omega arith) (λ e. omega arith)
