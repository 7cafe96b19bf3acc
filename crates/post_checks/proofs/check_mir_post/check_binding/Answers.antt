-- By whether there is a report on it (Duplicates).
use mathlib.Core.List.{map}
use Rattle.definition_log.specs.meaning.ReadBack.{binding_at}
use Rattle.definition_log.specs.machine.ChainLeft.{walk_left}
use Rattle.post_checks.proofs.Duplicates.{binding_none, binding_one}
use Rattle.post_checks.proofs.check_mir_post.check_binding.Goals as goal

pub returns-then-is_reported : goal.returns-then-is_reported
returns-then-is_reported c =
    let a = c.args in
    binding_one a.first a.r (map (binding_at a.out.now a.bytes.now) (walk_left a.out.now a.between)) _
    c.is_reported.ensures _ _ _
    c.if-is_reported.true
    c.span_of-span.ensures
    c.span_of-earlier.ensures
    c.first_place-label.ensures
    c.emit_copied.ensures.steps c.emit_copied.ensures.keeps

pub returns : goal.returns
returns c =
    let a = c.args in
    binding_none a.first a.r (map (binding_at a.out.now a.bytes.now) (walk_left a.out.now a.between)) _
    c.is_reported.ensures c.if-is_reported.false
