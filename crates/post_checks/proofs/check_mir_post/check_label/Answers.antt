-- By whether the label was bound before (Duplicates).
use mathlib.Core.List.{map}
use Rattle.definition_log.specs.meaning.ReadBack.{binding_at}
use Rattle.definition_log.specs.machine.ChainLeft.{walk_left}
use Rattle.post_checks.proofs.Duplicates.{label_none, label_some}
use Rattle.post_checks.proofs.check_mir_post.check_label.Goals as goal

pub returns-then-binds_label : goal.returns-then-binds_label
returns-then-binds_label c = let a = c.args in label_none _ (binding_at a.out.now a.bytes.now a.r)
    (map (binding_at a.out.now a.bytes.now) (walk_left a.out.now a.before))
    (map (binding_at a.out.now a.bytes.now) (walk_left a.out.now a.rest)) _
    c.binds_label.ensures c.if-binds_label.true

pub returns : goal.returns
returns c = let a = c.args in label_some _ (binding_at a.out.now a.bytes.now a.r)
    (map (binding_at a.out.now a.bytes.now) (walk_left a.out.now a.before))
    (map (binding_at a.out.now a.bytes.now) (walk_left a.out.now a.rest)) _
    c.binds_label.ensures
    c.if-binds_label.false c.check_bindings.ensures
