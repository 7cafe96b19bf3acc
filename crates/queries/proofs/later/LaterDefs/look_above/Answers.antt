use mathlib.Core.Path.{refl, ◌∙◌}
use mathlib.Core.List.{map}
use native.Mathlib.Omega.{arith}
use Rattle.definition_log.specs.meaning.ReadBack.{def_at}
use Rattle.queries.specs.machine.Table.{hash_from}
use Rattle.queries.proofs.Fronts.{deleted_in, above_start, above_next, above_end, hash_step, hash_end}
use Rattle.queries.proofs.later.LaterDefs.look_above.Goals as goal

pub loop-i-init : goal.loop-i-init
unfolding hash_from
loop-i-init c =
    let a = c.args in
    let defs = map (def_at a.self.log.words.now a.self.log.bytes.now) a.self.later.now in
    (refl, above_start a.path.now defs _ c.root_deleted-deleted.ensures)

pub or_deleted-deleted-requires : goal.or_deleted-deleted-requires
or_deleted-deleted-requires c = c.loop-i.invariant.0

pub loop-i-preserved : goal.loop-i-preserved
loop-i-preserved c =
    let a = c.args in
    let defs = map (def_at a.self.log.words.now a.self.log.bytes.now) a.self.later.now in
    let l = c.loop-i in (
      hash_step a.path.now l.i l.hash l.invariant.0 c.loop-i-test.true _ c.mix-hash.ensures,
      above_next (deleted_in defs) a.path.now l.i l.deleted _ l.invariant.1 c.loop-i-test.true _ (λ e. grind arith) (λ e. grind arith),
    )

pub or_deleted-requires : goal.or_deleted-requires
or_deleted-requires c =
    let l = c.loop-i in
    hash_end c.args.path.now l.i l.hash l.invariant.0 (omega (arith, c.loop-i-test.false))

pub returns : goal.returns
returns c =
    let a = c.args in
    let defs = map (def_at a.self.log.words.now a.self.log.bytes.now) a.self.later.now in
    let l = c.loop-i in
    rw (
      c.or_deleted.ensures
          ∙ above_end (deleted_in defs) a.path.now l.i l.deleted _ l.invariant.1 (omega (arith, c.loop-i-test.false)),
      hash_end a.path.now l.i l.hash l.invariant.0 (omega (arith, c.loop-i-test.false)),
    ) refl
