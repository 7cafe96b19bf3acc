-- The queue keeps its length, and the records in it that are left decide (Search).
use native.Mathlib.Nat.{sub-zero}
use Rattle.std.proofs.Common.{arith, sym, ◌≡◌}
use Rattle.definition_log.specs.machine.Walk.{held, follow_all}
use Rattle.definition_log.specs.meaning.Sound.{head_links}
use Rattle.definition_log.proofs.Follow.{same_length}
use Rattle.definition_log.proofs.Search.{walk_all, walk_end, walk_done, walk_next}
use Rattle.definition_log.proofs.links.Walk.all.Goals as goal

pub loop-i-init : goal.loop-i-init
loop-i-init g c =
    let w = c.args.words.now in
    let s = c.args.self.now in
    let h = c.heads.new.self in
    let e : held h.marks h.queue h.met ≡ follow_all w (head_links w) (held s.marks s.queue 0) = rw (← c.requires) c.heads.ensures in
    let k = same_length w _ _ _ _ _ _ _ e in
    (omega (arith, k), rw sub-zero (sym (walk_all w s.marks s.queue h.marks h.queue h.met k e)))

pub returns-then-self-i : goal.returns-then-self-i
returns-then-self-i g c =
    let s = c.loop-i.self in
    walk_done c.args.words.now s.marks s.queue s.met c.loop-i.i _ c.loop-i.invariant.1 (omega arith) (omega arith)

pub loop-i-preserved : goal.loop-i-preserved
loop-i-preserved g c =
    let s = c.loop-i.self in
    let k = same_length _ _ _ _ _ _ _ _ c.record.ensures in
    let next = walk_next c.args.words.now s.marks s.queue s.met c.loop-i.i _ c.loop-i.invariant.1 _ _ _ in
    (omega (arith, k), next (omega arith) (omega arith) k c.record.ensures)

pub returns : goal.returns
returns g c =
    let s = c.loop-i.self in
    walk_end c.args.words.now s.marks s.queue s.met c.loop-i.i _ c.loop-i.invariant.1 (omega arith)
