-- The three links one after the other.
use Rattle.definition_log.proofs.Follow.{follow_record}
use Rattle.definition_log.proofs.links.Walk.record.Goals as goal

pub returns : goal.returns
returns g c =
    follow_record _ c.args.code _ _ _ _ _ _ _ _ _ _
    c.next_of.ensures c.from.ensures c.kind_of.ensures c.below.ensures c.child_of.ensures c.body_link.ensures
    c.follow.ensures c.follow-2.ensures c.follow-3.ensures
