-- The five links one after the other.
use Rattle.definition_log.proofs.Follow.{follow_heads}
use Rattle.definition_log.proofs.links.Walk.heads.Goals as goal

pub returns : goal.returns
returns g c =
    follow_heads _ _ _ _ _ _ _ _ _ _ _ _
    c.out_field.ensures c.out_field-2.ensures c.out_field-3.ensures c.out_field-4.ensures c.out_field-5.ensures
    c.follow.ensures c.follow-2.ensures c.follow-3.ensures c.follow-4.ensures c.follow-5.ensures
