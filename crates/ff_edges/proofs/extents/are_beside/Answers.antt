use Rattle.ff_edges.proofs.Eithers.{second_tells, ends_tell}
use Rattle.ff_edges.proofs.extents.are_beside.Goals as goal

pub returns-else-is_at_most : goal.returns-else-is_at_most
returns-else-is_at_most c =
    let r = c.requires in
    ends_tell c.is_at_most-else-is_at_most.result r.a_low_size r.a_high_size r.b_low_size r.b_high_size
    (second_tells c.is_at_most.result c.is_at_most-else-is_at_most.result _ _ c.is_at_most.ensures c.is_at_most-else-is_at_most.ensures c.if-is_at_most.false)
