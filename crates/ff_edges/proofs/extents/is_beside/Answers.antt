use Rattle.ff_edges.proofs.Eithers.{first_tells, second_tells, ends_tell}
use Rattle.ff_edges.proofs.extents.is_beside.Goals as goal

pub returns-then-are_beside : goal.returns-then-are_beside
returns-then-are_beside c =
    let a = c.requires.a_extent in
    let b = c.requires.b_extent in
    first_tells c.are_beside.result _ _ (ends_tell c.are_beside.result a.low_near.x_below a.high_near.x_below b.low_near.x_below b.high_near.x_below c.are_beside.ensures) c.if-are_beside.true

pub returns-else-are_beside : goal.returns-else-are_beside
returns-else-are_beside c =
    let a = c.requires.a_extent in
    let b = c.requires.b_extent in
    second_tells c.are_beside.result c.are_beside-else-are_beside.result _ _
    (ends_tell c.are_beside.result a.low_near.x_below a.high_near.x_below b.low_near.x_below b.high_near.x_below c.are_beside.ensures)
    (ends_tell c.are_beside-else-are_beside.result a.low_near.y_below a.high_near.y_below b.low_near.y_below b.high_near.y_below c.are_beside-else-are_beside.ensures)
    c.if-are_beside.false
