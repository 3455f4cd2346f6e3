use Rattle.ff_edges.proofs.Eithers.{both_tell, touch_tells}
use Rattle.ff_edges.proofs.extents.is_touching.Goals as goal

pub returns-then-are_touching : goal.returns-then-are_touching
returns-then-are_touching c =
    let a = c.requires.a_extent in
    let b = c.requires.b_extent in
    both_tell c.are_touching.result c.are_touching-then-are_touching.result _ _
    (touch_tells c.are_touching.result a.low_near.x_below a.high_near.x_below b.low_near.x_below b.high_near.x_below c.are_touching.ensures)
    (touch_tells c.are_touching-then-are_touching.result a.low_near.y_below a.high_near.y_below b.low_near.y_below b.high_near.y_below c.are_touching-then-are_touching.ensures)
    c.if-are_touching.true
