use Rattle.ff_whole.proofs.Bounds.{trip, difference, fits_exactly, below_exactly, below-more}
use mir.Syntax.{w64}
use Rattle.ff_reflect.proofs.Products.{part}
use Rattle.ff_reflect.proofs.image.turn_of.Goals as goal

pub overflow_mul-result : goal.overflow_mul-result
overflow_mul-result c =
    let p = c.requires.p_near in let q = c.requires.q_near in let r = c.requires.r_near in
    fits_exactly w64 (part q.x_below p.x_below r.y_below p.y_below) tt

pub overflow_mul-result-2 : goal.overflow_mul-result-2
overflow_mul-result-2 c =
    let p = c.requires.p_near in let q = c.requires.q_near in let r = c.requires.r_near in
    fits_exactly w64 (part q.y_below p.y_below r.x_below p.x_below) tt

pub overflow_sub-result-5 : goal.overflow_sub-result-5
overflow_sub-result-5 c =
    let p = c.requires.p_near in let q = c.requires.q_near in let r = c.requires.r_near in
    fits_exactly w64 (difference (trip w64 (part q.x_below p.x_below r.y_below p.y_below) tt) (trip w64 (part q.y_below p.y_below r.x_below p.x_below) tt)) tt

pub returns-clause-value : goal.returns-clause-value
returns-clause-value c =
    let p = c.requires.p_near in let q = c.requires.q_near in let r = c.requires.r_near in
    (trip w64 (difference (trip w64 (part q.x_below p.x_below r.y_below p.y_below) tt) (trip w64 (part q.y_below p.y_below r.x_below p.x_below) tt)) tt).is

pub returns-clause-size : goal.returns-clause-size
returns-clause-size c =
    let p = c.requires.p_near in let q = c.requires.q_near in let r = c.requires.r_near in
    below-more (below_exactly (trip w64 (difference (trip w64 (part q.x_below p.x_below r.y_below p.y_below) tt) (trip w64 (part q.y_below p.y_below r.x_below p.x_below) tt)) tt)) tt
