use Rattle.ff_whole.proofs.Bounds.{read, trip, difference, multiple, fits_exactly}
use mir.Syntax.{w64, w128}
use Rattle.ff_whole.proofs.heights.rise_at.Goals as goal

pub overflow_sub-result : goal.overflow_sub-result
overflow_sub-result c =
    let l = c.requires.line_size in
    let p = c.requires.at_size in
    let high = multiple (trip w128 (read w64 l.c_below tt) tt) (read w128 p.w_below tt) in
    let low = multiple (trip w128 (read w64 l.a_below tt) tt) (read w128 p.x_below tt) in
    fits_exactly w128 (difference (trip w128 high tt) (trip w128 low tt)) tt

pub returns : goal.returns
returns c =
    let l = c.requires.line_size in
    let p = c.requires.at_size in
    let high = multiple (trip w128 (read w64 l.c_below tt) tt) (read w128 p.w_below tt) in
    let low = multiple (trip w128 (read w64 l.a_below tt) tt) (read w128 p.x_below tt) in
    (trip w128 (difference (trip w128 high tt) (trip w128 low tt)) tt).is
