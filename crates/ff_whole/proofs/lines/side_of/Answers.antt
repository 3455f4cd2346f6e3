use Rattle.ff_whole.proofs.Bounds.{read, trip, sum, difference, multiple, fits_exactly, sign_exactly}
use mir.Syntax.{w8, w64, w128}
use Rattle.ff_whole.proofs.lines.side_of.Goals as goal

pub overflow_add-along : goal.overflow_add-along
overflow_add-along c =
    let l = c.requires.line_size in
    let p = c.requires.place_size in
    let ax = multiple (trip w128 (read w64 l.a_below tt) tt) (read w128 p.x_below tt) in
    let by = multiple (trip w128 (read w64 l.b_below tt) tt) (read w128 p.y_below tt) in
    fits_exactly w128 (sum (trip w128 ax tt) (trip w128 by tt)) tt

pub overflow_mul-line : goal.overflow_mul-line
overflow_mul-line c =
    let l = c.requires.line_size in
    let p = c.requires.place_size in
    fits_exactly w128 (multiple (trip w128 (read w64 l.c_below tt) tt) (read w128 p.w_below tt)) tt

pub overflow_sub-along : goal.overflow_sub-along
overflow_sub-along c =
    let l = c.requires.line_size in
    let p = c.requires.place_size in
    let ax = multiple (trip w128 (read w64 l.a_below tt) tt) (read w128 p.x_below tt) in
    let by = multiple (trip w128 (read w64 l.b_below tt) tt) (read w128 p.y_below tt) in
    let cw = multiple (trip w128 (read w64 l.c_below tt) tt) (read w128 p.w_below tt) in
    fits_exactly w128 (difference (trip w128 (sum (trip w128 ax tt) (trip w128 by tt)) tt) (trip w128 cw tt)) tt

pub returns : goal.returns
returns c =
    let l = c.requires.line_size in
    let p = c.requires.place_size in
    let ax = multiple (trip w128 (read w64 l.a_below tt) tt) (read w128 p.x_below tt) in
    let by = multiple (trip w128 (read w64 l.b_below tt) tt) (read w128 p.y_below tt) in
    let cw = multiple (trip w128 (read w64 l.c_below tt) tt) (read w128 p.w_below tt) in
    let all = trip w128 (difference (trip w128 (sum (trip w128 ax tt) (trip w128 by tt)) tt) (trip w128 cw tt)) tt in
    sign_exactly w128 w8 _ c.signum.ensures.value all tt tt
