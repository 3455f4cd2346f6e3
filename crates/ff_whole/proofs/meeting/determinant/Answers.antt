use Rattle.ff_whole.proofs.Bounds.{read, trip, difference, multiple, fits_exactly}
use mir.Syntax.{w64, w128}
use Rattle.ff_whole.proofs.meeting.determinant.Goals as goal

pub overflow_sub-result : goal.overflow_sub-result
overflow_sub-result c =
    let a = trip w128 (read w64 c.requires.a_below tt) tt in
    let b = trip w128 (read w64 c.requires.b_below tt) tt in
    let k = trip w128 (read w64 c.requires.c_below tt) tt in
    let d = trip w128 (read w64 c.requires.d_below tt) tt in
    fits_exactly w128 (difference (trip w128 (multiple a d) tt) (trip w128 (multiple k b) tt)) tt

pub returns : goal.returns
returns c =
    let a = trip w128 (read w64 c.requires.a_below tt) tt in
    let b = trip w128 (read w64 c.requires.b_below tt) tt in
    let k = trip w128 (read w64 c.requires.c_below tt) tt in
    let d = trip w128 (read w64 c.requires.d_below tt) tt in
    (trip w128 (difference (trip w128 (multiple a d) tt) (trip w128 (multiple k b) tt)) tt).is
