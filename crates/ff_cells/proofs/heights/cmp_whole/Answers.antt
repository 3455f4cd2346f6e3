use Rattle.std.proofs.Common.{◌≡◌, ◌∙◌, sym, pos, ◌*ℤ◌}
use mir.Syntax.{w64, w128}
use Rattle.std.specs.Ordering.{int_cmp}
use Rattle.ff_whole.proofs.Bounds.{given, literal, read, trip, difference, multiple, known, fits_exactly}
use Rattle.ff_cells.specs.Strip.{at_x}
use Rattle.ff_cells.proofs.Fractions.{height_as_rise}
use Rattle.ff_cells.proofs.heights.cmp_whole.Goals as goal

pub overflow_mul-of_k : goal.overflow_mul-of_k
overflow_mul-of_k c =
    let k = c.requires.k_size in let l = c.requires.l_size in
    let r = known c.whole_rise.ensures (difference (multiple (given k.c_below) (literal 1)) (multiple (given k.a_below) (read w64 c.requires.x_size tt))) in
    fits_exactly w128 (multiple (trip w128 (trip w64 r tt) tt) (trip w128 (read w64 l.b_below tt) tt)) tt

pub overflow_mul-of_l : goal.overflow_mul-of_l
overflow_mul-of_l c =
    let k = c.requires.k_size in let l = c.requires.l_size in
    let r = known c.whole_rise-2.ensures (difference (multiple (given l.c_below) (literal 1)) (multiple (given l.a_below) (read w64 c.requires.x_size tt))) in
    fits_exactly w128 (multiple (trip w128 (trip w64 r tt) tt) (trip w128 (read w64 k.b_below tt) tt)) tt

pub returns : goal.returns
returns c =
    let k = c.requires.k_size in let l = c.requires.l_size in
    let r = known c.whole_rise.ensures (difference (multiple (given k.c_below) (literal 1)) (multiple (given k.a_below) (read w64 c.requires.x_size tt))) in
    let t = known c.whole_rise-2.ensures (difference (multiple (given l.c_below) (literal 1)) (multiple (given l.a_below) (read w64 c.requires.x_size tt))) in
    let u = trip w128 (multiple (trip w128 (trip w64 r tt) tt) (trip w128 (read w64 l.b_below tt) tt)) tt in
    let v = trip w128 (multiple (trip w128 (trip w64 t tt) tt) (trip w128 (read w64 k.b_below tt) tt)) tt in
    c.cmp.ensures ∙ (λ i. int_cmp (u.is i) (v.is i))
    ∙ sym (height_as_rise c.args.k c.args.l (at_x c.args.x) c.requires.k_rises c.requires.l_rises)
