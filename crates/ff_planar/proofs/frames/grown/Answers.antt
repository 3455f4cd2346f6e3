use Rattle.std.proofs.Common.{arith}
use Rattle.ff_whole.proofs.Signs.{linear}
use Rattle.ff_planar.proofs.frames.grown.Goals as goal

pub returns-clause-here : goal.returns-clause-here
returns-clause-here c = let l = c.low_of.ensures in let h = c.high_of.ensures in record { west = l.second_x; east = h.second_x; south = l.second_y; north = h.second_y }

pub returns-clause-others : goal.returns-clause-others
returns-clause-others c = λ q a.
    let l = c.low_of.ensures in
    let h = c.high_of.ensures in
    let lx = l.first_x in let ly = l.first_y in let hx = h.first_x in let hy = h.first_y in
    let w = a.west in let e = a.east in let s = a.south in let n = a.north in
    record { west = omega (arith, linear, lx, w); east = omega (arith, linear, hx, e); south = omega (arith, linear, ly, s); north = omega (arith, linear, hy, n) }
