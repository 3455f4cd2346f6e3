use Rattle.std.proofs.Common.{arith}
use Rattle.ff_whole.proofs.Signs.{linear}
use Rattle.ff_edges.proofs.extents.joined.Goals as goal

pub returns-clause-first : goal.returns-clause-first
returns-clause-first c = λ q a.
    let l = c.low_of.ensures in
    let h = c.high_of.ensures in
    let lx = l.first_x in let ly = l.first_y in let hx = h.first_x in let hy = h.first_y in
    let w = a.west in let e = a.east in let s = a.south in let n = a.north in
    record { west = omega (arith, linear); east = omega (arith, linear); south = omega (arith, linear); north = omega (arith, linear) }

pub returns-clause-second : goal.returns-clause-second
returns-clause-second c = λ q a.
    let l = c.low_of.ensures in
    let h = c.high_of.ensures in
    let lx = l.second_x in let ly = l.second_y in let hx = h.second_x in let hy = h.second_y in
    let w = a.west in let e = a.east in let s = a.south in let n = a.north in
    record { west = omega (arith, linear); east = omega (arith, linear); south = omega (arith, linear); north = omega (arith, linear) }
