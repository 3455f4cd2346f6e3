use Rattle.std.proofs.Common.{◌+◌, arith, subst}
use Rattle.ff_planar.specs.Traces.{IsSideOf}
use Rattle.ff_planar.proofs.FoundDarts.{found, known_side}
use Rattle.ff_planar.proofs.Neighbours.{there}
use Rattle.ff_planar.proofs.sides.face_of.Goals as goal

pub place_of-d-requires-clause-within : goal.place_of-d-requires-clause-within
place_of-d-requires-clause-within c = let r = c.requires in let l = (there c.args.points.now c.args.edges.now r.drawn.drawing c.args.dart.tail c.args.dart.head r.edge).0 in let n = r.starts.as_many in omega (arith, l, n)

pub place_of-d-requires-clause-from : goal.place_of-d-requires-clause-from
place_of-d-requires-clause-from c = let r = c.requires in let l = (there c.args.points.now c.args.edges.now r.drawn.drawing c.args.dart.tail c.args.dart.head r.edge).0 in r.starts.each c.args.dart.tail (omega (arith, l))

pub place_of-d-requires-clause-to : goal.place_of-d-requires-clause-to
place_of-d-requires-clause-to c = let r = c.requires in let l = (there c.args.points.now c.args.edges.now r.drawn.drawing c.args.dart.tail c.args.dart.head r.edge).0 in r.starts.each (c.args.dart.tail + 1) (omega (arith, l))

pub bounds-sides-d : goal.bounds-sides-d
bounds-sides-d c =
    let r = c.requires in
    let n = r.traced.as_many in
    let l = (found c.args.edges.now c.args.darts.now c.args.dart.tail c.args.dart.head c.place_of-d.result r.drawn.darts_are r.edge c.place_of-d.ensures).0 in
    omega (arith, n, l)

pub returns-in-Face : goal.returns-in-Face
returns-in-Face c =
    let r = c.requires in
    subst (IsSideOf c.args.points.now c.args.edges.now c.args.rings.now c.args.dart.tail c.args.dart.head) c.in-Face.is
    (known_side c.args.points.now c.args.edges.now c.args.darts.now c.args.rings.now c.args.sides.now c.args.dart.tail c.args.dart.head c.place_of-d.result r.drawn r.traced r.edge c.place_of-d.ensures)

pub returns-in-Outside : goal.returns-in-Outside
returns-in-Outside c =
    let r = c.requires in
    subst (IsSideOf c.args.points.now c.args.edges.now c.args.rings.now c.args.dart.tail c.args.dart.head) c.in-Outside.is
    (known_side c.args.points.now c.args.edges.now c.args.darts.now c.args.rings.now c.args.sides.now c.args.dart.tail c.args.dart.head c.place_of-d.result r.drawn r.traced r.edge c.place_of-d.ensures)

pub returns-in-Unmet : goal.returns-in-Unmet
returns-in-Unmet c =
    let r = c.requires in
    absurd (subst (IsSideOf c.args.points.now c.args.edges.now c.args.rings.now c.args.dart.tail c.args.dart.head) c.in-Unmet.is
    (known_side c.args.points.now c.args.edges.now c.args.darts.now c.args.rings.now c.args.sides.now c.args.dart.tail c.args.dart.head c.place_of-d.result r.drawn r.traced r.edge c.place_of-d.ensures))
