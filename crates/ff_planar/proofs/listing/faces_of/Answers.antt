use Rattle.std.proofs.Common.{arith, refl, ◌<◌, ◌≤◌, length, subst}
use Rattle.ff_planar.specs.Given.{AreFilled}
use Rattle.ff_planar.proofs.GivenFaces.{faces_from, too_many, no_faces}
use Rattle.ff_planar.proofs.listing.faces_of.Goals as goal

pub returns-in-Err : goal.returns-in-Err
returns-in-Err c = no_faces c.args.points.now c.args.edges.now c.args.marks.now c.in-Err.no c.in-Err.ensures

pub returns-then-len-gt-MOST_FACES : goal.returns-then-len-gt-MOST_FACES
returns-then-len-gt-MOST_FACES c =
    let f = c.in-Ok.ensures in
    let a = c.len.ensures in
    let b = c.in-Ok.found.rings.ok in
    let l : 2048 < length c.in-Ok.found.rings.items = omega (arith, a, b, c.if-len-gt-MOST_FACES.true) in
    ((f.found.clear, (refl, (c.in-Ok.found.rings.items, f.found.rings_are, l))), λ d others r m. too_many c.args.points.now c.args.edges.now c.args.marks.now c.in-Ok.found.rings.items c.in-Ok.found.seen.items f l others r m)

pub returns : goal.returns
returns c =
    let f = c.in-Ok.ensures in
    let a = c.len.ensures in
    let b = c.in-Ok.found.rings.ok in
    let l : length c.in-Ok.found.rings.items ≤ 2048 = omega (arith, a, b, c.if-len-gt-MOST_FACES.false) in
    let filled = subst (λ s. AreFilled c.args.marks.now s c.in_ok-filled.filled.items) c.deref.ensures.value c.in_ok-filled.ensures in
    rw (c.of.ensures, c.of-2.ensures, c.of-3.ensures) (record { drawing = f.drawing; faces_are = faces_from c.args.points.now c.args.edges.now c.args.marks.now c.in-Ok.found.rings.items c.in-Ok.found.seen.items f c.in_ok-filled.filled.items filled; few = l })
