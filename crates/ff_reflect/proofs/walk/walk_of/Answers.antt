use Rattle.ff_reflect.specs.Sheets.{paper_of}
use Rattle.ff_reflect.specs.Walked.{met_of}
use Rattle.ff_reflect.proofs.Taken.{in_order, take_there, to_next, within_order, place_within}
use Rattle.ff_reflect.proofs.walk.walk_of.Goals as goal

pub take-requires-clause-face : goal.take-requires-clause-face
take-requires-clause-face c = in_order (met_of c.loop-place.walk.tree.items) c.loop-place.place c.face_at-face.result
    (within_order c.loop-place.walk.tree.items c.loop-place.place (place_within c.loop-place.walk.tree c.loop-place.place c.len.result c.len.ensures c.loop-place-test.true)) c.face_at-face.ensures

pub take-requires-clause-there : goal.take-requires-clause-there
take-requires-clause-there c = take_there (paper_of c.args.pattern.now c.args.faces.now) _ (met_of c.loop-place.walk.tree.items) _ c.loop-place.place c.face_at-face.result c.loop-place.invariant
    (within_order c.loop-place.walk.tree.items c.loop-place.place (place_within c.loop-place.walk.tree c.loop-place.place c.len.result c.len.ensures c.loop-place-test.true)) c.face_at-face.ensures

pub loop-place-preserved : goal.loop-place-preserved
loop-place-preserved c = to_next (paper_of c.args.pattern.now c.args.faces.now) (met_of c.loop-place.walk.met.items) (met_of c.loop-place.walk.tree.items) c.loop-place.walk.seen.items c.loop-place.place c.face_at-face.result c.take.new.self
    c.loop-place.invariant (within_order c.loop-place.walk.tree.items c.loop-place.place (place_within c.loop-place.walk.tree c.loop-place.place c.len.result c.len.ensures c.loop-place-test.true)) c.face_at-face.ensures c.in_ok-take.ensures
