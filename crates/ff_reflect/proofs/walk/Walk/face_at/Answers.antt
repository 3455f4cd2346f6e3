use Rattle.ff_reflect.proofs.Taken.{face_at_place}
use Rattle.ff_reflect.proofs.walk.Walk.face_at.Goals as goal

pub returns-else-place-eq0 : goal.returns-else-place-eq0
returns-else-place-eq0 c = face_at_place c.args.self.now.tree.items c.args.place c.index.result.now c.requires c.if-place-eq0.false c.index.ensures
