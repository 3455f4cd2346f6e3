use Rattle.ff_types.proofs.PlainSheets.{plain_drawing, plain_faces, plain_folding}
use Rattle.ff_types.proofs.FewFaces.{one_face_stacks, one_face_only}
use Rattle.ff_types.proofs.laws.plain_sheets_lie_flat.Goals as goal

pub returns-clause-drawing : goal.returns-clause-drawing
returns-clause-drawing c = λ points edges r. plain_drawing points edges r.near r.apart r.convex r.enough r.cycle

pub returns-clause-face : goal.returns-clause-face
returns-clause-face c = λ points edges marks sides s. let r = s.ring in plain_faces points edges r.near r.apart r.convex r.enough r.cycle marks s.as_many_marks s.border sides s.as_many_sides s.inward

pub returns-clause-folding : goal.returns-clause-folding
returns-clause-folding c = λ points edges marks sides s. let r = s.ring in plain_folding points edges r.near r.apart r.convex r.enough r.cycle marks s.as_many_marks s.border sides s.as_many_sides s.inward

pub returns-clause-stacking : goal.returns-clause-stacking
returns-clause-stacking c = λ g one. (one_face_stacks g one, λ above s. one_face_only g above one s.stacking)
