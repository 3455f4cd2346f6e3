use Rattle.ff_borders.proofs.SideFaces.{sides_have_places, side_faces_overlap, side_faces_have_common}
use Rattle.ff_borders.proofs.laws.side_faces_have_common.Goals as goal

pub returns-clause-places : goal.returns-clause-places
returns-clause-places c = λ pattern faces folded h. sides_have_places h

pub returns-clause-two : goal.returns-clause-two
returns-clause-two c = λ pattern faces folded h. side_faces_overlap h

pub returns-clause-three : goal.returns-clause-three
returns-clause-three c = λ pattern faces folded h. side_faces_have_common h
