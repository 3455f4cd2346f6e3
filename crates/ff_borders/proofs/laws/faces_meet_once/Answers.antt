use Rattle.ff_borders.proofs.RingEdges.{ring_edges_dont_cross, faces_meet_once}
use Rattle.ff_borders.proofs.laws.faces_meet_once.Goals as goal

pub returns-clause-edges : goal.returns-clause-edges
returns-clause-edges c = λ pattern faces folded h. ring_edges_dont_cross h

pub returns-clause-faces : goal.returns-clause-faces
returns-clause-faces c = λ pattern faces folded h. faces_meet_once h
